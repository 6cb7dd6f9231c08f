-- The conditions that look at a card's entries one by one, and their faults.
use Rattle.std.specs.Prelude.{ℕ, List, [], ◌∷◌, ◌++◌, map, length}
use Rattle.faults.specs.declared.card.CardFault.{CardFault}
use Rattle.faults.specs.declared.card.CardFault.TheVariants.{Refused}
use Rattle.faults.specs.declared.card.CardReason.TheVariants.{Entry, Equal}
use Rattle.faults.specs.declared.card.CardList.{CardList}
use Rattle.faults.specs.declared.card.CardList.TheVariants.{Formulas}
use Rattle.tableau.specs.Lists.{span}
use Rattle.tableau.specs.Card.{Card}
use Rattle.tableau.specs.Conditions.{Condition, formula_count, label_count, node_count, move_count, kind_known}
use Rattle.tableau.specs.Conditions.{formula_form, label_form, node_form, move_form}

-- counts and kind
abbrev pub count_conditions : List Condition
count_conditions = formula_count ∷ (label_count ∷ (node_count ∷ (move_count ∷ (kind_known ∷ []))))

-- the form of all entries, list by list
abbrev pub form_conditions : Card → List Condition
form_conditions c =
    map formula_form (span (length c.formulas) 0)
    ++ (map label_form (span (length c.labels) 0)
    ++ (map node_form (span (length c.nodes) 0)
    ++ map move_form (span (length c.moves) 0)))

-- an entry of bad form in a list
abbrev pub unformed_at : CardList → ℕ → CardFault
unformed_at l place = Refused Entry l place

-- a formula that equals an earlier one
abbrev pub equal_at : ℕ → CardFault
equal_at place = Refused Equal Formulas place
