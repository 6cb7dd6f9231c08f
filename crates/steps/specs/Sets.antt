-- Labels and rests as marks over a card's formulas.
use Rattle.std.specs.Prelude.{◌≡◌, ℕ, ◌<◌, Bool, true, false, List, ◌∷◌, ◌++◌, map, length, Some, None, Option}
use Rattle.temporal.specs.Formula.{Formula, Reading}
use Rattle.temporal.specs.Game.{Spec}
use Rattle.tableau.specs.Lists.{span, all}
use Rattle.tableau.specs.Cover.{covers}
use Rattle.tableau.specs.Met.{met, rests}
use Rattle.tableau.specs.Card.{label_at, label_tree}
use Rattle.records.specs.declared.FormulaRecord.{FormulaRecord}
use Rattle.records.specs.declared.NodeRecord.{NodeRecord}
use Rattle.records.specs.Raw.{RawCard, model}
use Rattle.records.specs.Table.{Table, Listed, formulas_of, formula_of}
use Rattle.covered.specs.Meaning.{Members, Covers}
use Rattle.rested.specs.Rests.{has_all, AllRested}

-- what is known of a card's formulas and labels once their form and equal formulas have been judged
pub record Labelled (spec : Spec) (c : RawCard) : Type 0 where
  pub table : Table spec c.formulas
  pub labels : (i : ℕ) → i < length c.labels → label_at (model c) i < length c.formulas

-- the formulas of a node's label
abbrev pub label_in : RawCard → NodeRecord → List Formula
label_in c x = map (label_tree (model c)) (span x.label_count x.first_label)

-- from the marks of any set to the marks of the set and the node's label
abbrev pub AddsLabel : RawCard → NodeRecord → List Bool → List Bool → Type 0
AddsLabel c x before after =
    (spec : Spec) → Labelled spec c → (S : List Formula) → Members c.formulas S before → Members c.formulas (S ++ label_in c x) after

-- marks of the node's label
abbrev pub MarksLabel : RawCard → NodeRecord → List Bool → Type 0
MarksLabel c x ms = (spec : Spec) → Labelled spec c → Members c.formulas (label_in c x) ms

-- marks of the safety formula, which has the number `safety`, and of the node's label
abbrev pub MarksObligations : RawCard → ℕ → NodeRecord → List Bool → Type 0
MarksObligations c safety x ms =
    (spec : Spec) → Labelled spec c → safety < length c.formulas → formula_of c.formulas safety ≡ spec.safety
    → Members c.formulas (spec.safety ∷ label_in c x) ms

-- the rests of a set by a reading: none where one of the formulas met is not listed, and otherwise the marks of all the rests
abbrev pub RestsOf : List FormulaRecord → Reading → List Formula → Option (List Bool) → Type 0
RestsOf rs R S None = all (λ f. has_all (formulas_of rs) (met R f)) S ≡ false
RestsOf rs R S (Some ms) =
    (all (λ f. has_all (formulas_of rs) (met R f)) S ≡ true) × Members rs (rests R S) ms × Listed rs (rests R S)

-- from the marks of a set and the rests of all formulas to the rests of the set
abbrev pub TakesRests : ℕ → List (Option ℕ) → List Bool → Option (List Bool) → Type 0
TakesRests count memo ms r =
    (spec : Spec) (rs : List FormulaRecord) (R : Reading) (S : List Formula)
    → length rs ≡ count → Table spec rs → Listed rs S → Members rs S ms → AllRested R rs memo → RestsOf rs R S r

-- does one set cover all members of another?
abbrev pub TellsCovered : ℕ → List Bool → List Bool → Bool → Type 0
TellsCovered count ms cs r =
    (spec : Spec) (rs : List FormulaRecord) (S L : List Formula)
    → length rs ≡ count → Table spec rs → Listed rs S → Members rs S ms → Covers rs L cs → r ≡ all (covers L) S
