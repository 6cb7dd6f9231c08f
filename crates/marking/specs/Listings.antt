-- What is known of a card once all before the root has been judged.
use Rattle.std.specs.Prelude.{◌≡◌, ℕ, ◌<◌, true, List, length, IfOk, Result}
use Rattle.faults.specs.declared.card.CardFault.{CardFault}
use Rattle.temporal.specs.Game.{Spec}
use Rattle.tableau.specs.Card.{node_at, move_at}
use Rattle.tableau.specs.Form.{move_formed}
use Rattle.tableau.specs.Acceptable.{NodeFormed}
use Rattle.index.specs.declared.Slot.{Slot}
use Rattle.records.specs.Raw.{RawCard, model}
use Rattle.records.specs.Table.{formula_of}
use Rattle.rested.specs.declared.key.FormulaKey.{FormulaKey}
use Rattle.rested.specs.Listing.{Ready}
use Rattle.formed.specs.Copied.{records_of}
use Rattle.steps.specs.Sets.{Labelled}
use Rattle.marking.specs.declared.listing.Listing.{Listing}

-- entries are of good form, the records are the card's formulas, the slots index them, and the places are right
pub record ListedAs (spec : Spec) (c : RawCard) (slots : List (Slot FormulaKey)) (l : Listing) : Type 0 where
  pub labelled : Labelled spec c
  pub nodes : (n : ℕ) → n < length c.nodes → NodeFormed (model c) (node_at (model c) n)
  pub moves : (m : ℕ) → m < length c.moves → move_formed spec (move_at (model c) m) ≡ true
  pub records : records_of l.records ≡ c.formulas
  pub ready : Ready c.formulas slots
  pub initial_below : l.places.initial < length c.formulas
  pub initial_is : formula_of c.formulas l.places.initial ≡ spec.initial
  pub safety_below : l.places.safety < length c.formulas
  pub safety_is : formula_of c.formulas l.places.safety ≡ spec.safety

abbrev pub Lists : Spec → RawCard → List (Slot FormulaKey) → Result Listing CardFault → Type 0
Lists spec c slots r = IfOk r (ListedAs spec c slots)
