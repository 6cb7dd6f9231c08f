-- What a call over a card answers, as the judge of cards says it.
use Rattle.std.specs.Prelude.{◌≡◌, List, Ok, Err, Result}
use Rattle.temporal.specs.Game.{Spec}
use Rattle.tableau.specs.Card.{Card}
use Rattle.tableau.specs.Conditions.{Condition, Fault, fault_at}
use Rattle.tableau.specs.Judge.{judged_by}
use Rattle.faults.specs.declared.card.CardFault.{CardFault}
use Rattle.faults.specs.Cards.{card_fault_number, card_fault_list, card_fault_place}

-- a fault by its numbers: no two faults have the same
abbrev pub fault_of : CardFault → Fault
fault_of f = fault_at (card_fault_number f) (card_fault_list f) (card_fault_place f)

-- passed, or the fault
abbrev pub judgment : {A : Type 0} → Result A CardFault → Result (Unit {0}) Fault
judgment (Ok x) = Ok tt
judgment (Err e) = Err (fault_of e)

-- the answer is the judge's on these conditions: passed, or the fault of the first that is not kept
abbrev pub Judges : {A : Type 0} → Spec → Card → List Condition → Result A CardFault → Type 0
Judges spec c xs r = judgment r ≡ judged_by spec c xs
