-- What examining a text and a card gives.
use Rattle.std.specs.Prelude.{ℕ, cond, ◌||◌, List, Ok, Err, Result, nat_lt}
use Rattle.faults.specs.declared.Buffer.TheVariants as buffer
use Rattle.faults.specs.declared.TextFault.{TextFault}
use Rattle.faults.specs.declared.Fault.{Fault as ReadFault}
use Rattle.faults.specs.declared.Fault.TheVariants as reading
use Rattle.faults.specs.declared.card.CardFault.{CardFault}
use Rattle.faults.specs.declared.card.CardFault.TheVariants.{Short}
use Rattle.tableau.specs.Conditions.{Fault}
use Rattle.tableau.specs.Judge.{Verdict, judge}
use Rattle.records.specs.Raw.{RawCard, model}
use Rattle.rules.specs.Read.{View, reads}
use Rattle.rules.specs.Laws.{game_of}
use Rattle.judged.specs.Judged.{fault_of}
use Rattle.marking.specs.Verdicts.{marked_as}
use Rattle.examination.specs.declared.examine.Examined.{Examined}
use Rattle.examination.specs.declared.fault.MarkFault.{MarkFault}
use Rattle.examination.specs.declared.fault.MarkFault.TheVariants.{Text, Card}

-- how many variables of each kind there are, and the verdict with the depth
pub record Passed : Type 0 where
  pub environment : ℕ
  pub system : ℕ
  pub marked : Verdict × ℕ

-- a refusal: of the text, or of the card by the judge's numbers
pub data Refusal : Type 0 where
  bad_text : TextFault → Refusal
  bad_card : Fault → Refusal

-- a card judged for the specification v
abbrev pub sized : View → Result (Verdict × ℕ) Fault → Result Passed Refusal
sized v (Ok r) = Ok (record { environment = (game_of v).environment; system = (game_of v).system; marked = r })
sized v (Err e) = Err (bad_card e)

-- the card is judged if the text is read
abbrev pub judged_for : RawCard → Result View ReadFault → Result Passed Refusal
judged_for c (Ok v) = sized v (judge (game_of v) (model c))
judged_for c (Err (reading.Text t)) = Err (bad_text t)
judged_for c (Err (reading.Short b)) = Err (bad_card (fault_of (Short b)))

abbrev pub enough_slots : ℕ → ℕ → ℕ → Result (Unit {0}) CardFault
enough_slots names formulas records =
    cond (nat_lt names 2048 || (nat_lt formulas 2048 || nat_lt records 2048)) (Err (Short buffer.Index)) (Ok tt)

-- each kind of key needs 2,048 slots, which is judged first; then the text, then the card
abbrev pub examines : ℕ → ℕ → ℕ → List ℕ → RawCard → Result Passed Refusal
examines names formulas records text c =
    cond (nat_lt names 2048 || (nat_lt formulas 2048 || nat_lt records 2048)) (Err (bad_card (fault_of (Short buffer.Index)))) (judged_for c (reads text))

-- an answer of the code in these terms
abbrev pub examined_as : Result Examined MarkFault → Result Passed Refusal
examined_as (Ok e) = Ok (record { environment = e.variables.environment; system = e.variables.system; marked = marked_as e.marked })
examined_as (Err (Text t)) = Err (bad_text t)
examined_as (Err (Card f)) = Err (bad_card (fault_of f))
