-- What checking a card answers, and what that means.
use Rattle.std.specs.Prelude.{ℕ, cond, Ok, Err, Result, nat_lt}
use Rattle.faults.specs.declared.Buffer.TheVariants as buffer
use Rattle.faults.specs.declared.card.CardFault.{CardFault}
use Rattle.faults.specs.declared.card.CardFault.TheVariants.{Short}
use Rattle.temporal.specs.Game.{Spec, SystemWins, EnvironmentWins}
use Rattle.tableau.specs.Card.{Card}
use Rattle.tableau.specs.Conditions.{Fault}
use Rattle.tableau.specs.Judge.{Verdict, realizable, unrealizable, judge}
use Rattle.tableau.specs.Acceptable.{Accepted, Refused}
use Rattle.judged.specs.Judged.{fault_of}
use Rattle.marking.specs.declared.verdict.Marked.{Marked}
use Rattle.marking.specs.Verdicts.{marked_as}

-- the answer in the judge's terms
abbrev pub checked_as : Result Marked CardFault → Result (Verdict × ℕ) Fault
checked_as (Ok m) = Ok (marked_as m)
checked_as (Err e) = Err (fault_of e)

-- an index under 2,048 slots is refused before anything else; otherwise the judge decides
abbrev pub checks : ℕ → Spec → Card → Result (Verdict × ℕ) Fault
checks slots spec c = cond (nat_lt slots 2048) (Err (fault_of (Short buffer.Index))) (judge spec c)

-- the player that a verdict names wins, and the other does not
abbrev pub Wins : Spec → Verdict → Type 0
Wins spec realizable = SystemWins spec × (EnvironmentWins spec → ⊥)
Wins spec unrealizable = EnvironmentWins spec × (SystemWins spec → ⊥)

-- an accepted card keeps every condition, with this verdict and depth, and the player that the verdict names wins; a refused one breaks
-- the condition of the fault, and keeps all that come before it in the order
abbrev pub Means : Spec → Card → Result (Verdict × ℕ) Fault → Type 0
Means spec c (Ok r) = Accepted spec c r × Wins spec r.0
Means spec c (Err e) = Refused spec c e
