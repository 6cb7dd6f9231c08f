use Rattle.std.proofs.Common.{◌≡◌, ℕ, ◌<◌, ◌≤◌, length, get_or, None}
use Rattle.records.specs.Table.{formulas_of, formula_of}
use Rattle.rested.specs.Listing.{Ready}
use Rattle.rested.specs.Rests.{Rested}
use Rattle.rested.proofs.rest.rests.Given as goal

abbrev pub invariant-loop-i : goal.invariant-loop-i
invariant-loop-i g l =
    (Ready l.records l.slots → (k : ℕ) → k < length l.yielded
    → Rested (g.R.Reading.literals l.reading) (formulas_of l.records) (formula_of l.records k) (get_or l.memo k None))
    × ((k : ℕ) → length l.yielded ≤ k → get_or l.memo k None ≡ None)
    × (length l.memo ≡ 1024)
