use Rattle.std.proofs.Common.{◌≡◌, length}
use Rattle.steps.proofs.Sifts.{Sifted}
use Rattle.steps.proofs.sets.rest_marks.Given as goal

abbrev pub invariant-loop-i : goal.invariant-loop-i
invariant-loop-i l = Sifted l.memo l.marks l.i l.rests × (length l.rests ≡ 1024)
