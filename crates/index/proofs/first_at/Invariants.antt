use Rattle.std.specs.Fn.{FnReturnsAt}
use Rattle.index.specs.First.{NoneBefore}
use Rattle.index.proofs.first_at.Given as goal

-- at the slots that were tried the test gave false
abbrev pub invariant-loop-at : goal.invariant-loop-at
invariant-loop-at g l = NoneBefore (FnReturnsAt g.F.Fn l.stops) l.slots l.at
