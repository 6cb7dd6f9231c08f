use Rattle.std.proofs.Common.{◌≡◌}
use Rattle.covered.specs.Marks.{held_marks}
use Rattle.covered.proofs.hold.hold.Given as goal

-- what is left to do gives the answer; items are numbered from 0
abbrev pub invariant-loop-i : goal.invariant-loop-i
invariant-loop-i l =
    (held_marks l.i-iterator.iter.iter.rest.now l.marks ≡ held_marks l.records l.initial.marks) × (l.i-iterator.iter.count ≡ 0)
