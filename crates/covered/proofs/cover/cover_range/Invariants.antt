use Rattle.std.proofs.Common.{◌≡◌, drop}
use Rattle.covered.specs.Marks.{range_from}
use Rattle.covered.proofs.cover.cover_range.Given as goal

-- what is left to do gives the answer
abbrev pub invariant-loop-i : goal.invariant-loop-i
invariant-loop-i l = range_from l.held (drop l.i l.records) l.i l.covered ≡ range_from l.held l.records 0 l.initial.covered
