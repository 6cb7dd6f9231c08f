use Rattle.std.proofs.Common.{◌≡◌, drop}
use Rattle.covered.specs.Marks.{ranges_from}
use Rattle.covered.proofs.cover.cover_ranges.Given as goal

-- what is left to do gives the answer
abbrev pub invariant-loop-i : goal.invariant-loop-i
invariant-loop-i l =
    ranges_from l.records l.held (drop l.i l.records) l.i l.covered
    ≡ ranges_from l.records l.held l.records 0 l.initial.covered
