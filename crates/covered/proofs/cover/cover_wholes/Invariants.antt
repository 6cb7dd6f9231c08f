use Rattle.std.proofs.Common.{◌≡◌, drop}
use Rattle.covered.specs.Marks.{joined_from}
use Rattle.covered.proofs.cover.cover_wholes.Given as goal

-- what is left to do gives the answer
abbrev pub invariant-loop-i : goal.invariant-loop-i
invariant-loop-i l =
    joined_from l.everything (drop l.i l.records) l.i l.covered
    ≡ joined_from l.everything l.records 0 l.initial.covered
