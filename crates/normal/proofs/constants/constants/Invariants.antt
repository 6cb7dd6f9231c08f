use Rattle.std.proofs.Common.{◌≡◌, length, None}
use Rattle.normal.specs.Constants.{constant_at}
use Rattle.normal.proofs.Filled.{Filled}
use Rattle.normal.proofs.constants.constants.Given as goal

-- the places below i have the constants of their nodes
abbrev pub invariant-loop-i : goal.invariant-loop-i
invariant-loop-i l = Filled (constant_at l.nodes) None l.i l.constants × (length l.constants ≡ 1024)
