use Rattle.std.proofs.Common.{◌≡◌, length}
use Rattle.depth.specs.Descending.{Descending}
use Rattle.depth.proofs.Passes.{Passed}
use Rattle.depth.proofs.depth.Given as goal

-- the nodes from n on are done
abbrev pub invariant-loop-n : goal.invariant-loop-n
invariant-loop-n g l =
    let c = g.S.CardSource.card l.source in
    (length l.depths ≡ 1024) × (Descending c → Passed c l.depths l.n)
