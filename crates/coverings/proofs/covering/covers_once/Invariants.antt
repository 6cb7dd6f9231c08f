use Rattle.std.proofs.Common.{◌≡◌, ◌-◌, min}
use Rattle.coverings.proofs.Counts.{AllFormed, Counted}
use Rattle.coverings.proofs.covering.covers_once.Given as goal

-- the marks are those of the moves so far, none of them marked twice
abbrev pub invariant-loop-k : goal.invariant-loop-k
invariant-loop-k g l =
    let c = g.S.CardSource.card l.source in
    (l.marks.high ≡ min (l.variables - 6) 10)
    × (AllFormed l.side c l.node l.marks.high → Counted l.side c l.node l.marks.high l.marks.words l.k)
