use Rattle.std.proofs.Common.{◌≡◌, ◌+◌, ◌-◌, max}
use Rattle.records.specs.Raw.{model}
use Rattle.depth.specs.Deepest.{held_depth, deepest_from}
use Rattle.depth.proofs.deepest_target.Given as goal

-- what was found and the moves that are left give the deepest target
abbrev pub invariant-loop-k : goal.invariant-loop-k
invariant-loop-k g l =
    let c = model (g.S.CardSource.card l.source) in
    let d = held_depth l.depths in
    max l.deepest (deepest_from c d (l.fn.node.move_count - l.k) (l.first + l.k)) ≡ deepest_from c d l.fn.node.move_count l.first
