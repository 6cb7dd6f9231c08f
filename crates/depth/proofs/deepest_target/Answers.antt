use Rattle.std.proofs.Common.{◌≡◌, ◌+◌, ◌-◌, sym, ap, ◌∙◌}
use Rattle.tableau.specs.Moves.{Move}
use Rattle.tableau.specs.Card.{move_at}
use Rattle.tableau.specs.Judge.{target_depth}
use Rattle.records.specs.Raw.{model}
use Rattle.card.proofs.Model.{move_some}
use Rattle.depth.specs.Deepest.{held_depth, deepest_from}
use Rattle.depth.proofs.Targets.{targets_more, targets_past}
use Rattle.depth.proofs.deepest_target.Goals as goal

pub loop-k-preserved : goal.loop-k-preserved
loop-k-preserved g c =
    let d = held_depth c.args.depths.now in
    let raw = g.S.CardSource.card c.args.source.now in
    let count = c.args.node.move_count in
    let first = c.args.node.first_move in
    let moved : target_depth d (move_at (model raw) (first + c.loop-k.k)).target ≡ c.target_depth.result =
    ap (λ (m : Move). target_depth d m.target) (move_some raw (first + c.loop-k.k) c.in-Some.taken c.in-Some.ensures)
    ∙ sym (c.target_depth.ensures ∙ ap (target_depth d) c.target_of-target.ensures) in
    targets_more (model raw) d count first c.loop-k.k c.loop-k.deepest c.target_depth.result c.deeper-deepest.result
    (deepest_from (model raw) d count first) c.loop-k-test.true (sym moved) c.deeper-deepest.ensures c.loop-k.invariant

pub returns-in_default : goal.returns-in_default
returns-in_default g c =
    targets_past (g.S.CardSource.card c.args.source.now) (held_depth c.args.depths.now) (c.args.node.move_count - c.loop-k.k)
    (c.args.node.first_move + c.loop-k.k) c.loop-k.deepest _ c.in_default.ensures c.loop-k.invariant
