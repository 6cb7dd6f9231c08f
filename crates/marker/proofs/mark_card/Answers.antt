use Rattle.std.proofs.Common.{◌≤◌, length, Ok, ap, ◌∙◌}
use Rattle.records.specs.Raw.{model}
use Rattle.rules.specs.Laws.{game_of}
use Rattle.rules.specs.Shown.{view}
use Rattle.marking.specs.Verdicts.{marked_as, verdict_named}
use Rattle.marker.specs.Marks.{checked_card}
use Rattle.marker.proofs.Limits.{slots_enough, shown_whole}
use Rattle.marker.proofs.mark_card.Goals as goal

pub returns : goal.returns
returns g c =
    let s = g.S.CardSource.card c.args.source.now in
    let spec = game_of (view c.args.specification.now) in
    let n = length c.args.records.now in
    let m = c.in_ok-marked.marked in
    let v = c.in_ok-marked.ensures.value in
    let room : 2048 ≤ n = slots_enough n spec (model s) (marked_as m) v in
    let a = (c.in_ok-marked.ensures.meaning room).0 in
    ap (λ x. Ok x)
    (c.accepted.ensures
    ∙ shown_whole spec s (verdict_named m.verdict) m.depth c.node_count.result c.move_count.result c.node_count.ensures c.move_count.ensures a)
    ∙ ap (checked_card s) v
