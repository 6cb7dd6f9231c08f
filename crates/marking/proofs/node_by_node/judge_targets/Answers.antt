use Rattle.std.proofs.Common.{◌+◌, sym, ◌∙◌}
use Rattle.tableau.specs.Conditions.{kept, fault, target_kept}
use Rattle.records.specs.Raw.{model}
use Rattle.judged.proofs.Walks.{walk_pass, walk_fail, walk_end}
use Rattle.marking.proofs.Places.{refused, target_judged}
use Rattle.marking.proofs.node_by_node.judge_targets.Goals as goal
use Rattle.card.specs.Named.{target_named}

pub returns-then-not-target_kept : goal.returns-then-not-target_kept
returns-then-not-target_kept g c spec nodes kinds =
    let s = g.S.CardSource.card c.args.source.now in
    let first = c.args.node.first_move in
    let k = c.loop-k.k in
    let n = c.args.n in
    refused c.refused.result _ c.refused.ensures
    ∙ sym (walk_fail (kept spec (model s)) fault (target_kept n) c.args.node.move_count first k c.loop-k-test.true
    (sym (target_judged spec s c.args.kind kinds c.args.nodes nodes n (first + k) c.move_of.result c.move_of.ensures
    (target_named c.target_of-target.result) c.target_of-target.ensures)
    ∙ sym c.target_kept.ensures ∙ c.if-not-target_kept.true))
    ∙ c.loop-k.invariant spec nodes kinds

pub loop-k-preserved : goal.loop-k-preserved
loop-k-preserved g c spec nodes kinds =
    let s = g.S.CardSource.card c.args.source.now in
    let first = c.args.node.first_move in
    let k = c.loop-k.k in
    let n = c.args.n in
    sym (walk_pass (kept spec (model s)) fault (target_kept n) c.args.node.move_count first k c.loop-k-test.true
    (sym (target_judged spec s c.args.kind kinds c.args.nodes nodes n (first + k) c.move_of.result c.move_of.ensures
    (target_named c.target_of-target.result) c.target_of-target.ensures)
    ∙ sym c.target_kept.ensures ∙ c.if-not-target_kept.false))
    ∙ c.loop-k.invariant spec nodes kinds

pub returns : goal.returns
returns g c spec nodes kinds =
    let s = g.S.CardSource.card c.args.source.now in
    sym (walk_end (kept spec (model s)) fault (target_kept c.args.n) c.args.node.move_count c.args.node.first_move c.loop-k.k c.loop-k-test.false)
    ∙ c.loop-k.invariant spec nodes kinds
