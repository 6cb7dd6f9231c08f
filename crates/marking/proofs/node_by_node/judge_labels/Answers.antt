use Rattle.std.proofs.Common.{◌+◌, sym, ◌∙◌}
use Rattle.tableau.specs.Conditions.{kept, fault, label_kept}
use Rattle.records.specs.Raw.{model}
use Rattle.judged.proofs.Walks.{walk_pass, walk_fail, walk_end}
use Rattle.marking.proofs.Places.{refused, label_judged}
use Rattle.marking.proofs.node_by_node.judge_labels.Goals as goal

pub returns-then-not-label_kept : goal.returns-then-not-label_kept
returns-then-not-label_kept g c spec known kinds =
    let s = g.S.CardSource.card c.args.source.now in
    let first = c.args.node.first_label in
    let k = c.loop-k.k in
    refused c.refused.result _ c.refused.ensures
    ∙ sym (walk_fail (kept spec (model s)) fault label_kept c.args.node.label_count first k c.loop-k-test.true
    (sym (label_judged spec s known c.args.kind kinds (first + k) c.label_of.result c.label_of.ensures)
    ∙ sym c.label_kept.ensures ∙ c.if-not-label_kept.true))
    ∙ c.loop-k.invariant spec known kinds

pub loop-k-preserved : goal.loop-k-preserved
loop-k-preserved g c spec known kinds =
    let s = g.S.CardSource.card c.args.source.now in
    let first = c.args.node.first_label in
    let k = c.loop-k.k in
    sym (walk_pass (kept spec (model s)) fault label_kept c.args.node.label_count first k c.loop-k-test.true
    (sym (label_judged spec s known c.args.kind kinds (first + k) c.label_of.result c.label_of.ensures)
    ∙ sym c.label_kept.ensures ∙ c.if-not-label_kept.false))
    ∙ c.loop-k.invariant spec known kinds

pub returns : goal.returns
returns g c spec known kinds =
    let s = g.S.CardSource.card c.args.source.now in
    sym (walk_end (kept spec (model s)) fault label_kept c.args.node.label_count c.args.node.first_label c.loop-k.k c.loop-k-test.false)
    ∙ c.loop-k.invariant spec known kinds
