use Rattle.std.proofs.Common.{sym, ◌∙◌}
use Rattle.tableau.specs.Conditions.{kept, fault, at_move}
use Rattle.records.specs.Raw.{model}
use Rattle.judged.specs.Judged.{fault_of}
use Rattle.judged.proofs.Walks.{groups_pass, groups_fail, groups_end}
use Rattle.marking.proofs.Places.{handed}
use Rattle.marking.proofs.node_by_node.judge_moves.Goals as goal

pub returns-in_err-judge_move : goal.returns-in_err-judge_move
returns-in_err-judge_move g c spec n p =
    let s = g.S.CardSource.card c.args.source.now in
    let e = c.in_err-judge_move.field-0.0 in
    handed e c.from_residual.result c.from_residual.ensures.1
    ∙ sym (groups_fail (kept spec (model s)) fault (at_move n) c.args.node.move_count c.args.node.first_move c.loop-k.k (fault_of e)
    c.loop-k-test.true (sym (c.in_err-judge_move.ensures spec n p)))
    ∙ c.loop-k.invariant spec n p

pub loop-k-preserved : goal.loop-k-preserved
loop-k-preserved g c spec n p =
    let s = g.S.CardSource.card c.args.source.now in
    sym (groups_pass (kept spec (model s)) fault (at_move n) c.args.node.move_count c.args.node.first_move c.loop-k.k
    c.loop-k-test.true (sym (c.in_ok-judge_move.ensures spec n p)))
    ∙ c.loop-k.invariant spec n p

pub returns : goal.returns
returns g c spec n p =
    let s = g.S.CardSource.card c.args.source.now in
    sym (groups_end (kept spec (model s)) fault (at_move n) c.args.node.move_count c.args.node.first_move c.loop-k.k c.loop-k-test.false)
    ∙ c.loop-k.invariant spec n p
