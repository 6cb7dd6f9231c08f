use Rattle.std.proofs.Common.{[], ◌∷◌, ◌++◌, sym, ◌∙◌}
use Rattle.tableau.specs.Conditions.{kept, fault, covering_kept}
use Rattle.records.specs.Raw.{model, node_of}
use Rattle.judged.specs.Judged.{fault_of}
use Rattle.judged.proofs.Walks.{group_pass, group_fail}
use Rattle.marking.proofs.Places.{handed}
use Rattle.marking.proofs.Rows.{labels_by, targets_by, moves_by, node_is, splitting, prepared}
use Rattle.marking.proofs.node_by_node.judge_node.Goals as goal

pub returns-in_err-judge_labels : goal.returns-in_err-judge_labels
returns-in_err-judge_labels g c spec k l same =
    let s = g.S.CardSource.card c.args.source.now in
    let x = c.args.node in
    let n = c.args.n in
    let e = c.in_err-judge_labels.field-0.0 in
    let y = node_of x in
    handed e c.from_residual.result c.from_residual.ensures.1
    ∙ sym (group_fail (kept spec (model s)) fault (labels_by y) ((covering_kept n ∷ []) ++ (targets_by n y ++ moves_by n y)) (fault_of e)
    (sym (c.in_err-judge_labels.ensures spec k.labelled k.kinds)))
    ∙ node_is spec s x n same

pub returns-in_err-judge_covering : goal.returns-in_err-judge_covering
returns-in_err-judge_covering g c spec k l same =
    let s = g.S.CardSource.card c.args.source.now in
    let x = c.args.node in
    let n = c.args.n in
    let e = c.in_err-judge_covering.field-0.0 in
    let y = node_of x in
    let ready = splitting spec s c.args.terms.now k x n same l in
    handed e c.from_residual-in_err-judge_covering.result c.from_residual-in_err-judge_covering.ensures.1
    ∙ sym (group_pass (kept spec (model s)) fault (labels_by y) ((covering_kept n ∷ []) ++ (targets_by n y ++ moves_by n y))
    (sym (c.in_ok-judge_labels.ensures spec k.labelled k.kinds))
    ∙ group_fail (kept spec (model s)) fault (covering_kept n ∷ []) (targets_by n y ++ moves_by n y) (fault_of e)
    (sym (c.in_err-judge_covering.ensures spec ready same)))
    ∙ node_is spec s x n same

pub returns-in_err-judge_targets : goal.returns-in_err-judge_targets
returns-in_err-judge_targets g c spec k l same =
    let s = g.S.CardSource.card c.args.source.now in
    let x = c.args.node in
    let n = c.args.n in
    let e = c.in_err-judge_targets.field-0.0 in
    let y = node_of x in
    let ready = splitting spec s c.args.terms.now k x n same l in
    handed e c.from_residual-in_err-judge_targets.result c.from_residual-in_err-judge_targets.ensures.1
    ∙ sym (group_pass (kept spec (model s)) fault (labels_by y) ((covering_kept n ∷ []) ++ (targets_by n y ++ moves_by n y))
    (sym (c.in_ok-judge_labels.ensures spec k.labelled k.kinds))
    ∙ group_pass (kept spec (model s)) fault (covering_kept n ∷ []) (targets_by n y ++ moves_by n y)
    (sym (c.in_ok-judge_covering.ensures spec ready same))
    ∙ group_fail (kept spec (model s)) fault (targets_by n y) (moves_by n y) (fault_of e)
    (sym (c.in_err-judge_targets.ensures spec c.node_count.ensures k.kinds)))
    ∙ node_is spec s x n same

pub returns : goal.returns
returns g c spec k l same =
    let s = g.S.CardSource.card c.args.source.now in
    let x = c.args.node in
    let n = c.args.n in
    let y = node_of x in
    let ready = splitting spec s c.args.terms.now k x n same l in
    let p = prepared spec s c.args.terms.now k x n same c.obligation_marks-marks.result
    c.obligation_marks-marks.ensures in
    c.judge_moves.ensures spec n p
    ∙ sym (group_pass (kept spec (model s)) fault (labels_by y) ((covering_kept n ∷ []) ++ (targets_by n y ++ moves_by n y))
    (sym (c.in_ok-judge_labels.ensures spec k.labelled k.kinds))
    ∙ group_pass (kept spec (model s)) fault (covering_kept n ∷ []) (targets_by n y ++ moves_by n y)
    (sym (c.in_ok-judge_covering.ensures spec ready same))
    ∙ group_pass (kept spec (model s)) fault (targets_by n y) (moves_by n y)
    (sym (c.in_ok-judge_targets.ensures spec c.node_count.ensures k.kinds)))
    ∙ node_is spec s x n same
