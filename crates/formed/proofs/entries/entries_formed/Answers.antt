-- The first list with an entry of bad form gives the answer: the lists before it have passed.
use Rattle.std.proofs.Common.{Err, ◌∙◌}
use Rattle.std.proofs.lemmas.Result.{err_from_is_err_and}
use Rattle.tableau.specs.Conditions.{formula_form, node_form, move_form}
use Rattle.records.specs.Raw.{model}
use Rattle.card.proofs.Model.{model_formulas, model_nodes, model_moves}
use Rattle.judged.specs.Judged.{fault_of, judgment}
use Rattle.formed.specs.Sizes.{HasSizes}
use Rattle.formed.proofs.Orders.{formula_conditions, label_conditions, node_conditions, move_conditions, from_labels, from_nodes}
use Rattle.formed.proofs.Rows.{then_next, then_stop, refused, counted}
use Rattle.formed.proofs.entries.entries_formed.Goals as goal

pub returns-in_err-list_formed : goal.returns-in_err-list_formed
returns-in_err-list_formed g c = λ spec p.
    let raw = g.S.CardSource.card c.args.source.now in
    let card = model raw in
    let h : HasSizes spec raw _ = record { variables = p; formulas = c.formula_count.ensures; labels = c.label_count.ensures; moves = c.move_count.ensures } in
    let e = err_from_is_err_and c.from_residual.result c.from_residual.ensures.1 in
    let x = c.in_err-list_formed.field-0.0 in
    refused c.from_residual.result e.0 x e.1 e.2
    ∙ then_stop spec card (formula_conditions card) (from_labels card) (fault_of x)
    (counted formula_form spec card _ _ (model_formulas raw) (Err (fault_of x)) (c.in_err-list_formed.ensures spec h))

pub returns-in_err-list_formed-2 : goal.returns-in_err-list_formed-2
returns-in_err-list_formed-2 g c = λ spec p.
    let raw = g.S.CardSource.card c.args.source.now in
    let card = model raw in
    let h : HasSizes spec raw _ = record { variables = p; formulas = c.formula_count.ensures; labels = c.label_count.ensures; moves = c.move_count.ensures } in
    let r = c.from_residual-in_err-list_formed-2.result in
    let e = err_from_is_err_and r c.from_residual-in_err-list_formed-2.ensures.1 in
    let x = c.in_err-list_formed-2.field-0.0 in
    refused r e.0 x e.1 e.2
    ∙ then_next spec card (formula_conditions card) (from_labels card) (Err (fault_of x))
    (counted formula_form spec card _ _ (model_formulas raw) _ (c.in_ok-list_formed.ensures spec h))
    (then_stop spec card (label_conditions card) (from_nodes card) (fault_of x) (c.in_err-list_formed-2.ensures spec h))

pub returns-in_err-list_formed-3 : goal.returns-in_err-list_formed-3
returns-in_err-list_formed-3 g c = λ spec p.
    let raw = g.S.CardSource.card c.args.source.now in
    let card = model raw in
    let h : HasSizes spec raw _ = record { variables = p; formulas = c.formula_count.ensures; labels = c.label_count.ensures; moves = c.move_count.ensures } in
    let r = c.from_residual-in_err-list_formed-3.result in
    let e = err_from_is_err_and r c.from_residual-in_err-list_formed-3.ensures.1 in
    let x = c.in_err-list_formed-3.field-0.0 in
    refused r e.0 x e.1 e.2
    ∙ then_next spec card (formula_conditions card) (from_labels card) (Err (fault_of x))
    (counted formula_form spec card _ _ (model_formulas raw) _ (c.in_ok-list_formed.ensures spec h))
    (then_next spec card (label_conditions card) (from_nodes card) (Err (fault_of x)) (c.in_ok-list_formed-2.ensures spec h)
    (then_stop spec card (node_conditions card) (move_conditions card) (fault_of x)
    (counted node_form spec card _ _ (model_nodes raw) _ (c.in_err-list_formed-3.ensures spec h))))

pub returns : goal.returns
returns g c = λ spec p.
    let raw = g.S.CardSource.card c.args.source.now in
    let card = model raw in
    let h : HasSizes spec raw _ = record { variables = p; formulas = c.formula_count.ensures; labels = c.label_count.ensures; moves = c.move_count.ensures } in
    let r = judgment c.list_formed-4.result in
    then_next spec card (formula_conditions card) (from_labels card) r
    (counted formula_form spec card _ _ (model_formulas raw) _ (c.in_ok-list_formed.ensures spec h))
    (then_next spec card (label_conditions card) (from_nodes card) r (c.in_ok-list_formed-2.ensures spec h)
    (then_next spec card (node_conditions card) (move_conditions card) r
    (counted node_form spec card _ _ (model_nodes raw) _ (c.in_ok-list_formed-3.ensures spec h))
    (counted move_form spec card _ _ (model_moves raw) r (c.list_formed-4.ensures spec h))))
