use Rattle.std.proofs.Common.{◌≡◌, ℕ, ◌+◌, ◌≤◌, length, drop, Ok, Err, inl, sym, ap, ◌∙◌, subst, arith}
use Rattle.tableau.specs.Conditions.{kept, fault, at_node, at_nodes}
use Rattle.tableau.specs.Card.{node_at}
use Rattle.tableau.specs.Judge.{judged_by}
use Rattle.records.specs.Raw.{model}
use Rattle.card.proofs.Model.{model_nodes, node_some}
use Rattle.card.proofs.Walk.{left_some, left_length, left_none}
use Rattle.judged.specs.Judged.{fault_of}
use Rattle.judged.proofs.Walks.{grouped, groups_pass, groups_fail, groups_end}
use Rattle.marking.proofs.Places.{handed}
use Rattle.marking.proofs.node_by_node.judge_nodes.Goals as goal

pub returns-in_err-judge_node : goal.returns-in_err-judge_node
returns-in_err-judge_node g c spec k =
    let s = g.S.CardSource.card c.args.source.now in
    let i = c.loop-n.n-iterator.count in
    let x = c.in-Some.ensures.steps in
    let at = left_some s.nodes _ i c.in-Some.node (sym c.loop-n.invariant.2 ∙ x.0) in
    let e = c.in_err-judge_node.field-0.0 in
    let z : c.in-Some.n ≡ 0 + i = omega (arith, x.1) in
    handed e c.from_residual.result c.from_residual.ensures.1
    ∙ sym (groups_fail (kept spec (model s)) fault (at_node (model s)) (length (model s).nodes) 0 i (fault_of e)
    (omega (arith, model_nodes s, at.1))
    (subst (λ (j : ℕ). judged_by spec (model s) (at_node (model s) j) ≡ Err (fault_of e)) z
    (sym (c.in_err-judge_node.ensures spec k (omega (arith, at.1, x.1)) (sym (node_some s i c.in-Some.node at.0) ∙ ap (node_at (model s)) (sym x.1))))))
    ∙ c.loop-n.invariant.3 spec k

pub loop-n-preserved : goal.loop-n-preserved
loop-n-preserved g c =
    let s = g.S.CardSource.card c.args.source.now in
    let i = c.loop-n.n-iterator.count in
    let x = c.in-Some.ensures.steps in
    let at = left_some s.nodes _ i c.in-Some.node (sym c.loop-n.invariant.2 ∙ x.0) in
    let few = left_length s.nodes _ (i + 1) at.2 (omega (arith, at.1)) in
    let z : c.in-Some.n ≡ 0 + i = omega (arith, x.1) in (
      (tt, tt, inl (omega (arith, few, x.2, c.all_entries.ensures.few))),
      tt,
      at.2 ∙ ap (λ (k : ℕ). drop k s.nodes) (sym x.2),
      λ spec k.
          subst (λ (j : ℕ). grouped (kept spec (model s)) fault (at_node (model s)) (length (model s).nodes) 0 j ≡ judged_by spec (model s) (at_nodes (model s)))
          (sym x.2)
          (sym (groups_pass (kept spec (model s)) fault (at_node (model s)) (length (model s).nodes) 0 i (omega (arith, model_nodes s, at.1))
          (subst (λ (j : ℕ). judged_by spec (model s) (at_node (model s) j) ≡ Ok tt) z
          (sym (c.in_ok-judge_node.ensures spec k (omega (arith, at.1, x.1)) (sym (node_some s i c.in-Some.node at.0) ∙ ap (node_at (model s)) (sym x.1))))))
          ∙ c.loop-n.invariant.3 spec k),
    )

pub returns : goal.returns
returns g c spec k =
    let s = g.S.CardSource.card c.args.source.now in
    let i = c.loop-n.n-iterator.count in
    let l : length s.nodes ≤ i = left_none s.nodes i (sym c.loop-n.invariant.2 ∙ c.in-None.ensures.steps.0.0) in
    sym (groups_end (kept spec (model s)) fault (at_node (model s)) (length (model s).nodes) 0 i (omega (arith, l, model_nodes s)))
    ∙ c.loop-n.invariant.3 spec k
