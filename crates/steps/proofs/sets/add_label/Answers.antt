use Rattle.std.proofs.Common.{◌≡◌, ℕ, ◌++◌, map, length, ap, ◌∙◌, subst, arith}
use Rattle.tableau.specs.Lists.{span}
use Rattle.tableau.specs.Card.{label_tree}
use Rattle.records.specs.Raw.{model}
use Rattle.covered.specs.Meaning.{Members}
use Rattle.covered.proofs.Spread.{mark_length}
use Rattle.steps.proofs.Labels.{label_more}
use Rattle.steps.proofs.sets.add_label.Goals as goal

pub loop-k-preserved : goal.loop-k-preserved
loop-k-preserved g c =
    let s = g.S.CardSource.card c.args.source.now in (
      ap length c.set_mark.ensures ∙ mark_length c.loop-k.marks c.label_of-formula.result ∙ c.loop-k.invariant.0,
      λ spec known S h.
          label_more spec s known S c.args.node.first_label c.loop-k.k c.label_of-formula.result c.loop-k.marks c.set_mark.new.marks
          c.loop-k.invariant.0 c.label_of-formula.ensures c.set_mark.ensures (c.loop-k.invariant.1 spec known S h),
    )

pub returns : goal.returns
returns g c spec known S h =
    let s = g.S.CardSource.card c.args.source.now in
    let e : c.loop-k.k ≡ c.args.node.label_count = omega arith in
    subst (λ (k : ℕ). Members s.formulas (S ++ map (label_tree (model s)) (span k c.args.node.first_label)) c.loop-k.marks) e
    (c.loop-k.invariant.1 spec known S h)
