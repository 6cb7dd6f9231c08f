use Rattle.std.proofs.Common.{Bool, List, [], ◌∷◌, sym, subst}
use Rattle.temporal.specs.Formula.{Formula}
use Rattle.records.specs.Table.{formula_of}
use Rattle.covered.specs.Meaning.{Members}
use Rattle.steps.specs.Sets.{label_in}
use Rattle.steps.proofs.Roots.{one_members}
use Rattle.steps.proofs.sets.obligation_marks.Goals as goal

pub returns : goal.returns
returns g c spec known l e =
    let s = g.S.CardSource.card c.args.source.now in
    let f = formula_of s.formulas c.args.safety in
    let one = subst (λ (ms : List Bool). Members s.formulas (f ∷ []) ms) (sym c.only-marks.ensures) (one_members spec s known c.args.safety l) in
    subst (λ (h : Formula). Members s.formulas (h ∷ label_in s c.args.node) c.add_label.new.marks) e
    (c.add_label.ensures spec known (f ∷ []) one)
