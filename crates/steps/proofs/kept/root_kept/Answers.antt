use Rattle.std.proofs.Common.{◌≡◌, ◌<◌, List, [], ◌∷◌, length, sym, ap, ◌∙◌, subst}
use Rattle.temporal.specs.Formula.{Formula}
use Rattle.tableau.specs.Cover.{covers}
use Rattle.tableau.specs.Lists.{all}
use Rattle.tableau.specs.Card.{CardKind, label_of}
use Rattle.tableau.specs.Conditions.{keeps_root}
use Rattle.records.specs.Raw.{model}
use Rattle.records.specs.Table.{formula_of}
use Rattle.records.specs.declared.FormulaRecord.{FormulaRecord}
use Rattle.covered.specs.Meaning.{Members, Covers}
use Rattle.steps.proofs.Roots.{label_covers, label_members, label_listed_at, one_listed, one_members, covered_as}
use Rattle.steps.proofs.kept.root_kept.Goals as goal

pub returns-in-Open : goal.returns-in-Open
returns-in-Open g c spec known e l i =
    let s = g.S.CardSource.card c.args.source.now in
    let rs = c.args.records.now in
    let ms = c.label_marks-label.result in
    let cs = c.covered_by.result in
    let L = label_of (model s) 0 in
    let n : c.args.initial < length s.formulas = subst (λ (xs : List FormulaRecord). c.args.initial < length xs) e l in
    let f : formula_of s.formulas c.args.initial ≡ spec.initial = subst (λ (xs : List FormulaRecord). formula_of xs c.args.initial ≡ spec.initial) e i in
    let cover = label_covers spec s known c.node_of.result 0 c.node_of.ensures ms c.label_marks-label.ensures cs
    (covered_as rs s.formulas e ms cs c.covered_by.ensures.law) in
    c.is_marked.ensures ∙ cover c.args.initial n ∙ ap (covers L) f
    ∙ ap (λ (k : CardKind). keeps_root k spec L) c.in-Open.ensures

pub returns-in-Closed : goal.returns-in-Closed
returns-in-Closed g c spec known e l i =
    let s = g.S.CardSource.card c.args.source.now in
    let rs = c.args.records.now in
    let x = c.node_of.result in
    let ms = c.label_marks-label.result in
    let cs = c.covered_by-in-Closed.result in
    let L = label_of (model s) 0 in
    let k = c.args.initial in
    let n : k < length s.formulas = subst (λ (xs : List FormulaRecord). k < length xs) e l in
    let f : formula_of s.formulas k ≡ spec.initial = subst (λ (xs : List FormulaRecord). formula_of xs k ≡ spec.initial) e i in
    let one = formula_of s.formulas k ∷ [] in
    let cover : Covers s.formulas one cs =
    covered_as rs s.formulas e c.only.result cs c.covered_by-in-Closed.ensures.law spec known.table one
    (one_listed spec s known k n)
    (subst (λ (zs : List _). Members s.formulas one zs) (sym c.only.ensures) (one_members spec s known k n)) in
    c.all_covered.ensures spec s.formulas L one (sym (ap length e)) known.table
    (label_listed_at spec s known x 0 c.node_of.ensures ms c.label_marks-label.ensures)
    (label_members spec s known x 0 c.node_of.ensures ms c.label_marks-label.ensures) cover
    ∙ ap (λ (h : Formula). all (covers (h ∷ [])) L) f
    ∙ ap (λ (t : CardKind). keeps_root t spec L) c.in-Closed.ensures
