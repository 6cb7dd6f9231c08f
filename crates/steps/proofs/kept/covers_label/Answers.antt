use Rattle.std.proofs.Common.{length, sym, ap}
use Rattle.tableau.specs.Card.{label_of}
use Rattle.records.specs.Raw.{model}
use Rattle.steps.proofs.Roots.{label_members, label_listed_at, listed_as, members_as, covered_as}
use Rattle.steps.proofs.kept.covers_label.Goals as goal

pub returns : goal.returns
returns g c spec S known e listed members =
    let s = g.S.CardSource.card c.args.source.now in
    let rs = c.args.records.now in
    let k = c.args.k in
    let x = c.node_of.result in
    let ms = c.label_marks-label.result in
    let cs = c.covered_by.result in
    c.all_covered.ensures spec s.formulas (label_of (model s) k) S (sym (ap length e)) known.table
    (label_listed_at spec s known x k c.node_of.ensures ms c.label_marks-label.ensures)
    (label_members spec s known x k c.node_of.ensures ms c.label_marks-label.ensures)
    (covered_as rs s.formulas e c.args.rests.now cs c.covered_by.ensures.law spec known.table S
    (listed_as rs s.formulas e S listed) (members_as rs s.formulas e S c.args.rests.now members))
