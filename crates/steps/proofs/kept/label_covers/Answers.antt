use Rattle.std.proofs.Common.{length, sym, ap}
use Rattle.tableau.specs.Card.{label_of}
use Rattle.records.specs.Raw.{model}
use Rattle.steps.proofs.Roots.{label_covers, listed_as, members_as, covered_as}
use Rattle.steps.proofs.kept.label_covers.Goals as goal

pub returns : goal.returns
returns g c spec S known e listed members =
    let s = g.S.CardSource.card c.args.source.now in
    let rs = c.args.records.now in
    let ms = c.label_marks-label.result in
    let cs = c.covered_by.result in
    c.all_covered.ensures spec s.formulas S (label_of (model s) c.args.k) (sym (ap length e)) known.table
    (listed_as rs s.formulas e S listed) (members_as rs s.formulas e S c.args.rests.now members)
    (label_covers spec s known c.node_of.result c.args.k c.node_of.ensures ms c.label_marks-label.ensures cs
    (covered_as rs s.formulas e ms cs c.covered_by.ensures.law))
