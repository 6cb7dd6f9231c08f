use Rattle.std.proofs.Common.{◌∙◌}
use Rattle.steps.proofs.Roots.{false_held, listed_as, members_as, held_as}
use Rattle.steps.proofs.kept.holds_false.Goals as goal

pub returns : goal.returns
returns c s spec S known e listed members =
    let rs = c.args.records.now in
    c.is_marked.ensures
    ∙ false_held spec s known S (listed_as rs s.formulas e S listed) c.args.rests.now c.hold.new.marks
    (members_as rs s.formulas e S c.args.rests.now members)
    (held_as rs s.formulas e c.args.rests.now c.hold.new.marks c.hold.ensures.law)
