use Rattle.std.proofs.Common.{[]}
use Rattle.steps.proofs.Labels.{members_of_none}
use Rattle.steps.proofs.sets.label_marks.Goals as goal

pub returns : goal.returns
returns g c spec known =
    let s = g.S.CardSource.card c.args.source.now in
    c.add_label.ensures spec known [] (members_of_none s.formulas 1024)
