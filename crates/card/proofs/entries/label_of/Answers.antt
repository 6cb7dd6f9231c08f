use Rattle.std.proofs.Common.{◌∙◌}
use Rattle.card.proofs.Model.{label_or}
use Rattle.card.proofs.entries.label_of.Goals as goal

pub returns : goal.returns
returns g c =
    let card = g.S.CardSource.card c.args.source.now in
    c.unwrap_or.ensures ∙ label_or card c.args.i c.label_at.result c.label_at.ensures
