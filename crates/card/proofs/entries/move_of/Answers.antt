use Rattle.std.proofs.Common.{ap, refl, ◌∙◌}
use Rattle.records.specs.Raw.{move_of}
use Rattle.card.proofs.Model.{move_or}
use Rattle.card.proofs.entries.move_of.Goals as goal

pub returns : goal.returns
returns g c =
    let card = g.S.CardSource.card c.args.source.now in
    ap move_of c.unwrap_or.ensures ∙ move_or card c.args.i c.move_at.result _ c.move_at.ensures refl
