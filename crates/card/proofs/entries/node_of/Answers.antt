use Rattle.std.proofs.Common.{ap, refl, ◌∙◌}
use Rattle.records.specs.Raw.{node_of}
use Rattle.card.proofs.Model.{node_or}
use Rattle.card.proofs.entries.node_of.Goals as goal

pub returns : goal.returns
returns g c =
    let card = g.S.CardSource.card c.args.source.now in
    ap node_of c.unwrap_or.ensures ∙ node_or card c.args.i c.node_at.result _ c.node_at.ensures refl
