use Rattle.std.proofs.Common.{◌&&◌, sym, ap, ◌∙◌}
use Rattle.coverings.specs.declared.cube.Side.TheVariants.{System}
use Rattle.coverings.specs.Coverings.{moves_from, once}
use Rattle.coverings.proofs.Whole.{inputs, replies, open_kept, closed_kept}
use Rattle.coverings.proofs.covering.covering_kept.Goals as goal

pub returns-in-Open : goal.returns-in-Open
returns-in-Open g c = λ spec ready.
    let card = g.S.CardSource.card c.args.source.now in
    c.covers_once.ensures (inputs card spec c.args.variables c.args.node ready)
    ∙ open_kept card spec c.args.variables c.args.node ready c.in-Open.ensures

pub returns-then-inputs_alike : goal.returns-then-inputs_alike
returns-then-inputs_alike g c = λ spec ready.
    let card = g.S.CardSource.card c.args.source.now in
    c.covers_once-then-inputs_alike.ensures (replies card spec c.args.variables c.args.node ready)
    ∙ sym (ap (λ b. b && once System c.args.variables.system (moves_from card c.args.node))
    (sym c.inputs_alike.ensures ∙ c.if-inputs_alike.true))
    ∙ closed_kept card spec c.args.variables c.args.node ready c.in-Closed.ensures
