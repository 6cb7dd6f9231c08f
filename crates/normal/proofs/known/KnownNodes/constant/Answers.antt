use Rattle.std.proofs.Common.{None, get_or, sym, ap, ◌∙◌}
use Rattle.normal.specs.Constants.{opposite}
use Rattle.normal.proofs.Forms.{signed_by, signed_is}
use Rattle.normal.proofs.known.KnownNodes.constant.Goals as goal

pub returns-then-operand : goal.returns-then-operand
returns-then-operand c =
    let o = c.args.operand in
    c.read-constant.ensures ∙ ap (λ s. signed_by s (get_or c.args.self.now.constants.now o.node None)) (sym c.if-operand.true)
    ∙ signed_is c.args.self.now.given o c.requires

pub returns-else-operand : goal.returns-else-operand
returns-else-operand c =
    let o = c.args.operand in
    let xs = c.args.self.now.constants.now in
    c.opposite.ensures ∙ ap opposite c.read-constant.ensures ∙ ap (λ s. signed_by s (get_or xs o.node None)) (sym c.if-operand.false)
    ∙ signed_is c.args.self.now.given o c.requires
