use Rattle.std.proofs.Common.{◌∙◌}
use Rattle.parser.proofs.Whole.{long_form, short_form, hands_on, handed}
use Rattle.parser.proofs.read.Goals as goal

pub returns-then-text-gt1024 : goal.returns-then-text-gt1024
returns-then-text-gt1024 c = long_form c.args.text.now c.if-text-gt1024.true

pub returns-in_err-roots : goal.returns-in_err-roots
returns-in_err-roots c =
    hands_on _ _ c.from_residual.result c.from_residual.ensures.1
    (short_form c.args.text.now c.if-text-gt1024.false ∙ c.in_err-roots.ensures)

pub returns : goal.returns
returns c =
    let d = c.in_ok-roots.ensures in
    (_, short_form c.args.text.now c.if-text-gt1024.false ∙ d.0, handed _ _ _ c.finish.ensures d.2)
