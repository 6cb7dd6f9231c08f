use Rattle.std.proofs.Common.{sym, subst}
use Rattle.std.specs.Result.{IfOk}
use Rattle.lexer.specs.Bounds.{range_in, GoodRange}
use Rattle.lexer.proofs.Limits.{range_good}
use Rattle.lexer.proofs.bounds.read_range.Goals as goal

pub returns-clause-bound : goal.returns-clause-bound
unfolding range_in
returns-clause-bound c =
    let text = c.args.text.now in
    let at = c.args.at in
    subst (λ r. IfOk r (GoodRange text at)) (sym c.bracketed.ensures) (range_good text at)
