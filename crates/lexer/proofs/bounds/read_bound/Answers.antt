use Rattle.std.proofs.Common.{sym, ap, ◌∙◌, subst}
use Rattle.std.specs.Result.{IfOk}
use Rattle.lexer.specs.Bounds.{bound_after, GoodBound}
use Rattle.lexer.proofs.Limits.{bracket_good}
use Rattle.lexer.proofs.bounds.read_bound.Goals as goal

pub returns-then-is_symbol-clause-bound : goal.returns-then-is_symbol-clause-bound
returns-then-is_symbol-clause-bound c =
    let text = c.args.text.now in
    let at = c.args.at in
    let e = c.bound_after.ensures ∙ ap (λ x. bound_after text x.next) c.look-seen.ensures.value in
    subst (λ r. IfOk r (GoodBound text at)) (sym e) (bracket_good text at)
