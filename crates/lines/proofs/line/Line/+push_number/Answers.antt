-- The digits before the last are those of a tenth of the number.
use Rattle.std.proofs.Common.{◌+◌, ◌%◌, [], ◌∷◌, ◌++◌, take, ap, ◌∙◌, arith}
use Rattle.lines.proofs.Decimals.{digits_of, push_digit, push_last}
use Rattle.lines.proofs.line.Line.+push_number.Goals as goal
use Rattle.lines.proofs.line.Line.+push_number.Goals.{then-number-ge10, else-number-ge10}

pub returns-clause-line : goal.returns-clause-line
returns-clause-line t c =
    let s = c.args.self.now in
    let m = c.if-number-ge10.self in
    let n = c.args.number in
    elim c.if-number-ge10.branch [
      | then-number-ge10 w ↦
          push_last s m _ n (omega arith) (omega arith) (w.self-is ∙ w.push_number.ensures.line) c.push.ensures
      | else-number-ge10 w ↦ push_digit s _ n (omega arith) (c.push.ensures ∙ ap (λ l. take 64 (l ++ (48 + n % 10) ∷ [])) w.self-is)
    ]

pub returns-clause-digits : goal.returns-clause-digits
returns-clause-digits t c = digits_of c.args.number (omega arith)
