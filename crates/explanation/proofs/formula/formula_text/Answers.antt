use Rattle.std.proofs.Common.{codes, ap, sym, ◌∙◌, arith}
use Rattle.lines.proofs.Pieces.{made_none, made_bytes, made_u16, made_whole}
use Rattle.rules.specs.Shown.{view}
use Rattle.explanation.specs.Explanation.{formula_text}
use Rattle.explanation.proofs.Short.{made_short}
use Rattle.explanation.proofs.formula.formula_text.Goals as goal

pub returns-in-Next : goal.returns-in-Next
returns-in-Next c =
    let a = made_bytes (codes "X[") (made_none c.new-in-Next.ensures) c.with_bytes-in-Next.ensures in
    let b = made_u16 c.in-Next.n (omega arith) a c.with_number.ensures in
    let d = made_bytes (codes "] ") b c.with_bytes-in-Next-2.ensures in
    let m = made_u16 c.in-Next.a (omega arith) d c.with_number-in-Next.ensures in
    record {
      text = made_whole m (omega arith) ∙ sym (ap (formula_text (view c.args.specification.now).names) c.in-Next.is);
      short = made_short m (omega arith);
    }
