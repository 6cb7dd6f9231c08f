use Rattle.std.proofs.Common.{◌++◌, ap, sym, ◌∙◌, arith}
use Rattle.lines.proofs.Pieces.{made_none, made_piece, made_given, made_whole}
use Rattle.explanation.specs.Explanation.{word_in}
use Rattle.explanation.proofs.Short.{made_short, word_short}
use Rattle.explanation.proofs.formula.literal.Goals as goal

pub returns-in-Some : goal.returns-in-Some
returns-in-Some c =
    let a = made_piece 5 c.args.sign.now c.requires (made_none c.new.ensures) c.with_bytes-signed.ensures in
    let m = made_given 15 c.word.result.now _ c.word.ensures (word_short c.in-Some.name) a c.with_bytes.ensures in
    record {
      text = made_whole m (omega arith) ∙ ap (λ w. c.args.sign.now ++ w) (sym (ap word_in c.in-Some.is) ∙ ap word_in c.variable.ensures);
      short = made_short m (omega arith);
    }
