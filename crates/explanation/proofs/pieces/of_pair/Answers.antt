use Rattle.std.proofs.Common.{arith}
use Rattle.lines.proofs.Pieces.{made_none, made_piece, made_u16, made_whole}
use Rattle.explanation.proofs.Short.{made_short}
use Rattle.explanation.proofs.pieces.of_pair.Goals as goal

pub returns : goal.returns
returns c =
    let a = made_none c.new.ensures in
    let b = made_u16 c.args.first (omega arith) a c.with_number.ensures in
    let d = made_piece 10 c.args.sign.now c.requires b c.with_bytes.ensures in
    let e = made_u16 c.args.second (omega arith) d c.with_number-2.ensures in
    record { text = made_whole e (omega arith); short = made_short e (omega arith) }
