use Rattle.std.proofs.Common.{codes, arith}
use Rattle.lines.proofs.Pieces.{made_none, made_bytes, made_piece, made_u16, made_whole}
use Rattle.explanation.proofs.Short.{made_short}
use Rattle.explanation.proofs.pieces.of_bounds.Goals as goal

pub returns : goal.returns
returns c =
    let a = made_none c.new.ensures in
    let b = made_piece 2 c.args.operator.now c.requires a c.with_bytes.ensures in
    let d = made_u16 c.args.n (omega arith) b c.with_number.ensures in
    let e = made_bytes (codes ",") d c.with_bytes-2.ensures in
    let f = made_u16 c.args.m (omega arith) e c.with_number-2.ensures in
    let g = made_bytes (codes "] ") f c.with_bytes-3.ensures in
    let h = made_u16 c.args.part (omega arith) g c.with_number-3.ensures in
    record { text = made_whole h (omega arith); short = made_short h (omega arith) }
