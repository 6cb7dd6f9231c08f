use Rattle.std.proofs.Common.{codes, arith}
use Rattle.lines.proofs.Pieces.{made_none, made_bytes, made_piece, made_usize, made_whole}
use Rattle.explanation.proofs.pieces.of_item.Goals as goal

pub returns-clause-text : goal.returns-clause-text
returns-clause-text c =
    let a = made_none c.new.ensures in
    let b = made_piece 12 c.args.kind.now c.requires.0 a c.with_bytes.ensures in
    let d = made_usize c.args.number (omega arith) b c.with_number.ensures in
    let e = made_bytes (codes " ") d c.with_bytes-2.ensures in
    let f = made_piece 20 c.args.text.now c.requires.1 e c.with_bytes-3.ensures in
    made_whole f (omega arith)
