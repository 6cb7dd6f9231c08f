use Rattle.std.proofs.Common.{arith}
use Rattle.lines.proofs.Pieces.{made_none, made_piece, made_usize, made_whole}
use Rattle.explanation.proofs.pieces.of_number.Goals as goal

pub returns-clause-text : goal.returns-clause-text
returns-clause-text c =
    let a = made_none c.new.ensures in
    let b = made_piece 12 c.args.kind.now c.requires a c.with_bytes.ensures in
    made_whole (made_usize c.args.number (omega arith) b c.with_number.ensures) (omega arith)
