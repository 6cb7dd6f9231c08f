use Rattle.std.proofs.Common.{codes, arith}
use Rattle.lines.proofs.Pieces.{made_none, made_bytes, made_u8, made_usize, made_whole}
use Rattle.explanation.proofs.whole.refused_line.Goals as goal

pub returns-clause-text : goal.returns-clause-text
returns-clause-text c =
    let a = made_bytes (codes "refused ") (made_none c.new.ensures) c.with_bytes.ensures in
    let b = made_u8 c.number.result (omega arith) a c.with_number.ensures in
    let d = made_bytes (codes " byte ") b c.with_bytes-2.ensures in
    let text = made_whole (made_usize c.place.result (omega arith) d c.with_number-2.ensures) (omega arith) in
    cc
