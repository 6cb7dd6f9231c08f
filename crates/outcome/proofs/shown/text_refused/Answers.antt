use Rattle.std.proofs.Common.{length, codes, ap, arith}
use Rattle.lines.proofs.Pieces.{made_none, made_bytes, made_u8, made_usize, made_whole}
use Rattle.outcome.specs.Lines.{line_end}
use Rattle.outcome.proofs.shown.text_refused.Goals as goal

pub returns : goal.returns
returns c =
    let a = made_bytes (codes "refused ") (made_none c.new.ensures) c.with_bytes.ensures in
    let b = made_u8 c.args.number (omega arith) a c.with_number.ensures in
    let d = made_bytes (codes " byte ") b c.with_bytes-2.ensures in
    let e = made_usize c.args.byte (omega arith) d c.with_number-2.ensures in
    let f = made_bytes line_end e c.with_bytes-3.ensures in
    let value = made_whole f (omega arith) in
    record { value = value; bound = omega (arith, ap length value, f.short) }
