use Rattle.std.proofs.Common.{length, codes, ap, arith}
use Rattle.lines.proofs.Pieces.{made_none, made_bytes, made_piece, made_u16, made_whole}
use Rattle.outcome.proofs.shown.counts.Goals as goal

pub returns : goal.returns
returns c =
    let a = made_none c.new.ensures in
    let b = made_piece 20 c.args.verdict.now c.requires a c.with_bytes.ensures in
    let d = made_u16 c.args.nodes (omega arith) b c.with_number.ensures in
    let e = made_bytes (codes " moves ") d c.with_bytes-2.ensures in
    let f = made_u16 c.args.moves (omega arith) e c.with_number-2.ensures in
    let text = made_whole f (omega arith) in
    record { text = text; short = omega (arith, ap length text, f.short) }
