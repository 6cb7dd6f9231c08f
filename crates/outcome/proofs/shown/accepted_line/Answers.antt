use Rattle.std.proofs.Common.{length, codes, sym, ap, ◌∙◌, arith}
use Rattle.lines.proofs.Pieces.{made_known, made_bytes, made_u16, made_whole}
use Rattle.outcome.specs.Lines.{accepted_line, line_end}
use Rattle.outcome.proofs.shown.accepted_line.Goals as goal

pub returns-in-Realizable : goal.returns-in-Realizable
returns-in-Realizable c =
    let a = made_known c.counts.ensures.text c.counts.ensures.short (omega arith) in
    let b = made_bytes line_end a c.with_bytes.ensures in
    let text = made_whole b (omega arith) in
    record { value = text ∙ sym (ap accepted_line c.in-Realizable.is); bound = omega (arith, ap length text, b.short) }

pub returns-in-Unrealizable : goal.returns-in-Unrealizable
returns-in-Unrealizable c =
    let a = made_known c.counts-in-Unrealizable.ensures.text c.counts-in-Unrealizable.ensures.short (omega arith) in
    let b = made_bytes (codes " depth ") a c.with_bytes-in-Unrealizable.ensures in
    let d = made_u16 c.in-Unrealizable.depth (omega arith) b c.with_number.ensures in
    let e = made_bytes line_end d c.with_bytes-in-Unrealizable-2.ensures in
    let text = made_whole e (omega arith) in
    record { value = text ∙ sym (ap accepted_line c.in-Unrealizable.is); bound = omega (arith, ap length text, e.short) }
