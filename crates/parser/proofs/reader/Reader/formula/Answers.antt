use Rattle.std.proofs.Common.{refl, arith}
use Rattle.parser.proofs.Blanks.{blanks_on, line_reads, line_ok}
use Rattle.parser.proofs.Moves.{failed, ready_on, went_earlier, went_later}
use Rattle.parser.proofs.Rows.{formula_then, formula_ended}
use Rattle.parser.proofs.reader.Reader.formula.Goals as goal

pub invariant_of-arrow : goal.invariant_of-arrow
invariant_of-arrow c =
    let b = blanks_on c.args.from.text.now c.args.from.at in record {
      short = c.args.from.short;
      inside = omega (arith, c.skip_lines-at.ensures, b.in_text c.args.from.inside);
    }

pub arrow-requires : goal.arrow-requires
arrow-requires c =
    let b = blanks_on c.args.from.text.now c.args.from.at in
    ready_on c.requires _ (omega (arith, c.skip_lines-at.ensures, b.after))

pub returns-in_err-part : goal.returns-in_err-part
returns-in_err-part c =
    failed 1 _ c.args.from.text.now c.args.from.at c.args.self.now c.arrow.new.self c.arrow.new.slots _
    c.from_residual.result c.from_residual.ensures.1
    (formula_then _ _ _ c.skip_lines-at.ensures _ c.in_err-part.ensures)

pub returns-in_err-next : goal.returns-in_err-next
returns-in_err-next c =
    failed 1 _ c.args.from.text.now c.args.from.at c.args.self.now c.arrow.new.self c.arrow.new.slots _
    c.from_residual-in_err-next.result c.from_residual-in_err-next.ensures.1
    (formula_ended _ _ _ c.skip_lines-at.ensures _ _ c.in_ok-part.ensures.0 _ c.in_err-next.ensures)

pub returns : goal.returns
returns c =
    let d = c.in_ok-part.ensures in
    let e = c.in_ok-next.ensures in
    let text = c.args.from.text.now in
    let b = blanks_on text c.args.from.at in
    let lt = line_reads text c.in_ok-part.part.next c.in_ok-next.next e in
    let on = line_ok text c.in_ok-part.part.next c.in_ok-next.next e in (
      formula_ended _ _ _ c.skip_lines-at.ensures _ _ d.0 _ e,
      went_later _ 1 refl (omega (arith, lt)) (on.in_text d.1.in_text)
          (went_earlier c.args.from.at 0 (omega (arith, b.after, c.skip_lines-at.ensures)) d.1),
    )
