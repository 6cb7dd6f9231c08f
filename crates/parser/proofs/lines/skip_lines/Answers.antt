use Rattle.std.proofs.Common.{◌<◌, length, sym, refl, ◌∙◌, arith}
use Rattle.grammar.specs.Sections.{blanks}
use Rattle.parser.proofs.Blanks.{past_end, past_more}
use Rattle.parser.proofs.Steps.{line_inside}
use Rattle.parser.proofs.lines.skip_lines.Goals as goal

pub lines-init : goal.lines-init
lines-init c = (length c.args.text.now, omega arith, refl)

pub returns-then-not-is_line : goal.returns-then-not-is_line
unfolding blanks
returns-then-not-is_line c =
    let i = c.lines.invariant in
    sym (i.2 ∙ past_end c.args.text.now _ c.lines.next c.look-seen.result c.look-seen.ensures.value c.if-not-is_line.ensures)

pub lines-smaller : goal.lines-smaller
lines-smaller c =
    let on = line_inside c.look-seen.ensures c.if-not-is_line.ensures in
    omega (arith, on.0, on.1)

pub lines-preserved : goal.lines-preserved
lines-preserved c =
    let i = c.lines.invariant in
    let on = line_inside c.look-seen.ensures c.if-not-is_line.ensures in
    let left : 0 < i.0 = omega (arith, i.1, on.0, on.1) in (
      _,
      omega (arith, i.1, on.0, on.1, left),
      i.2 ∙ past_more c.args.text.now i.0 c.lines.next c.look-seen.result c.look-seen.ensures.value c.if-not-is_line.ensures left,
    )
