use Rattle.std.proofs.Common.{◌-◌, ◌<◌, length, refl, ap, ◌∙◌, arith}
use Rattle.grammar.specs.Grammar.{and_then}
use Rattle.grammar.specs.Sections.{lines_in}
use Rattle.parser.proofs.Moves.{failed, went_here, went_both}
use Rattle.parser.proofs.Joins.{line_good, line_went}
use Rattle.parser.proofs.Rows.{safety_then, lines_end, lines_then}
use Rattle.parser.proofs.reader.Reader.safety.Goals as goal

pub returns-in_err-part : goal.returns-in_err-part
returns-in_err-part c =
    failed 1 _ c.args.from.text.now c.args.from.at c.args.self.now c.formula.new.self c.formula.new.slots _
    c.from_residual.result c.from_residual.ensures.1 (safety_then _ _ _ c.in_err-part.ensures)

pub rows-init : goal.rows-init
rows-init c =
    let d = c.in_ok-part.ensures.1 in
    (length c.args.from.text.now, omega (arith, d.few, d.grown), refl, went_here d)

pub returns-then-third_begins : goal.returns-then-third_begins
returns-then-third_begins c =
    let d = c.in_ok-part.ensures in
    let i = c.rows.invariant in
    (safety_then _ _ _ d.0 ∙ i.2 ∙ lines_end _ _ _ _ _ c.skip_lines.ensures c.if-third_begins.ensures, went_both d.1 i.3)

pub returns-in_err-line : goal.returns-in_err-line
returns-in_err-line c =
    let d = c.in_ok-part.ensures in
    let i = c.rows.invariant in
    let left : 0 < i.0 = omega (arith, i.1, i.3.in_text) in
    failed 1 _ c.args.from.text.now c.args.from.at c.args.self.now c.formula-in-rows.new.self c.formula-in-rows.new.slots _
    c.from_residual-in_err-line.result c.from_residual-in_err-line.ensures.1
    (safety_then _ _ _ d.0 ∙ i.2
    ∙ lines_then _ _ _ _ _ c.skip_lines.ensures c.if-third_begins.ensures left _ c.in_err-line.ensures)

pub rows-preserved : goal.rows-preserved
rows-preserved c =
    let i = c.rows.invariant in
    let left : 0 < i.0 = omega (arith, i.1, i.3.in_text) in
    let f = c.in_ok-line.ensures in
    let text = c.args.from.text.now in (
      i.0 - 1,
      omega (arith, i.1, left, f.1.few, f.1.grown, c.join-part.ensures.next),
      i.2 ∙ lines_then _ _ _ _ _ c.skip_lines.ensures c.if-third_begins.ensures left _ f.0
          ∙ ap (λ o. and_then o (λ u s'. lines_in text (i.0 - 1) u s')) (line_good i.3 f.1 c.join-part.ensures),
      line_went i.3 f.1 c.join-part.ensures,
    )
