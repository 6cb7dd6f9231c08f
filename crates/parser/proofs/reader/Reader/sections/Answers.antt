use Rattle.std.proofs.Common.{◌∙◌, arith}
use Rattle.parser.proofs.Blanks.{header_ok}
use Rattle.parser.proofs.Moves.{ready_on, ready_behind}
use Rattle.parser.proofs.Rows.{refuses, begins, formed_later, first_read, formula_read, second_read, safety_read, third_read}
use Rattle.parser.proofs.reader.Reader.sections.Goals as goal

pub returns-in_err-at : goal.returns-in_err-at
returns-in_err-at c =
    refuses _ c.args.self.now _ c.from_residual.result c.from_residual.ensures.1 (first_read _ _ c.in_err-at.ensures)

pub invariant_of-formula : goal.invariant_of-formula
invariant_of-formula c =
    let on = header_ok c.args.text.now _ _ 0 _ c.in_ok-at.ensures in
    record { short = c.requires.short; inside = on.in_text (omega arith) }

pub returns-in_err-initial : goal.returns-in_err-initial
returns-in_err-initial c =
    refuses _ c.formula.new.self _ c.from_residual-in_err-initial.result c.from_residual-in_err-initial.ensures.1
    (formula_read _ _ c.in_ok-at.ensures _ (begins c.args.self.now _ c.requires.ready.1) _ c.in_err-initial.ensures)

pub returns-in_err-at-2 : goal.returns-in_err-at-2
returns-in_err-at-2 c =
    refuses _ c.formula.new.self _ c.from_residual-in_err-at-2.result c.from_residual-in_err-at-2.ensures.1
    (second_read _ _ c.in_ok-at.ensures _ (begins c.args.self.now _ c.requires.ready.1) _ _ c.in_ok-initial.ensures.0 _
    c.in_err-at-2.ensures)

pub invariant_of-safety : goal.invariant_of-safety
invariant_of-safety c =
    let on = header_ok c.args.text.now _ _ _ _ c.in_ok-at-2.ensures in
    record { short = c.requires.short; inside = on.in_text c.in_ok-initial.ensures.1.in_text }

pub safety-requires : goal.safety-requires
safety-requires c =
    let first = header_ok c.args.text.now _ _ 0 _ c.in_ok-at.ensures in
    let second = header_ok c.args.text.now _ _ _ _ c.in_ok-at-2.ensures in
    ready_on (ready_behind (ready_on c.requires.ready.0 _ first.after) c.in_ok-initial.ensures.1) _ second.after

pub returns-in_err-safety : goal.returns-in_err-safety
returns-in_err-safety c =
    refuses _ c.safety.new.self _ c.from_residual-in_err-safety.result c.from_residual-in_err-safety.ensures.1
    (safety_read _ _ c.in_ok-at.ensures _ (begins c.args.self.now _ c.requires.ready.1) _ _ c.in_ok-initial.ensures.0
    _ c.in_ok-at-2.ensures _ c.in_err-safety.ensures)

pub returns-in_err-third_section : goal.returns-in_err-third_section
returns-in_err-third_section c =
    refuses _ c.safety.new.self _ c.from_residual-in_err-third_section.result
    c.from_residual-in_err-third_section.ensures.1
    (third_read _ _ c.in_ok-at.ensures _ (begins c.args.self.now _ c.requires.ready.1) _ _ c.in_ok-initial.ensures.0
    _ c.in_ok-at-2.ensures _ _ c.in_ok-safety.ensures.0 _ c.skip_lines.ensures _ c.in_err-third_section.ensures)

pub returns : goal.returns
returns c =
    let v = c.in_ok-initial.ensures in
    let w = c.in_ok-safety.ensures in (
      third_read _ _ c.in_ok-at.ensures _ (begins c.args.self.now _ c.requires.ready.1) _ _ v.0
          _ c.in_ok-at-2.ensures _ _ w.0 _ c.skip_lines.ensures _ c.in_ok-third_section.ensures
          ∙ formed_later _ _ _ _ (w.1.kept _ v.1.root),
      record {
        initial = omega (arith, v.1.root, w.1.grown);
        safety = w.1.root;
      },
      w.1.known.numbered,
    )
