use Rattle.std.proofs.Common.{◌≡◌, ◌+◌, Bool, List, length, sym, ap, ◌∙◌, subst, arith}
use Rattle.records.specs.declared.FormulaRecord.{FormulaRecord}
use Rattle.tableau.specs.Cover.{held}
use Rattle.covered.specs.Marks.{held_marks}
use Rattle.covered.specs.Meaning.{Members}
use Rattle.covered.proofs.Passes.{held_last, held_none}
use Rattle.covered.proofs.Holding.{marks_held}
use Rattle.covered.proofs.hold.hold.Goals as goal

pub loop-i-preserved : goal.loop-i-preserved
loop-i-preserved c =
    let s = c.in-Some.ensures.steps in
    let left = c.next.new.self.iter.iter.rest.now in
    let at : c.in-Some.i ≡ 0 + length left = omega (arith, s.1.1, c.loop-i.invariant.1) in (
      ap (held_marks left) c.hold_parts.ensures
          ∙ sym (held_last left c.in-Some.record.now 0 c.in-Some.i c.loop-i.marks at)
          ∙ sym (ap (λ (xs : List FormulaRecord). held_marks xs c.loop-i.marks) s.1.0)
          ∙ c.loop-i.invariant.0,
      s.0 ∙ c.loop-i.invariant.1,
    )

pub returns : goal.returns
returns c =
    let left = c.loop-i.i-iterator.iter.iter.rest.now in
    let value : c.loop-i.marks ≡ held_marks c.args.records.now c.args.marks.now =
    sym (held_none left 0 c.loop-i.marks c.in-None.ensures.steps.1.0) ∙ c.loop-i.invariant.0 in
    record {
      value = value;
      law = λ spec t S listed members.
          subst (λ (xs : List Bool). Members c.args.records.now (held S) xs) (sym value)
          (marks_held spec c.args.records.now t S listed c.args.marks.now (omega (arith, t.few)) members);
    }
