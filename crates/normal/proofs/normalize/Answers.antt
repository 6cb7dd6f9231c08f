use Rattle.std.proofs.Common.{Result, sym, ◌∙◌, subst, arith}
use Rattle.std.proofs.lemmas.Bool.{leb-true}
use Rattle.normal.specs.declared.table.Formulas.{Formulas}
use Rattle.normal.specs.declared.table.Refusal.{Refusal}
use Rattle.normal.specs.Normalized.{Leaves, Normalized}
use Rattle.normal.proofs.Whole.{text_answered}
use Rattle.normal.proofs.normalize.Goals as goal

pub returns : goal.returns
returns c =
    let s = c.args.syntax.now in
    let d = text_answered s c.list_of.new.slots _ (leb-true 2048 _ (sym c.enough.ensures ∙ c.if-not-enough.false)) c.args.slots.now (omega arith)
    c.list_of.result c.list_of.ensures in
    record {
      value = subst (Normalized s _) (sym c.ok_or.ensures.value) d.0;
      slots = subst (λ (r : Result Formulas Refusal). Leaves c.args.slots.now r c.list_of.new.slots) (sym c.ok_or.ensures.value) d.1;
    }
