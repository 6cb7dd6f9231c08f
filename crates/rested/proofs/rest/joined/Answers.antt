use Rattle.std.proofs.Common.{◌∙◌, ap, subst, Some, ℕ, sym, inl, inr}
use Rattle.records.specs.declared.FormulaRecord.{FormulaRecord}
use Rattle.records.specs.Kinds.{recorded}
use Rattle.records.specs.Table.{formulas_of, formula_of}
use Rattle.formulas.specs.Junctions.{join_of}
use Rattle.rested.specs.Rests.{Placed}
use Rattle.rested.specs.Steps.{Listed}
use Rattle.rested.proofs.Found.{joined_absorbing, joined_first_neutral, joined_second_neutral, joined_found}
use Rattle.rested.proofs.rest.joined.Goals as goal

pub returns-then-x-absorbing : goal.returns-then-x-absorbing
returns-then-x-absorbing c rs ready lx ly =
    let is = c.absorbing-absorbing.ensures in
    subst (λ (k : ℕ). Placed (formulas_of rs) (join_of c.args.junction (formula_of rs c.args.x) (formula_of rs c.args.y)) (Some k)) (sym is)
    (joined_absorbing rs ready.listing c.args.junction c.args.x c.args.y lx ly
    (elim c.then-x-absorbing.either [ inl h ↦ inl (h ∙ is) | inr h ↦ inr ((λ e. h.0 (e ∙ sym is)), h.1 ∙ is) ]))

pub returns-then-x-neutral : goal.returns-then-x-neutral
returns-then-x-neutral c rs ready lx ly =
    joined_first_neutral rs ready.listing c.args.junction c.args.x c.args.y lx ly (c.if-x-neutral.true ∙ c.neutral-neutral.ensures)

pub returns-then-y-neutral : goal.returns-then-y-neutral
returns-then-y-neutral c rs ready lx ly =
    joined_second_neutral rs ready.listing c.args.junction c.args.x c.args.y lx ly (c.if-y-neutral.true ∙ c.neutral-neutral.ensures)

pub returns : goal.returns
returns c rs ready lx ly =
    let absorbing = c.absorbing-absorbing.ensures in
    let neutral = c.neutral-neutral.ensures in
    let entered = c.into.ensures ∙ ap recorded c.of_both.ensures in
    joined_found rs ready.listing c.args.junction c.args.x c.args.y lx ly
    (λ e. c.if-x-absorbing.false (e ∙ sym absorbing)) (λ e. c.if-y-absorbing.false (e ∙ sym absorbing))
    (λ e. c.if-x-neutral.false (e ∙ sym neutral)) (λ e. c.if-y-neutral.false (e ∙ sym neutral)) c.listed.result
    (subst (λ (f : FormulaRecord). Listed c.args.slots.now f c.listed.result) entered c.listed.ensures rs ready)
