use Rattle.std.proofs.Common.{◌≡◌, ◌-◌, ◌∙◌, ap, subst, arith}
use Rattle.records.specs.declared.FormulaRecord.{FormulaRecord}
use Rattle.records.specs.Kinds.{recorded}
use Rattle.records.specs.Table.{formulas_of, formula_of}
use Rattle.formulas.specs.Junctions.{join_of, range_of, entry_over}
use Rattle.rested.specs.Steps.{Listed}
use Rattle.rested.proofs.Found.{over_placed}
use Rattle.rested.proofs.Steps.{ranged, range_later, range_on}
use Rattle.rested.proofs.rest.rest_of_range.Goals as goal

pub returns-then-n-gt0 : goal.returns-then-n-gt0
returns-then-n-gt0 c rs R ready la l p =
    let j = c.args.junction in
    let m : c.saturating_sub.result ≡ c.args.m - 1 = c.saturating_sub.ensures in
    let entered = c.into.ensures ∙ ap recorded (c.over.ensures ∙ (λ i. entry_over j (c.args.n - 1) (m i) c.args.a)) in
    range_later R (range_of j) (join_of j) (ranged R j) (formulas_of rs) (formula_of rs c.args.a) c.args.n c.args.m c.listed.result
    (omega arith) l
    (over_placed rs ready.listing c.args.a (c.args.n - 1) (c.args.m - 1) la c.listed.result j
    (subst (λ (f : FormulaRecord). Listed c.args.slots.now f c.listed.result) entered c.listed.ensures rs ready))

pub returns : goal.returns
returns c rs R ready la l p =
    let j = c.args.junction in
    let y = c.listed-shorter.result in
    let entered = c.into-2.ensures ∙ ap recorded c.over-2.ensures in
    range_on R (range_of j) (join_of j) (ranged R j) rs c.args.slots.now ready c.args.n c.args.m (formula_of rs c.args.a) c.args.body y
    c.joined_both.result (omega arith) c.if-m-eq0.false p
    (over_placed rs ready.listing c.args.a 0 (c.args.m - 1) la y j
    (subst (λ (f : FormulaRecord). Listed c.args.slots.now f y) entered c.listed-shorter.ensures rs ready))
    c.joined_both.ensures
