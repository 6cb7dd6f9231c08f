use Rattle.std.proofs.Common.{◌-◌, subst, arith}
use Rattle.records.specs.declared.FormulaRecord.{FormulaRecord}
use Rattle.records.specs.Table.{formulas_of, formula_of}
use Rattle.rested.specs.Steps.{Listed}
use Rattle.rested.proofs.Trees.{trees_long}
use Rattle.rested.proofs.Found.{next_placed}
use Rattle.rested.proofs.Steps.{next_now, next_later}
use Rattle.rested.proofs.rest.rest_of_next.Goals as goal

pub returns-then-n-le1 : goal.returns-then-n-le1
returns-then-n-le1 c rs R ready la l =
    next_now R (formulas_of rs) c.args.a c.args.n (omega (arith, la, trees_long rs ready.listing)) l (omega arith)

pub returns : goal.returns
returns c rs R ready la l =
    next_later R (formulas_of rs) (formula_of rs c.args.a) c.args.n c.listed.result (omega arith)
    (next_placed rs ready.listing c.args.a (c.args.n - 1) 0 la c.listed.result
    (subst (λ (f : FormulaRecord). Listed c.args.slots.now f c.listed.result) c.into.ensures c.listed.ensures rs ready))
