use Rattle.std.proofs.Common.{ℕ, true, false, Some, Option, sym, subst, arith}
use Rattle.formulas.specs.declared.Formula.TheVariants as entry
use Rattle.records.specs.Table.{formulas_of, formula_of}
use Rattle.formulas.specs.declared.junction.Junction.TheVariants.{And, Or}
use Rattle.rested.specs.Rests.{Rested}
use Rattle.rested.proofs.Steps.{pair_on}
use Rattle.rested.proofs.Entries.{rested_named, rested_bot, rested_top, rested_literal}
use Rattle.rested.proofs.rest.rest_of.Goals as goal

pub returns-in-False : goal.returns-in-False
returns-in-False g c rs i ready l e before =
    let R = g.R.Reading.literals c.args.reading.now in
    let ok = ready.listing in
    rested_named rs ok i l c.args.f e R (entry.False) _ _ _ (Some 0)
    c.try_from.ensures c.ok.ensures.value c.in_ok-ok.was c.in-False.is
    (λ p. rested_bot rs ok R)

pub returns-in-True : goal.returns-in-True
returns-in-True g c rs i ready l e before =
    let R = g.R.Reading.literals c.args.reading.now in
    let ok = ready.listing in
    rested_named rs ok i l c.args.f e R (entry.True) _ _ _ (Some 1)
    c.try_from.ensures c.ok.ensures.value c.in_ok-ok.was c.in-True.is
    (λ p. rested_top rs ok R)

pub returns-in-Variable : goal.returns-in-Variable
returns-in-Variable g c rs i ready l e before =
    let R = g.R.Reading.literals c.args.reading.now in
    let ok = ready.listing in
    rested_named rs ok i l c.args.f e R (entry.Variable c.in-Variable.v) _ _ _ (Some c.from.result)
    c.try_from.ensures c.ok.ensures.value c.in_ok-ok.was c.in-Variable.is
    (λ p. rested_literal rs ok R true c.in-Variable.v c.from.result c.counts.result c.from.ensures c.counts.ensures)

pub returns-in-Negated : goal.returns-in-Negated
returns-in-Negated g c rs i ready l e before =
    let R = g.R.Reading.literals c.args.reading.now in
    let ok = ready.listing in
    rested_named rs ok i l c.args.f e R (entry.Negated c.in-Negated.v) _ _ _ (Some c.from-in-Negated.result)
    c.try_from.ensures c.ok.ensures.value c.in_ok-ok.was c.in-Negated.is
    (λ p. rested_literal rs ok R false c.in-Negated.v c.from-in-Negated.result c.counts-in-Negated.result c.from-in-Negated.ensures c.counts-in-Negated.ensures)

pub returns-in-And : goal.returns-in-And
returns-in-And g c rs i ready l e before =
    let R = g.R.Reading.literals c.args.reading.now in
    let ok = ready.listing in
    let a = c.in-And.a in
    let b = c.in-And.b in
    rested_named rs ok i l c.args.f e R (entry.And a b) _ _ _ (c.joined_both.result)
    c.try_from.ensures c.ok.ensures.value c.in_ok-ok.was c.in-And.is
    (λ p. pair_on R And rs c.args.slots.now ready (formula_of rs a) (formula_of rs b) c.recalled.result c.recalled-in-And.result c.joined_both.result
    (subst (λ (o : Option ℕ). Rested R (formulas_of rs) (formula_of rs a) o) (sym c.recalled.ensures) (before a p.0.1))
    (subst (λ (o : Option ℕ). Rested R (formulas_of rs) (formula_of rs b) o) (sym c.recalled-in-And.ensures) (before b p.1.1)) c.joined_both.ensures)

pub returns-in-Or : goal.returns-in-Or
returns-in-Or g c rs i ready l e before =
    let R = g.R.Reading.literals c.args.reading.now in
    let ok = ready.listing in
    let a = c.in-Or.a in
    let b = c.in-Or.b in
    rested_named rs ok i l c.args.f e R (entry.Or a b) _ _ _ (c.joined_both-in-Or.result)
    c.try_from.ensures c.ok.ensures.value c.in_ok-ok.was c.in-Or.is
    (λ p. pair_on R Or rs c.args.slots.now ready (formula_of rs a) (formula_of rs b) c.recalled-in-Or.result c.recalled-in-Or-2.result c.joined_both-in-Or.result
    (subst (λ (o : Option ℕ). Rested R (formulas_of rs) (formula_of rs a) o) (sym c.recalled-in-Or.ensures) (before a p.0.1))
    (subst (λ (o : Option ℕ). Rested R (formulas_of rs) (formula_of rs b) o) (sym c.recalled-in-Or-2.ensures) (before b p.1.1)) c.joined_both-in-Or.ensures)

pub returns-in-Next : goal.returns-in-Next
returns-in-Next g c rs i ready l e before =
    let R = g.R.Reading.literals c.args.reading.now in
    let ok = ready.listing in
    rested_named rs ok i l c.args.f e R (entry.Next c.in-Next.n c.in-Next.a) _ _ _ (c.rest_of_next.result)
    c.try_from.ensures c.ok.ensures.value c.in_ok-ok.was c.in-Next.is
    (λ p. c.rest_of_next.ensures rs R ready (omega (arith, p.1.1)) p.0)

pub returns-in-Always : goal.returns-in-Always
returns-in-Always g c rs i ready l e before =
    let R = g.R.Reading.literals c.args.reading.now in
    let ok = ready.listing in
    let a = c.in-Always.a in
    rested_named rs ok i l c.args.f e R (entry.Always c.in-Always.n c.in-Always.m a) _ _ _ (c.rest_of_range.result)
    c.try_from.ensures c.ok.ensures.value c.in_ok-ok.was c.in-Always.is
    (λ p. c.rest_of_range.ensures rs R ready (omega (arith, p.1.1)) p.0
    (subst (λ (o : Option ℕ). Rested R (formulas_of rs) (formula_of rs a) o) (sym c.recalled-in-Always.ensures) (before a p.1.1)))

pub returns-in-Eventually : goal.returns-in-Eventually
returns-in-Eventually g c rs i ready l e before =
    let R = g.R.Reading.literals c.args.reading.now in
    let ok = ready.listing in
    let a = c.in-Eventually.a in
    rested_named rs ok i l c.args.f e R (entry.Eventually c.in-Eventually.n c.in-Eventually.m a) _ _ _ (c.rest_of_range-in-Eventually.result)
    c.try_from.ensures c.ok.ensures.value c.in_ok-ok.was c.in-Eventually.is
    (λ p. c.rest_of_range-in-Eventually.ensures rs R ready (omega (arith, p.1.1)) p.0
    (subst (λ (o : Option ℕ). Rested R (formulas_of rs) (formula_of rs a) o) (sym c.recalled-in-Eventually.ensures) (before a p.1.1)))
