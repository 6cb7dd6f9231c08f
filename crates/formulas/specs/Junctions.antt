-- Conjunction and disjunction, and the same over a range of steps: G and F.
use Rattle.std.specs.Prelude.{ℕ, Bool, true, false}
use Rattle.temporal.specs.Formula.{Formula as Tree, conjoin, disjoin, always, eventually}
use Rattle.formulas.specs.declared.Formula.{Formula}
use Rattle.formulas.specs.declared.Formula.TheVariants as entry
use Rattle.formulas.specs.declared.junction.Junction.{Junction}
use Rattle.formulas.specs.declared.junction.Junction.TheVariants.{And, Or}

-- two formulas joined, and one formula joined over the steps from n to m
abbrev pub join_of : Junction → Tree → Tree → Tree
join_of And = conjoin
join_of Or = disjoin

abbrev pub range_of : Junction → ℕ → ℕ → Tree → Tree
range_of And = always
range_of Or = eventually

-- the number of the constant that decides alone, and of the constant that leaves the other part: 0 is false, 1 true
abbrev pub absorbing_of : Junction → ℕ
absorbing_of And = 0
absorbing_of Or = 1

abbrev pub neutral_of : Junction → ℕ
neutral_of And = 1
neutral_of Or = 0

-- the entries of such formulas
abbrev pub entry_of_both : Junction → ℕ → ℕ → Formula
entry_of_both And a b = entry.And a b
entry_of_both Or a b = entry.Or a b

abbrev pub entry_over : Junction → ℕ → ℕ → ℕ → Formula
entry_over And n m a = entry.Always n m a
entry_over Or n m a = entry.Eventually n m a

-- the operator of a conjunction or disjunction (true), or of its negation (false)
abbrev pub under : Junction → Bool → Junction
under And true = And
under And false = Or
under Or true = Or
under Or false = And
