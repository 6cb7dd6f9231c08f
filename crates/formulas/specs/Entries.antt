-- The codes of entries.
use Rattle.std.specs.Prelude.{ℕ, ◌+◌, ◌*◌}
use Rattle.formulas.specs.declared.Formula.{Formula}
use Rattle.formulas.specs.declared.Formula.TheVariants as entry

-- a code of an operator's number and of what an entry holds, in order, 0 for what it lacks
abbrev pub mixed : ℕ → ℕ → ℕ → ℕ → ℕ
mixed operator a b c = operator + 11 * a + 353 * b + 10007 * c

-- the code of an entry: of its operator, then of its variable, its bounds and its parts
abbrev pub entry_code : Formula → ℕ
entry_code entry.False = mixed 0 0 0 0
entry_code entry.True = mixed 1 0 0 0
entry_code (entry.Variable v) = mixed 2 v 0 0
entry_code (entry.Negated v) = mixed 3 v 0 0
entry_code (entry.And a b) = mixed 4 a b 0
entry_code (entry.Or a b) = mixed 5 a b 0
entry_code (entry.Next n a) = mixed 6 n a 0
entry_code (entry.Always n m a) = mixed 7 n m a
entry_code (entry.Eventually n m a) = mixed 8 n m a
