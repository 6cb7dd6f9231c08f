-- The form that every specification keeps: parts before wholes (`ordered`), bounds in order, variables in range.
use Rattle.std.specs.Prelude.{ℕ, ◌+◌, Bool, true, ◌&&◌, ◌||◌, List, [], ◌∷◌, length, nat_le, nat_lt}
use Rattle.names.specs.declared.Name.{Name}
use Rattle.grammar.specs.Numbering.{environment_names, system_names}
use Rattle.formulas.specs.declared.Formula.{Formula}
use Rattle.formulas.specs.declared.Formula.TheVariants as entry

-- v is one of ne environment variables, from 0, or of ns system variables, from 16
abbrev pub in_range : ℕ → ℕ → ℕ → Bool
in_range ne ns v = (nat_lt v 16 && nat_lt v ne) || (nat_le 16 v && nat_lt v (16 + ns))

abbrev pub keeps : ℕ → ℕ → Formula → Bool
keeps ne ns entry.False = true
keeps ne ns entry.True = true
keeps ne ns (entry.Variable v) = in_range ne ns v
keeps ne ns (entry.Negated v) = in_range ne ns v
keeps ne ns (entry.And a b) = true
keeps ne ns (entry.Or a b) = true
keeps ne ns (entry.Next n a) = nat_le 1 n && nat_le n 4095
keeps ne ns (entry.Always n m a) = nat_le n m && nat_le m 4095
keeps ne ns (entry.Eventually n m a) = nat_le n m && nat_le m 4095

abbrev pub all_keep : ℕ → ℕ → List Formula → Bool
all_keep ne ns [] = true
all_keep ne ns (e ∷ es) = keeps ne ns e && all_keep ne ns es

-- the formulas of a specification with these names keep its form
abbrev pub in_form : List Name → List Formula → Bool
in_form names es = all_keep (length (environment_names names)) (length (system_names names)) es
