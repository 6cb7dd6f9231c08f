-- The variables of a text, numbered by first appearance, each kind for itself.
use Rattle.std.specs.Prelude.{◌≡◌, ℕ, ◌+◌, Bool, true, false, cond, not, ◌&&◌, List, [], ◌∷◌, ◌++◌, filter, ◌==◌}
use Rattle.std.specs.Bool.{beq}
use Rattle.std.specs.Str.{bytes_eq}
use Rattle.names.specs.declared.Name.{Name}
use Rattle.names.specs.Words.{word_of, is_environment}

abbrev pub same_name : Name → Name → Bool
same_name x y = bytes_eq x.bytes y.bytes && x.length == y.length

-- a name ending in `_e` is the environment's, any other the system's
abbrev pub environmental : Name → Bool
environmental x = is_environment (word_of x)

abbrev pub same_kind : Name → Name → Bool
same_kind x y = beq (environmental x) (environmental y)

-- how many names of x's kind stand before x in the list, or in all of it where x is not there
abbrev pub rank : Name → List Name → ℕ
rank x [] = 0
rank x (y ∷ ys) = cond (same_name x y) 0 (cond (same_kind x y) 1 0 + rank x ys)

abbrev pub listed : Name → List Name → Bool
listed x [] = false
listed x (y ∷ ys) = cond (same_name x y) true (listed x ys)

-- the names with x behind them, unless it is there
abbrev pub extended : Name → List Name → List Name
extended x names = cond (listed x names) names (names ++ x ∷ [])

-- the variable of a name: environment variables are 0 to 15, system variables 16 to 31
abbrev pub variable_of : Name → List Name → ℕ
variable_of x names = cond (environmental x) 0 16 + rank x names

-- the names of each kind, in order of appearance
abbrev pub environment_names : List Name → List Name
environment_names names = filter environmental names

abbrev pub system_names : List Name → List Name
system_names names = filter (λ x. not (environmental x)) names

-- no name stands twice
abbrev pub Distinct : List Name → Type 0
Distinct [] = Unit {0}
Distinct (x ∷ xs) = (listed x xs ≡ false) × Distinct xs
