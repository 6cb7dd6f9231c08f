-- What a set of formulas holds, and what it covers.
use Rattle.std.specs.Prelude.{ℕ, Bool, true, ◌&&◌, ◌||◌, List, [], ◌∷◌, ◌++◌, nat_le}
use Rattle.temporal.specs.Formula.{Formula, bot, top, lit, conj, disj, next, always, eventually, shape, same}
use Rattle.temporal.specs.Parts.{member}
use Rattle.tableau.specs.Lists.{any, concat_map}

-- a formula with both parts of each conjunction that it is
abbrev pub conjuncts : Formula → List Formula
conjuncts bot = bot ∷ []
conjuncts top = top ∷ []
conjuncts (lit s i) = lit s i ∷ []
conjuncts (conj f g) = conj f g ∷ (conjuncts f ++ conjuncts g)
conjuncts (disj f g) = disj f g ∷ []
conjuncts (next n f) = next n f ∷ []
conjuncts (always n m f) = always n m f ∷ []
conjuncts (eventually n m f) = eventually n m f ∷ []

-- what a set holds: its members, and both parts of each conjunction held
abbrev pub held : List Formula → List Formula
held S = concat_map conjuncts S

-- h is G of f over a range that includes n to m
abbrev pub wider : ℕ → ℕ → Formula → Formula → Bool
wider n m f h = same h (always (shape h).lower (shape h).upper f) && (nat_le (shape h).lower n && nat_le m (shape h).upper)

-- h is F of f over a range inside n to m
abbrev pub inner : ℕ → ℕ → Formula → Formula → Bool
inner n m f h = same h (eventually (shape h).lower (shape h).upper f) && (nat_le n (shape h).lower && nat_le (shape h).upper m)

-- the set holds false or f
abbrev pub plainly : List Formula → Formula → Bool
plainly S f = member bot (held S) || member f (held S)

-- the set covers f: f is true; false or f is held; for a G, a G of its body over a wider range is held;
-- for an F, an F of its body over an inner range; for a conjunction both parts are covered, for a disjunction one is
abbrev pub covers : List Formula → Formula → Bool
covers S bot = plainly S bot
covers S top = true
covers S (lit s i) = plainly S (lit s i)
covers S (conj f g) = plainly S (conj f g) || (covers S f && covers S g)
covers S (disj f g) = plainly S (disj f g) || (covers S f || covers S g)
covers S (next n f) = plainly S (next n f)
covers S (always n m f) = plainly S (always n m f) || any (wider n m f) (held S)
covers S (eventually n m f) = plainly S (eventually n m f) || any (inner n m f) (held S)
