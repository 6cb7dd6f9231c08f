-- Which formulas have to be in a card's list where the rest of a formula is taken.
use Rattle.std.specs.Prelude.{zero, suc, List, [], ◌∷◌, ◌++◌, map}
use Rattle.temporal.specs.Formula.{Formula, bot, top, lit, conj, disj, next, always, eventually, Reading, rest}

-- the rest of the formula, the rests of the parts met on the way, and the shorter G or F beside the rest of a body,
-- also beside a constant that decides the whole; the body of an X, and of a G or F that begins later, is not met
abbrev pub met : Reading → Formula → List Formula
met R bot = bot ∷ []
met R top = top ∷ []
met R (lit s i) = rest R (lit s i) ∷ []
met R (conj f g) = rest R (conj f g) ∷ (met R f ++ met R g)
met R (disj f g) = rest R (disj f g) ∷ (met R f ++ met R g)
met R (next n f) = rest R (next n f) ∷ []
met R (always zero zero f) = met R f
met R (always zero (suc m) f) = rest R (always zero (suc m) f) ∷ (always zero m f ∷ met R f)
met R (always (suc n) m f) = rest R (always (suc n) m f) ∷ []
met R (eventually zero zero f) = met R f
met R (eventually zero (suc m) f) = rest R (eventually zero (suc m) f) ∷ (eventually zero m f ∷ met R f)
met R (eventually (suc n) m f) = rest R (eventually (suc n) m f) ∷ []

-- the rests of several formulas
abbrev pub rests : Reading → List Formula → List Formula
rests R fs = map (rest R) fs
