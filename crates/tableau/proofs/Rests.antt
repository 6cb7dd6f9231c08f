-- What is met where the rest of a formula is taken has that rest.
use Rattle.std.proofs.Common.{zero, suc}
use Rattle.temporal.specs.Formula.{Formula, bot, top, lit, conj, disj, next, always, eventually, Reading, rest}
use Rattle.temporal.specs.Parts.{◌∈◌, first}
use Rattle.tableau.specs.Met.{met}

pub rest_met : (R : Reading) (f : Formula) → rest R f ∈ met R f
rest_met R bot = first
rest_met R top = first
rest_met R (lit s i) = first
rest_met R (conj f g) = first
rest_met R (disj f g) = first
rest_met R (next n f) = first
rest_met R (always zero zero f) = rest_met R f
rest_met R (always zero (suc m) f) = first
rest_met R (always (suc n) m f) = first
rest_met R (eventually zero zero f) = rest_met R f
rest_met R (eventually zero (suc m) f) = first
rest_met R (eventually (suc n) m f) = first
