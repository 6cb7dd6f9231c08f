-- How soon the environment forces a set of formulas to be false.
use Rattle.std.specs.Prelude.{ℕ, zero, suc, ◌⊎◌, List, ◌∷◌}
use Rattle.temporal.specs.Formula.{Formula, bot}
use Rattle.temporal.specs.Parts.{◌∈◌}
use Rattle.temporal.specs.Game.{Spec, Permitted, Reply, reading}
use Rattle.tableau.specs.Cover.{held}
use Rattle.tableau.specs.Met.{rests}

-- what the step of input e and reply s leaves of a set: the rests of its members and of the safety formula
abbrev pub left_after : Spec → ℕ → ℕ → List Formula → List Formula
left_after spec e s S = rests (reading (record { env = e; sys = s })) (spec.safety ∷ S)

-- false is held, or some permitted input forces it, whatever the reply, within one turn less
abbrev pub Forces : Spec → ℕ → List Formula → Type 0
Forces spec zero S = bot ∈ held S
Forces spec (suc k) S = (bot ∈ held S) ⊎ ((e : ℕ) × Permitted spec e × ((s : ℕ) → Reply spec s → Forces spec k (left_after spec e s S)))
