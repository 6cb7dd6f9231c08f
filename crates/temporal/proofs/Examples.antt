-- The definitions compute on closed terms.
use mathlib.Core.Path.{◌≡◌, refl}
use mathlib.Core.Bool.{true, false}
use mathlib.Core.List.{[], ◌∷◌}
use Prim.Native.Nat.{ℕ, zero, suc}
use lib.ListN.{length}
use Rattle.temporal.specs.Formula.{Formula, bot, top, lit, conj, disj, next, always, rest}
use Rattle.temporal.specs.Written.{falsity, truth, variable, throughout, conjunction, disjunction}
use Rattle.temporal.specs.Written.{implication, equivalence, normal}
use Rattle.temporal.specs.Parts.{parts_of}
use Rattle.temporal.specs.Game.{reading}

-- s <-> p_e: the two constants and seven parts
copy : parts_of top (normal true (equivalence (variable 16) (variable 0)))
    ≡ bot ∷ top ∷ lit true 16 ∷ lit true 0 ∷ conj (lit true 16) (lit true 0)
    ∷ lit false 16 ∷ lit false 0 ∷ conj (lit false 16) (lit false 0)
    ∷ disj (conj (lit true 16) (lit true 0)) (conj (lit false 16) (lit false 0)) ∷ []
copy = refl

-- what folds away is not listed
folded : parts_of (normal true (conjunction falsity (variable 16))) (normal true (throughout 3 9 (disjunction truth (variable 0))))
    ≡ bot ∷ top ∷ []
folded = refl

-- conjunctions of delayed variables, n deep
tower : ℕ → Formula
tower zero = lit true 0
tower (suc n) = conj (tower n) (next (suc n) (lit true 16))

counted : length (parts_of top (tower 30)) ≡ 64
unfolding tower
counted = refl

-- a step of G[0,99] s
step_of : rest (reading (record { env = 1; sys = 1 })) (normal true (implication (variable 0) (throughout 0 99 (variable 16))))
    ≡ always 0 98 (lit true 16)
step_of = refl
