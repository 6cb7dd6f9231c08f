-- Formulas as a text writes them, what they say, and their normal form.
use Rattle.std.specs.Prelude.{◌≡◌, ◌⊎◌, Bool, true, false, ℕ, ◌+◌, ◌≤◌}
use Rattle.std.specs.Bool.{beq}
use Rattle.temporal.specs.Formula.{Formula, bot, top, lit, Reading, conjoin, disjoin, next_of, always_of, eventually_of, Numbered}

-- `later n` is X[n], `throughout n m` is G[n,m], `within n m` is F[n,m]
pub data Written : Type 0 where
  falsity : Written
  truth : Written
  variable : ℕ → Written
  negation : Written → Written
  later : ℕ → Written → Written
  throughout : ℕ → ℕ → Written → Written
  within : ℕ → ℕ → Written → Written
  conjunction : Written → Written → Written
  disjunction : Written → Written → Written
  implication : Written → Written → Written
  equivalence : Written → Written → Written

-- the value of each variable at a step
abbrev pub Valuation : Type 0
Valuation = ℕ → Bool

-- what a formula says of the step t of a sequence of valuations: linear temporal logic with bounds
abbrev pub Says : (ℕ → Valuation) → ℕ → Written → Type 0
Says σ t falsity = ⊥
Says σ t truth = Unit {0}
Says σ t (variable i) = σ t i ≡ true
Says σ t (negation w) = Says σ t w → ⊥
Says σ t (later n w) = Says σ (t + n) w
Says σ t (throughout n m w) = (k : ℕ) → n ≤ k → k ≤ m → Says σ (t + k) w
Says σ t (within n m w) = (k : ℕ) × (n ≤ k) × (k ≤ m) × Says σ (t + k) w
Says σ t (conjunction w v) = Says σ t w × Says σ t v
Says σ t (disjunction w v) = Says σ t w ⊎ Says σ t v
Says σ t (implication w v) = Says σ t w → Says σ t v
Says σ t (equivalence w v) = (Says σ t w → Says σ t v) × (Says σ t v → Says σ t w)

-- a valuation as a reading: a literal counts as true if and only if the valuation makes it so
abbrev pub exactly : Valuation → Reading
exactly v s i = beq (v i) s

-- the normal form of a formula (true) or of its negation (false): negation at variables alone, no implication, no constant as a part
abbrev pub normal : Bool → Written → Formula
normal true falsity = bot
normal false falsity = top
normal true truth = top
normal false truth = bot
normal true (variable i) = lit true i
normal false (variable i) = lit false i
normal true (negation w) = normal false w
normal false (negation w) = normal true w
normal true (later n w) = next_of n (normal true w)
normal false (later n w) = next_of n (normal false w)
normal true (throughout n m w) = always_of n m (normal true w)
normal false (throughout n m w) = eventually_of n m (normal false w)
normal true (within n m w) = eventually_of n m (normal true w)
normal false (within n m w) = always_of n m (normal false w)
normal true (conjunction w v) = conjoin (normal true w) (normal true v)
normal false (conjunction w v) = disjoin (normal false w) (normal false v)
normal true (disjunction w v) = disjoin (normal true w) (normal true v)
normal false (disjunction w v) = conjoin (normal false w) (normal false v)
normal true (implication w v) = disjoin (normal false w) (normal true v)
normal false (implication w v) = conjoin (normal true w) (normal false v)
normal true (equivalence w v) = disjoin (conjoin (normal true w) (normal true v)) (conjoin (normal false w) (normal false v))
normal false (equivalence w v) = disjoin (conjoin (normal true w) (normal false v)) (conjoin (normal false w) (normal true v))

-- the bounds of each G and F are in order; without that, G of a constant would not be that constant
abbrev pub Ordered : Written → Type 0
Ordered falsity = Unit {0}
Ordered truth = Unit {0}
Ordered (variable i) = Unit {0}
Ordered (negation w) = Ordered w
Ordered (later n w) = Ordered w
Ordered (throughout n m w) = (n ≤ m) × Ordered w
Ordered (within n m w) = (n ≤ m) × Ordered w
Ordered (conjunction w v) = Ordered w × Ordered v
Ordered (disjunction w v) = Ordered w × Ordered v
Ordered (implication w v) = Ordered w × Ordered v
Ordered (equivalence w v) = Ordered w × Ordered v

-- as a text may write it: variables below their counts, bounds in order and at most 4,095, at least 1 in X
abbrev pub WrittenFine : ℕ → ℕ → Written → Type 0
WrittenFine ne ns falsity = Unit {0}
WrittenFine ne ns truth = Unit {0}
WrittenFine ne ns (variable i) = Numbered ne ns i
WrittenFine ne ns (negation w) = WrittenFine ne ns w
WrittenFine ne ns (later n w) = ((1 ≤ n) × (n ≤ 4095)) × WrittenFine ne ns w
WrittenFine ne ns (throughout n m w) = ((n ≤ m) × (m ≤ 4095)) × WrittenFine ne ns w
WrittenFine ne ns (within n m w) = ((n ≤ m) × (m ≤ 4095)) × WrittenFine ne ns w
WrittenFine ne ns (conjunction w v) = WrittenFine ne ns w × WrittenFine ne ns v
WrittenFine ne ns (disjunction w v) = WrittenFine ne ns w × WrittenFine ne ns v
WrittenFine ne ns (implication w v) = WrittenFine ne ns w × WrittenFine ne ns v
WrittenFine ne ns (equivalence w v) = WrittenFine ne ns w × WrittenFine ne ns v
