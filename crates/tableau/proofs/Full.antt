-- Moves that fix every variable, and lists of moves with one for each value.
use Rattle.std.proofs.Common.{◌≡◌, ℕ, zero, suc, ◌+◌, ◌-◌, ◌%◌, ◌^◌, ◌<◌, ◌≤◌, Bool, true, false, cond, not, ◌&&◌, eqb, ◌⊎◌, List, [], ◌∷◌, ◌++◌, sym, refl, ap, ◌∙◌, inl, inr, mod-eq_of_lt, arith, pow_pos, le-ltb, lt-ltb}
use mathlib.Core.Bool.{beq}
use native.Mathlib.Decide.{ℕ_discrete}
use native.Mathlib.Nat.{div_self}
use lib.Bits.{bit_and, and_mask}
use Rattle.std.proofs.lemmas.Nat.{pow_below}
use Rattle.temporal.specs.Formula.{Formula, bot, top, lit, conj, disj, next, always, eventually, conjoin, disjoin, constant, Reading, rest}
use Rattle.temporal.specs.Formula.{Numbered, Fine}
use Rattle.temporal.specs.Parts.{◌∈◌}
use Rattle.temporal.specs.Game.{Spec, bit, value, reading}
use Rattle.temporal.proofs.Lists.{in_append}
use Rattle.tableau.specs.Lists.{count}
use Rattle.tableau.specs.Moves.{Target, Move, cautious, generous}
use Rattle.tableau.specs.Acceptable.{MoveFormed}
use Rattle.tableau.proofs.Fits.{bit_and_lem}

abbrev pub full_move : Spec → ℕ → ℕ → Target → Move
full_move spec e s g = record {
  env_mask = 2 ^ spec.environment - 1;
  env_values = e;
  sys_mask = 2 ^ spec.system - 1;
  sys_values = s;
  target = g;
}

pub fits_mask : (n v u : ℕ) → v < 2 ^ n → eqb (bit_and v (2 ^ n - 1)) u ≡ eqb v u
fits_mask n v u l = ap (λ (x : ℕ). eqb x u) (and_mask v n ∙ mod-eq_of_lt l)

pub full_formed : (spec : Spec) (e s : ℕ) (g : Target) → e < 2 ^ spec.environment → s < 2 ^ spec.system
    → MoveFormed spec (full_move spec e s g)
full_formed spec e s g a b = record {
  env = and_mask e spec.environment ∙ mod-eq_of_lt a;
  sys = and_mask s spec.system ∙ mod-eq_of_lt b;
  env_mask = omega (arith, pow_pos spec.environment);
  sys_mask = omega (arith, pow_pos spec.system);
}

-- ── both readings of such a move are the step ──
bit_own : (i : ℕ) → bit (2 ^ i) i ≡ true
bit_own i = ap (λ (n : ℕ). eqb (n % 2) 1) (div_self (pow_pos i))

bit_mask : (n i : ℕ) → i < n → bit (2 ^ n - 1) i ≡ true
bit_mask n i l = go (bit (2 ^ i) i) (bit (2 ^ n - 1) i) (bit_own i)
    (sym (bit_and_lem (2 ^ i) (2 ^ n - 1) i) ∙ ap (λ (x : ℕ). bit x i) (and_mask (2 ^ i) n ∙ mod-eq_of_lt (pow_below i n l)) ∙ bit_own i)
  where
    go : (a b : Bool) → a ≡ true → (a && b) ≡ true → b ≡ true
    go true b p q = q
    go false b p q = cc

module _ (spec : Spec) where
  value_mask : (i : ℕ) → Numbered spec.environment spec.system i → value (2 ^ spec.environment - 1) (2 ^ spec.system - 1) i ≡ true
  value_mask i (inl h) = ap (λ (b : Bool). cond b (bit (2 ^ spec.environment - 1) i) (bit (2 ^ spec.system - 1) (i - 16)))
      (lt-ltb i 16 h.0) ∙ bit_mask spec.environment i h.1
  value_mask i (inr h) = ap (λ (b : Bool). cond b (bit (2 ^ spec.environment - 1) i) (bit (2 ^ spec.system - 1) (i - 16)))
      (le-ltb i 16 h.0) ∙ bit_mask spec.system (i - 16) (omega arith)

  rest_alike : (R Q : Reading) → ((b : Bool) (i : ℕ) → Numbered spec.environment spec.system i → R b i ≡ Q b i) → (f : Formula)
      → Fine spec.environment spec.system f → rest R f ≡ rest Q f
  rest_alike R Q e bot h = refl
  rest_alike R Q e top h = refl
  rest_alike R Q e (lit s i) h = ap constant (e s i h)
  rest_alike R Q e (conj f g) h = λ j. conjoin (rest_alike R Q e f h.0.1 j) (rest_alike R Q e g h.1.1 j)
  rest_alike R Q e (disj f g) h = λ j. disjoin (rest_alike R Q e f h.0.1 j) (rest_alike R Q e g h.1.1 j)
  rest_alike R Q e (next zero f) h = rest_alike R Q e f h.1.1
  rest_alike R Q e (next (suc zero) f) h = refl
  rest_alike R Q e (next (suc (suc n)) f) h = refl
  rest_alike R Q e (always zero zero f) h = rest_alike R Q e f h.1.1
  rest_alike R Q e (always zero (suc m) f) h = λ j. conjoin (rest_alike R Q e f h.1.1 j) (always 0 m f)
  rest_alike R Q e (always (suc n) zero f) h = refl
  rest_alike R Q e (always (suc n) (suc m) f) h = refl
  rest_alike R Q e (eventually zero zero f) h = rest_alike R Q e f h.1.1
  rest_alike R Q e (eventually zero (suc m) f) h = λ j. disjoin (rest_alike R Q e f h.1.1 j) (eventually 0 m f)
  rest_alike R Q e (eventually (suc n) zero f) h = refl
  rest_alike R Q e (eventually (suc n) (suc m) f) h = refl

  module _ (e s : ℕ) (g : Target) (f : Formula) (fine : Fine spec.environment spec.system f) where
    pub full_cautious : rest (cautious (full_move spec e s g)) f ≡ rest (reading (record { env = e; sys = s })) f
    full_cautious = rest_alike (cautious (full_move spec e s g)) (reading (record { env = e; sys = s }))
        (λ b i h. ap (λ (x : Bool). x && beq (value e s i) b) (value_mask i h)) f fine

    pub full_generous : rest (generous (full_move spec e s g)) f ≡ rest (reading (record { env = e; sys = s })) f
    full_generous = rest_alike (generous (full_move spec e s g)) (reading (record { env = e; sys = s }))
        (λ b i h. ap (λ (x : Bool). not (x && beq (value e s i) (not b))) (value_mask i h) ∙ go (value e s i) b) f fine
      where
        go : (v b : Bool) → not (beq v (not b)) ≡ beq v b
        go true true = refl
        go true false = refl
        go false true = refl
        go false false = refl

-- ── the moves for the values below n ──
abbrev pub offers : (ℕ → List Move) → ℕ → List Move
offers f zero = []
offers f (suc n) = f n ++ offers f n

module _ (f : ℕ → List Move) where
  pub in_offers : (n : ℕ) (m : Move) → m ∈ offers f n → (v : ℕ) × (v < n) × (m ∈ f v)
  in_offers zero m i = elim i [ ]
  in_offers (suc n) m i = go (in_append (f n) (offers f n) m i) (in_offers n m)
    where
      go : (m ∈ f n) ⊎ (m ∈ offers f n) → (m ∈ offers f n → (v : ℕ) × (v < n) × (m ∈ f v)) → (v : ℕ) × (v < suc n) × (m ∈ f v)
      go (inl a) ih = (n, omega arith, a)
      go (inr b) ih = let r = ih b in (r.0, omega arith, r.2)

  module _ (p : Move → Bool) where
    count_append : (xs ys : List Move) → count p (xs ++ ys) ≡ count p xs + count p ys
    count_append [] ys = omega arith
    count_append (x ∷ xs) ys = let h = count_append xs ys in omega arith

    -- if only the moves at v fit, they alone count
    module _ (v : ℕ) (only : (u : ℕ) → (u ≡ v → ⊥) → count p (f u) ≡ 0) where
      none_below : (n : ℕ) → n ≤ v → count p (offers f n) ≡ 0
      none_below zero l = refl
      none_below (suc n) l = omega (arith, count_append (f n) (offers f n), only n (omega arith), none_below n (omega arith))

      pub count_offers : (n : ℕ) → v < n → count p (offers f n) ≡ count p (f v)
      count_offers zero l = absurd (omega arith)
      count_offers (suc n) l = go (ℕ_discrete n v) (count_offers n)
        where
          go : Dec (n ≡ v) → (v < n → count p (offers f n) ≡ count p (f v)) → count p (offers f (suc n)) ≡ count p (f v)
          go (yes e) ih = let h : count p (f n) ≡ count p (f v) = ap (λ (x : ℕ). count p (f x)) e in
              omega (arith, count_append (f n) (offers f n), none_below n (omega arith))
          go (no e) ih = omega (arith, count_append (f n) (offers f n), only n e, ih (omega arith))
