-- cautious ⊆ any step that fits the move ⊆ generous.
use Rattle.std.proofs.Common.{◌≡◌, ℕ, zero, suc, ◌+◌, ◌-◌, ◌/◌, ◌%◌, ◌^◌, ◌<◌, Bool, true, false, cond, not, ◌&&◌, eqb, ltb, List, [], ◌∷◌, sym, refl, ap, ◌∙◌, true≢false, arith, eqb-true}
use mathlib.Core.Bool.{beq, false≢true}
use lib.Bits.{bit_and, and_shr, and_mod}
use Rattle.temporal.specs.Formula.{◌⊆◌}
use Rattle.temporal.specs.Parts.{◌∈◌, first, later}
use Rattle.temporal.specs.Game.{Step, bit, value, reading}
use Rattle.tableau.specs.Lists.{count}
use Rattle.tableau.specs.Moves.{Move, fits_env, fits_sys, cautious, generous, no_move, first_fit}

pub bit_and_lem : (a b i : ℕ) → bit (bit_and a b) i ≡ (bit a i && bit b i)
bit_and_lem a b i =
    ap (λ (n : ℕ). eqb (n % 2) 1) (and_shr a b i) ∙ ap (λ (n : ℕ). eqb n 1) (and_mod (a / 2 ^ i) (b / 2 ^ i) 1)
    ∙ go (a / 2 ^ i % 2) (b / 2 ^ i % 2) (omega arith) (omega arith)
  where
    go : (x y : ℕ) → x < 2 → y < 2 → eqb (bit_and x y) 1 ≡ (eqb x 1 && eqb y 1)
    go zero zero p q = refl
    go zero (suc zero) p q = refl
    go zero (suc (suc y)) p q = absurd (omega arith)
    go (suc zero) zero p q = refl
    go (suc zero) (suc zero) p q = refl
    go (suc zero) (suc (suc y)) p q = absurd (omega arith)
    go (suc (suc x)) y p q = absurd (omega arith)

value_and : (e s m n i : ℕ) → value (bit_and e m) (bit_and s n) i ≡ (value e s i && value m n i)
value_and e s m n i = go (ltb i 16)
  where
    go : (b : Bool) → cond b (bit (bit_and e m) i) (bit (bit_and s n) (i - 16)) ≡
        (cond b (bit e i) (bit s (i - 16)) && cond b (bit m i) (bit n (i - 16)))
    go true = bit_and_lem e m i
    go false = bit_and_lem s n (i - 16)

module _ (m : Move) (x : Step) (fe : fits_env x.env m ≡ true) (fs : fits_sys x.sys m ≡ true) where
  fixed : (i : ℕ) → value m.env_values m.sys_values i ≡ (value x.env x.sys i && value m.env_mask m.sys_mask i)
  fixed i =
      let p : bit_and x.env m.env_mask ≡ m.env_values = eqb-true _ _ fe in
      let q : bit_and x.sys m.sys_mask ≡ m.sys_values = eqb-true _ _ fs in
      (λ j. value (sym p j) (sym q j) i) ∙ value_and x.env x.sys m.env_mask m.sys_mask i

  pub cautious_reading : cautious m ⊆ reading x
  cautious_reading s i h = go (value m.env_mask m.sys_mask i) (value x.env x.sys i)
      (value m.env_values m.sys_values i) s (fixed i) h
    where
      go : (k v u s : Bool) → u ≡ (v && k) → (k && beq u s) ≡ true → beq v s ≡ true
      go false v u s e h = absurd (false≢true h)
      go true true true s e h = h
      go true true false s e h = absurd (false≢true e)
      go true false true s e h = absurd (true≢false e)
      go true false false s e h = h

  pub reading_generous : reading x ⊆ generous m
  reading_generous s i h = go (value m.env_mask m.sys_mask i) (value x.env x.sys i)
      (value m.env_values m.sys_values i) s (fixed i) h
    where
      go : (k v u s : Bool) → u ≡ (v && k) → beq v s ≡ true → not (k && beq u (not s)) ≡ true
      go false v u s e h = refl
      go true true true true e h = refl
      go true true true false e h = h
      go true true false s e h = absurd (false≢true e)
      go true false true s e h = absurd (true≢false e)
      go true false false true e h = h
      go true false false false e h = refl

-- ── the first move that fits ──
module _ (p : Move → Bool) where
  pub first_fits : (ms : List Move) → count p ms ≡ 1 → (first_fit p ms ∈ ms) × (p (first_fit p ms) ≡ true)
  first_fits [] h = absurd (omega arith)
  first_fits (m ∷ ms) h = go (p m) refl h (first_fits ms)
    where
      go : (b : Bool) → p m ≡ b → cond b 1 0 + count p ms ≡ 1 → (count p ms ≡ 1 → (first_fit p ms ∈ ms) × (p (first_fit p ms) ≡ true))
          → (cond b m (first_fit p ms) ∈ (m ∷ ms)) × (p (cond b m (first_fit p ms)) ≡ true)
      go true e h ih = (first, e)
      go false e h ih = let r = ih (omega arith) in (later r.0, r.1)

  -- it is one of the moves, or none is there
  pub first_all : (P : Move → Type 0) → P no_move → (ms : List Move) → ((m : Move) → m ∈ ms → P m) → P (first_fit p ms)
  first_all P d [] all = d
  first_all P d (m ∷ ms) all = go (p m) (first_all P d ms (λ x i. all x (later i)))
    where
      go : (b : Bool) → P (first_fit p ms) → P (cond b m (first_fit p ms))
      go true ih = all m first
      go false ih = ih
