-- The word of a cube's low six variables has the bits of the valuations that agree.
use Rattle.std.proofs.Common.{◌≡◌, ℕ, zero, suc, ◌%◌, ◌^◌, ◌<◌, Bool, true, false, not, ◌&&◌, ◌||◌, eqb, sym, refl, ap, ◌∙◌, true≢false, arith, lit<, eq-eqb, eqb-true}
use mathlib.Core.Bool.{beq, false≢true}
use lib.Bits.{bit_and, and_le_l, and_le_r, and_mask}
use Rattle.temporal.specs.Game.{bit}
use Rattle.temporal.proofs.Truth.{and_out, and_in, both_ways}
use Rattle.temporal.proofs.Tells.{self_tells}
use Rattle.tableau.specs.Lists.{span, all}
use Rattle.tableau.proofs.Tests.{below_tells}
use Rattle.tableau.proofs.Fits.{bit_and_lem}
use Rattle.coverings.specs.declared.cube.Cube.{Cube}
use Rattle.coverings.specs.Cubes.{literal_word, literal_of, low_word}
use Rattle.coverings.proofs.Bits.{by_bits}

-- ── what is computed for all 64 valuations ──
computed : (p : ℕ → Bool) (n : ℕ) → all p (span n 0) ≡ true → (k : ℕ) → k < n → p k ≡ true
computed p n e = (below_tells p (λ k. p k ≡ true) (λ k. self_tells (p k)) n).0 e

same_bool : (a b : Bool) → beq a b ≡ true → a ≡ b
same_bool true true e = refl
same_bool true false e = absurd (false≢true e)
same_bool false true e = absurd (false≢true e)
same_bool false false e = refl

-- variable i has the value in the valuation l, or is not fixed
abbrev takes : Bool → Bool → ℕ → ℕ → Bool
takes m v i l = not m || beq (bit l i) v

abbrev right : Bool → Bool → ℕ → ℕ → Bool
right m v i l = beq (bit (literal_word i m v) l) (takes m v i l)

all_right : (m v : Bool) → all (λ i. all (right m v i) (span 64 0)) (span 6 0) ≡ true
all_right true true = refl
all_right true false = refl
all_right false true = refl
all_right false false = refl

literal : (m v : Bool) (i l : ℕ) → i < 6 → l < 64 → bit (literal_word i m v) l ≡ takes m v i l
literal m v i l p q =
    same_bool (bit (literal_word i m v) l) (takes m v i l)
    (computed (right m v i) 64 (computed (λ i. all (right m v i) (span 64 0)) 6 (all_right m v) i p) l q)

pub full_bit : (l : ℕ) → l < 64 → bit 0xffff_ffff_ffff_ffff l ≡ true
full_bit l p = computed (bit 0xffff_ffff_ffff_ffff) 64 refl l p

low_ones : (i : ℕ) → i < 6 → bit 63 i ≡ true
low_ones i p = computed (bit 63) 6 refl i p

-- the low six bits
bit_mod : (n i : ℕ) → i < 6 → bit (n % 64) i ≡ bit n i
bit_mod n i p =
    ap (λ (k : ℕ). bit k i) (sym (and_mask n 6)) ∙ bit_and_lem n 63 i ∙ ap (λ b. bit n i && b) (low_ones i p) ∙ go (bit n i)
  where
    go : (b : Bool) → (b && true) ≡ b
    go true = refl
    go false = refl

module _ (c : Cube) where
  literal_lt : literal_of c 0 < 2 ^ 64
  literal_lt = go (bit c.mask 0) (bit c.values 0)
    where
      go : (m v : Bool) → literal_word 0 m v < 2 ^ 64
      go true true = lit< tt
      go true false = lit< tt
      go false true = lit< tt
      go false false = lit< tt

  pub low_lt : low_word c < 2 ^ 64
  low_lt =
      let a = and_le_l (bit_and (bit_and (literal_of c 0) (literal_of c 1)) (literal_of c 2))
      (bit_and (bit_and (literal_of c 3) (literal_of c 4)) (literal_of c 5)) in
      let b = and_le_l (bit_and (literal_of c 0) (literal_of c 1)) (literal_of c 2) in
      let d = and_le_l (literal_of c 0) (literal_of c 1) in
      omega (arith, literal_lt)

  module _ (inside : bit_and c.values c.mask ≡ c.values) (l : ℕ) (small : l < 64) where
    abbrev fixed : ℕ → Bool
    fixed i = takes (bit c.mask i) (bit c.values i) i l

    -- bit l of the word
    six : bit (low_word c) l ≡ (((fixed 0 && fixed 1) && fixed 2) && ((fixed 3 && fixed 4) && fixed 5))
    six =
        bit_and_lem (bit_and (bit_and (literal_of c 0) (literal_of c 1)) (literal_of c 2))
        (bit_and (bit_and (literal_of c 3) (literal_of c 4)) (literal_of c 5)) l
        ∙ (λ j. three 0 1 2 (lit< tt) (lit< tt) (lit< tt) j && three 3 4 5 (lit< tt) (lit< tt) (lit< tt) j)
      where
        at : (i : ℕ) → i < 6 → bit (literal_of c i) l ≡ fixed i
        at i p = literal (bit c.mask i) (bit c.values i) i l p small

        three : (i j k : ℕ) → i < 6 → j < 6 → k < 6
            → bit (bit_and (bit_and (literal_of c i) (literal_of c j)) (literal_of c k)) l ≡ ((fixed i && fixed j) && fixed k)
        three i j k p q r =
            bit_and_lem (bit_and (literal_of c i) (literal_of c j)) (literal_of c k) l
            ∙ (λ x. (bit_and_lem (literal_of c i) (literal_of c j) l ∙ (λ y. at i p y && at j q y)) x && at k r x)

    in_mask : (i : ℕ) → (bit c.values i && bit c.mask i) ≡ bit c.values i
    in_mask i = sym (bit_and_lem c.values c.mask i) ∙ ap (λ (n : ℕ). bit n i) inside

    -- bit i of both sides
    left : (i : ℕ) → i < 6 → bit (bit_and l (c.mask % 64)) i ≡ (bit l i && bit c.mask i)
    left i p = bit_and_lem l (c.mask % 64) i ∙ ap (λ b. bit l i && b) (bit_mod c.mask i p)

    each : ((i : ℕ) → i < 6 → fixed i ≡ true) → bit_and l (c.mask % 64) ≡ c.values % 64
    each h =
        by_bits 6 (bit_and l (c.mask % 64)) (c.values % 64)
        (omega (arith, and_le_l l (c.mask % 64), and_le_r l (c.mask % 64))) (omega arith)
        (λ i p. left i p ∙ go (bit c.mask i) (bit l i) (bit c.values i) (in_mask i) (h i p) ∙ sym (bit_mod c.values i p))
      where
        go : (m b v : Bool) → (v && m) ≡ v → (not m || beq b v) ≡ true → (b && m) ≡ v
        go true true true e h = refl
        go true true false e h = absurd (false≢true h)
        go true false true e h = absurd (false≢true h)
        go true false false e h = refl
        go false true true e h = e
        go false true false e h = refl
        go false false true e h = e
        go false false false e h = refl

    back : bit_and l (c.mask % 64) ≡ c.values % 64 → (i : ℕ) → i < 6 → fixed i ≡ true
    back e i p =
        go (bit c.mask i) (bit l i) (bit c.values i)
        (sym (left i p) ∙ ap (λ (n : ℕ). bit n i) e ∙ bit_mod c.values i p)
      where
        go : (m b v : Bool) → (b && m) ≡ v → (not m || beq b v) ≡ true
        go true true true e = refl
        go true true false e = absurd (true≢false e)
        go true false true e = absurd (false≢true e)
        go true false false e = refl
        go false b v e = refl

    pub low_bit : bit (low_word c) l ≡ eqb (bit_and l (c.mask % 64)) (c.values % 64)
    low_bit = both_ways (bit (low_word c) l) (eqb (bit_and l (c.mask % 64)) (c.values % 64)) to from
      where
        to : bit (low_word c) l ≡ true → eqb (bit_and l (c.mask % 64)) (c.values % 64) ≡ true
        to e =
            let r = and_out ((fixed 0 && fixed 1) && fixed 2) ((fixed 3 && fixed 4) && fixed 5) (sym six ∙ e) in
            let a = and_out (fixed 0 && fixed 1) (fixed 2) r.0 in
            let b = and_out (fixed 0) (fixed 1) a.0 in
            let d = and_out (fixed 3 && fixed 4) (fixed 5) r.1 in
            let f = and_out (fixed 3) (fixed 4) d.0 in
            eq-eqb _ _ (each (pick b.0 b.1 a.1 f.0 f.1 d.1))
          where
            pick : fixed 0 ≡ true → fixed 1 ≡ true → fixed 2 ≡ true → fixed 3 ≡ true → fixed 4 ≡ true → fixed 5 ≡ true
                → (i : ℕ) → i < 6 → fixed i ≡ true
            pick p0 p1 p2 p3 p4 p5 zero l = p0
            pick p0 p1 p2 p3 p4 p5 (suc zero) l = p1
            pick p0 p1 p2 p3 p4 p5 (suc (suc zero)) l = p2
            pick p0 p1 p2 p3 p4 p5 (suc (suc (suc zero))) l = p3
            pick p0 p1 p2 p3 p4 p5 (suc (suc (suc (suc zero)))) l = p4
            pick p0 p1 p2 p3 p4 p5 (suc (suc (suc (suc (suc zero))))) l = p5
            pick p0 p1 p2 p3 p4 p5 (suc (suc (suc (suc (suc (suc i)))))) l = absurd (omega arith)

        from : eqb (bit_and l (c.mask % 64)) (c.values % 64) ≡ true → bit (low_word c) l ≡ true
        from e =
            let h = back (eqb-true (bit_and l (c.mask % 64)) (c.values % 64) e) in
            six
            ∙ and_in ((fixed 0 && fixed 1) && fixed 2) ((fixed 3 && fixed 4) && fixed 5)
            (and_in (fixed 0 && fixed 1) (fixed 2) (and_in (fixed 0) (fixed 1) (h 0 (lit< tt)) (h 1 (lit< tt))) (h 2 (lit< tt)))
            (and_in (fixed 3 && fixed 4) (fixed 5) (and_in (fixed 3) (fixed 4) (h 3 (lit< tt)) (h 4 (lit< tt))) (h 5 (lit< tt)))
