-- What a bitmap says of the valuations, and how often they agree with a row of cubes.
use Rattle.std.proofs.Common.{◌≡◌, ℕ, ◌+◌, ◌*◌, ◌/◌, ◌%◌, ◌^◌, ◌<◌, Bool, true, false, cond, ◌&&◌, ◌||◌, eqb, List, get_or, sym, refl, ap, ◌∙◌, subst, mod-eq_of_lt, arith, pow_pos, eq-eqb, eqb-true}
use native.Mathlib.Nat.{zero-div}
use lib.Bits.{bit_and, bit_or, and_shr, and_mod, and_le_r, or_lt}
use Rattle.temporal.specs.Game.{bit}
use Rattle.temporal.proofs.Truth.{and_out, and_in, both_ways}
use Rattle.tableau.proofs.Fits.{bit_and_lem}
use Rattle.coverings.specs.declared.cube.Cube.{Cube}
use Rattle.coverings.specs.Cubes.{agrees, Formed, low_word, agrees_high}
use Rattle.coverings.specs.Bitmap.{Apart, Joined, Full}
use Rattle.coverings.proofs.Bits.{bit_or_lem, by_bits}
use Rattle.coverings.proofs.Low.{low_bit, low_lt, full_bit}

-- is the valuation v marked?
abbrev pub seen : List ℕ → ℕ → Bool
seen ws v = bit (get_or ws (v / 64) 0) (v % 64)

-- words of 64 bits
abbrev pub Words : List ℕ → ℕ → Type 0
Words ws high = (h : ℕ) → h < 2 ^ high → get_or ws h 0 < 2 ^ 64

pub no_bit : (i : ℕ) → bit 0 i ≡ false
no_bit i = ap (λ (n : ℕ). eqb (n % 2) 1) (zero-div (2 ^ i))

-- ── a cube at a valuation ──
module _ (c : Cube) where
  -- the high variables agree, and the low ones
  halves : (v : ℕ) → agrees v c ≡ (agrees_high (v / 64) c && eqb (bit_and (v % 64) (c.mask % 64)) (c.values % 64))
  halves v = both_ways (agrees v c) (agrees_high (v / 64) c && eqb (bit_and (v % 64) (c.mask % 64)) (c.values % 64)) to from
    where
      up : bit_and v c.mask / 64 ≡ bit_and (v / 64) (c.mask / 64)
      up = and_shr v c.mask 6

      low : bit_and v c.mask % 64 ≡ bit_and (v % 64) (c.mask % 64)
      low = and_mod v c.mask 6

      to : agrees v c ≡ true → (agrees_high (v / 64) c && eqb (bit_and (v % 64) (c.mask % 64)) (c.values % 64)) ≡ true
      to h =
          let e : bit_and v c.mask ≡ c.values = eqb-true (bit_and v c.mask) c.values h in
          and_in (agrees_high (v / 64) c) (eqb (bit_and (v % 64) (c.mask % 64)) (c.values % 64))
          (eq-eqb (bit_and (v / 64) (c.mask / 64)) (c.values / 64) (sym up ∙ ap (λ (n : ℕ). n / 64) e))
          (eq-eqb (bit_and (v % 64) (c.mask % 64)) (c.values % 64) (sym low ∙ ap (λ (n : ℕ). n % 64) e))

      from : (agrees_high (v / 64) c && eqb (bit_and (v % 64) (c.mask % 64)) (c.values % 64)) ≡ true → agrees v c ≡ true
      from h =
          let r = and_out (agrees_high (v / 64) c) (eqb (bit_and (v % 64) (c.mask % 64)) (c.values % 64)) h in
          let a = up ∙ eqb-true (bit_and (v / 64) (c.mask / 64)) (c.values / 64) r.0 in
          let b = low ∙ eqb-true (bit_and (v % 64) (c.mask % 64)) (c.values % 64) r.1 in
          eq-eqb (bit_and v c.mask) c.values (omega arith)

  module _ (n : ℕ) (formed : Formed n c) where
    pub agrees_by_word : (v : ℕ) → agrees v c ≡ (agrees_high (v / 64) c && bit (low_word c) (v % 64))
    agrees_by_word v =
        halves v ∙ ap (λ b. agrees_high (v / 64) c && b) (sym (low_bit c formed.inside (v % 64) (omega arith)))

    -- only the variables count
    pub agrees_mod : (v : ℕ) → agrees v c ≡ agrees (v % 2 ^ n) c
    agrees_mod v =
        let l : bit_and v c.mask < 2 ^ n = omega (arith, and_le_r v c.mask, formed.below) in
        ap (λ (k : ℕ). eqb k c.values)
        (sym (mod-eq_of_lt l) ∙ and_mod v c.mask n ∙ ap (bit_and (v % 2 ^ n)) (mod-eq_of_lt formed.below))

-- ── marks ──
module _ (high : ℕ) (c : Cube) (formed : Formed (6 + high) c) (ws : List ℕ) where
  place : (v : ℕ) → v < 64 * 2 ^ high → v / 64 < 2 ^ high
  place v l = omega arith

  -- a cube that is apart from the marks has no marked valuation, and the other way round
  pub apart_seen : Apart high c ws → (v : ℕ) → v < 64 * 2 ^ high → (seen ws v && agrees v c) ≡ false
  apart_seen a v l =
      ap (λ b. seen ws v && b) (agrees_by_word c (6 + high) formed v) ∙ go (agrees_high (v / 64) c) refl
    where
      go : (b : Bool) → agrees_high (v / 64) c ≡ b → (seen ws v && (b && bit (low_word c) (v % 64))) ≡ false
      go true e =
          let z : bit_and (get_or ws (v / 64) 0) (low_word c) ≡ 0 =
          eqb-true (bit_and (get_or ws (v / 64) 0) (low_word c)) 0 (a (v / 64) (place v l) e) in
          sym (bit_and_lem (get_or ws (v / 64) 0) (low_word c) (v % 64)) ∙ ap (λ (n : ℕ). bit n (v % 64)) z ∙ no_bit (v % 64)
      go false e = none (seen ws v)
        where
          none : (b : Bool) → (b && false) ≡ false
          none true = refl
          none false = refl

  pub seen_apart : ((v : ℕ) → v < 64 * 2 ^ high → (seen ws v && agrees v c) ≡ false) → Apart high c ws
  seen_apart f h l e =
      eq-eqb (bit_and (get_or ws h 0) (low_word c)) 0
      (by_bits 64 (bit_and (get_or ws h 0) (low_word c)) 0
      (omega (arith, and_le_r (get_or ws h 0) (low_word c), low_lt c)) (pow_pos 64)
      (λ i p.
      let v : ℕ = 64 * h + i in
      let a : v / 64 ≡ h = omega arith in
      let b : v % 64 ≡ i = omega arith in
      let w = f v (omega arith) in
      let k : seen ws v ≡ bit (get_or ws h 0) i = (λ j. bit (get_or ws (a j) 0) (b j)) in
      let m : agrees v c ≡ bit (low_word c) i =
      agrees_by_word c (6 + high) formed v ∙ (λ j. agrees_high (a j) c && bit (low_word c) (b j)) ∙ ap (λ t. t && bit (low_word c) i) e in
      bit_and_lem (get_or ws h 0) (low_word c) i ∙ sym (λ j. k j && m j) ∙ w ∙ sym (no_bit i)))

  pub joined_seen : (xs : List ℕ) → Joined high c ws xs → (v : ℕ) → v < 64 * 2 ^ high → seen xs v ≡ (seen ws v || agrees v c)
  joined_seen xs j v l =
      ap (λ (n : ℕ). bit n (v % 64)) (j (v / 64) (place v l)) ∙ go (agrees_high (v / 64) c)
      ∙ sym (ap (λ b. seen ws v || b) (agrees_by_word c (6 + high) formed v))
    where
      go : (b : Bool) → bit (cond b (bit_or (get_or ws (v / 64) 0) (low_word c)) (get_or ws (v / 64) 0)) (v % 64)
          ≡ (seen ws v || (b && bit (low_word c) (v % 64)))
      go true = bit_or_lem (get_or ws (v / 64) 0) (low_word c) (v % 64)
      go false = none (seen ws v)
        where
          none : (b : Bool) → b ≡ (b || false)
          none true = refl
          none false = refl

  pub joined_words : (xs : List ℕ) → Joined high c ws xs → Words ws high → Words xs high
  joined_words xs j w h l = subst (λ (n : ℕ). n < 2 ^ 64) (sym (j h l)) (go (agrees_high h c))
    where
      go : (b : Bool) → cond b (bit_or (get_or ws h 0) (low_word c)) (get_or ws h 0) < 2 ^ 64
      go true = or_lt 64 (get_or ws h 0) (low_word c) (w h l) (low_lt c)
      go false = w h l

-- ── full bitmaps ──
pub full_seen : (ws : List ℕ) (high : ℕ) → Full ws high → (v : ℕ) → v < 64 * 2 ^ high → seen ws v ≡ true
full_seen ws high f v l =
    ap (λ (n : ℕ). bit n (v % 64)) (eqb-true (get_or ws (v / 64) 0) 0xffff_ffff_ffff_ffff (f (v / 64) (omega arith)))
    ∙ full_bit (v % 64) (omega arith)

pub seen_full : (ws : List ℕ) (high : ℕ) → Words ws high → ((v : ℕ) → v < 64 * 2 ^ high → seen ws v ≡ true) → Full ws high
seen_full ws high w f h l =
    eq-eqb (get_or ws h 0) 0xffff_ffff_ffff_ffff
    (by_bits 64 (get_or ws h 0) 0xffff_ffff_ffff_ffff (w h l) (omega arith)
    (λ i p.
    let v : ℕ = 64 * h + i in
    let a : v / 64 ≡ h = omega arith in
    let b : v % 64 ≡ i = omega arith in
    let k : seen ws v ≡ bit (get_or ws h 0) i = (λ j. bit (get_or ws (a j) 0) (b j)) in
    sym k ∙ f v (omega arith) ∙ sym (full_bit i p)))
