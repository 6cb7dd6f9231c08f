-- The bits of numbers: of `|` and `^`, what bits say of the number, and the subsets of a set of bits.
use Rattle.std.proofs.Common.{◌≡◌, ℕ, zero, suc, ◌+◌, ◌-◌, ◌*◌, ◌/◌, ◌%◌, ◌^◌, ◌<◌, ◌≤◌, min, Bool, true, false, not, ◌&&◌, ◌||◌, eqb, sym, refl, ap, ◌∙◌, subst, true≢false, mod-eq_of_lt, pow-suc, arith, shr-shr}
use mathlib.Core.Bool.{false≢true}
use lib.Arith.{bin_ind}
use lib.Bits.{bit_and, bit_or, bit_xor, and_step, and_shr, and_mod, and_le_r, and_mask, or_shr, or_mod, xor_shr, xor_mod}
use Rattle.temporal.specs.Game.{bit}
use Rattle.tableau.proofs.Fits.{bit_and_lem}

-- ── bits of the operations ──
pub bit_or_lem : (a b i : ℕ) → bit (bit_or a b) i ≡ (bit a i || bit b i)
bit_or_lem a b i =
    ap (λ (n : ℕ). eqb (n % 2) 1) (or_shr a b i) ∙ ap (λ (n : ℕ). eqb n 1) (or_mod (a / 2 ^ i) (b / 2 ^ i) 1)
    ∙ go (a / 2 ^ i % 2) (b / 2 ^ i % 2) (omega arith) (omega arith)
  where
    go : (x y : ℕ) → x < 2 → y < 2 → eqb (bit_or x y) 1 ≡ (eqb x 1 || eqb y 1)
    go zero zero p q = refl
    go zero (suc zero) p q = refl
    go zero (suc (suc y)) p q = absurd (omega arith)
    go (suc zero) zero p q = refl
    go (suc zero) (suc zero) p q = refl
    go (suc zero) (suc (suc y)) p q = absurd (omega arith)
    go (suc (suc x)) y p q = absurd (omega arith)

-- one of two, and not both
abbrev pub differ : Bool → Bool → Bool
differ true b = not b
differ false b = b

pub bit_xor_lem : (a b i : ℕ) → bit (bit_xor a b) i ≡ differ (bit a i) (bit b i)
bit_xor_lem a b i =
    ap (λ (n : ℕ). eqb (n % 2) 1) (xor_shr a b i) ∙ ap (λ (n : ℕ). eqb n 1) (xor_mod (a / 2 ^ i) (b / 2 ^ i) 1)
    ∙ go (a / 2 ^ i % 2) (b / 2 ^ i % 2) (omega arith) (omega arith)
  where
    go : (x y : ℕ) → x < 2 → y < 2 → eqb (bit_xor x y) 1 ≡ differ (eqb x 1) (eqb y 1)
    go zero zero p q = refl
    go zero (suc zero) p q = refl
    go zero (suc (suc y)) p q = absurd (omega arith)
    go (suc zero) zero p q = refl
    go (suc zero) (suc zero) p q = refl
    go (suc zero) (suc (suc y)) p q = absurd (omega arith)
    go (suc (suc x)) y p q = absurd (omega arith)

-- ── the lowest bit, and those above it ──
bit_zero : (n : ℕ) → bit n 0 ≡ eqb (n % 2) 1
bit_zero n = let e : n / 2 ^ 0 ≡ n = omega arith in ap (λ (k : ℕ). eqb (k % 2) 1) e

bit_suc : (n i : ℕ) → bit n (suc i) ≡ bit (n / 2) i
bit_suc n i =
    let e : 1 + i ≡ suc i = omega arith in
    let f : n / 2 ^ suc i ≡ n / 2 / 2 ^ i = sym (shr-shr n 1 i ∙ ap (λ (k : ℕ). n / 2 ^ k) e) in
    ap (λ (k : ℕ). eqb (k % 2) 1) f

digit : (x y : ℕ) → x < 2 → y < 2 → eqb x 1 ≡ eqb y 1 → x ≡ y
digit zero zero p q e = refl
digit zero (suc zero) p q e = absurd (false≢true e)
digit zero (suc (suc y)) p q e = absurd (omega arith)
digit (suc zero) zero p q e = absurd (true≢false e)
digit (suc zero) (suc zero) p q e = refl
digit (suc zero) (suc (suc y)) p q e = absurd (omega arith)
digit (suc (suc x)) y p q e = absurd (omega arith)

-- numbers of k bits are equal if their bits are
pub by_bits : (k a b : ℕ) → a < 2 ^ k → b < 2 ^ k → ((i : ℕ) → i < k → bit a i ≡ bit b i) → a ≡ b
by_bits zero a b p q h = omega arith
by_bits (suc k) a b p q h =
    let two : 2 ^ suc k ≡ 2 ^ k * 2 = pow-suc 2 k in
    let l : a % 2 ≡ b % 2 =
    digit (a % 2) (b % 2) (omega arith) (omega arith) (sym (bit_zero a) ∙ h 0 (omega arith) ∙ bit_zero b) in
    let u : a / 2 ≡ b / 2 =
    by_bits k (a / 2) (b / 2) (omega arith) (omega arith) (λ i z. sym (bit_suc a i) ∙ h (suc i) (omega arith) ∙ bit_suc b i) in
    omega arith

-- a number of k bits has no others than the lowest k
pub bit_low : (k h i : ℕ) → h < 2 ^ k → (bit h i && bit (2 ^ k - 1) i) ≡ bit h i
bit_low k h i l =
    sym (bit_and_lem h (2 ^ k - 1) i) ∙ ap (λ (n : ℕ). bit n i) (and_mask h k ∙ mod-eq_of_lt l)

-- ── subsets: bit_and t f ≡ t if t is one of f ──
pub and_twice : (k a b : ℕ) → b < 2 ^ k → bit_and (bit_and a b) b ≡ bit_and a b
and_twice k a b l =
    by_bits k (bit_and (bit_and a b) b) (bit_and a b) (omega (arith, and_le_r (bit_and a b) b)) (omega (arith, and_le_r a b))
    (λ i p. bit_and_lem (bit_and a b) b i ∙ ap (λ x. x && bit b i) (bit_and_lem a b i) ∙ go (bit a i) (bit b i) ∙ sym (bit_and_lem a b i))
  where
    go : (x y : Bool) → ((x && y) && y) ≡ (x && y)
    go true true = refl
    go true false = refl
    go false y = refl

-- the largest subset of f that is smaller than the subset s
pub subset_below : (s f t : ℕ) → bit_and s f ≡ s → bit_and t f ≡ t → t < s → t ≤ bit_and (s - 1) f
subset_below = bin_ind (λ (s : ℕ). (f t : ℕ) → bit_and s f ≡ s → bit_and t f ≡ t → t < s → t ≤ bit_and (s - 1) f)
    (λ f t p q l. absurd (omega arith)) step
  where
    half : (a f : ℕ) → bit_and a f ≡ a → bit_and (a / 2) (f / 2) ≡ a / 2
    half a f p = sym (and_shr a f 1) ∙ ap (λ (n : ℕ). n / 2) p

    low : (a f : ℕ) → bit_and a f ≡ a → a % 2 ≤ f % 2
    low a f p =
        let e : bit_and (a % 2) (f % 2) ≡ a % 2 = sym (and_mod a f 1) ∙ ap (λ (n : ℕ). n % 2) p in
        subst (λ (n : ℕ). n ≤ f % 2) e (and_le_r (a % 2) (f % 2))

    step : (s : ℕ) → ((f t : ℕ) → bit_and (s / 2) f ≡ s / 2 → bit_and t f ≡ t → t < s / 2 → t ≤ bit_and (s / 2 - 1) f)
        → (f t : ℕ) → bit_and s f ≡ s → bit_and t f ≡ t → t < s → t ≤ bit_and (s - 1) f
    step s ih f t p q l = go (s % 2) refl
      where
        go : (d : ℕ) → s % 2 ≡ d → t ≤ bit_and (s - 1) f
        go zero e =
            let u : (s - 1) / 2 ≡ s / 2 - 1 = omega arith in
            let v : (s - 1) % 2 ≡ 1 = omega arith in
            let w : bit_and (s - 1) f ≡ bit_and (s / 2 - 1) (f / 2) * 2 + min 1 (f % 2) =
            and_step (s - 1) f ∙ (λ j. bit_and (u j) (f / 2) * 2 + min (v j) (f % 2)) in
            let r = ih (f / 2) (t / 2) (half s f p) (half t f q) (omega arith) in
            let z = low t f q in
            omega arith
        go (suc d) e =
            let u : (s - 1) / 2 ≡ s / 2 = omega arith in
            let v : (s - 1) % 2 ≡ 0 = omega arith in
            let w : bit_and (s - 1) f ≡ bit_and (s / 2) (f / 2) * 2 + min 0 (f % 2) =
            and_step (s - 1) f ∙ (λ j. bit_and (u j) (f / 2) * 2 + min (v j) (f % 2)) in
            let r = half s f p in
            omega arith
