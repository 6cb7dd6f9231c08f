-- Masks of so many variables.
use Rattle.std.proofs.Common.{◌≡◌, ℕ, ◌/◌, ◌^◌, ◌<◌, ◌≤◌, eqb, ltb, leb, sym, ◌∙◌, inl, inr, arith, pow_pos, pow_mono}
use native.Mathlib.Nat.{div-eq_of_lt}
use Rattle.std.proofs.lemmas.Nat.{le-div}
use Rattle.std.proofs.lemmas.Bool.{cases_lt, le-leb, lt-ltb, le-ltb, eq-eqb, ne_eqb}

pub mask_wide : (m n : ℕ) → m < 2 ^ 16 → 16 ≤ n → leb 16 n ≡ ltb m (2 ^ n)
mask_wide m n l h = le-leb 16 n h ∙ sym (lt-ltb m (2 ^ n) (omega (arith, pow_mono h)))

-- no bit is left of a number below 2 ^ n past its first n bits
pub mask_narrow : (m n : ℕ) → eqb (m / 2 ^ n) 0 ≡ ltb m (2 ^ n)
mask_narrow m n =
    elim (cases_lt m (2 ^ n)) [
      | inl l ↦ eq-eqb (m / 2 ^ n) 0 (div-eq_of_lt l) ∙ sym (lt-ltb m (2 ^ n) l)
      | inr l ↦
          let h : 1 ≤ m / 2 ^ n = le-div 1 m (2 ^ n) (pow_pos n) (omega arith) in
          ne_eqb (m / 2 ^ n) 0 (λ e. omega arith) ∙ sym (le-ltb m (2 ^ n) l)
    ]
