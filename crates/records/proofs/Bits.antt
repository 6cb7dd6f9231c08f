-- Numbers of 16 bits have no bit from 16 on.
use Rattle.std.proofs.Common.{◌≡◌, ℕ, ◌/◌, ◌%◌, ◌^◌, ◌<◌, ◌≤◌, eqb, ltb, sym, ap, ◌∙◌, arith, pow_mono}
use native.Mathlib.Nat.{div-eq_of_lt}
use Rattle.std.proofs.lemmas.Bool.{le-ltb}
use Rattle.temporal.specs.Game.{bit}

pub no_bit : (n i : ℕ) → n < 2 ^ 16 → 16 ≤ i → ltb i 16 ≡ bit n i
no_bit n i l h =
    let z : n / 2 ^ i ≡ 0 = div-eq_of_lt (omega (arith, pow_mono h)) in
    le-ltb i 16 h ∙ sym (ap (λ (k : ℕ). eqb (k % 2) 1) z)
