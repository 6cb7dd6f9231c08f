-- The entries of a list in a card file, by their places.
use Rattle.std.proofs.Common.{◌≡◌, ℕ, zero, suc, ◌+◌, ◌*◌, ◌<◌, ◌≤◌, length, Some, None, refl, ap, mul-zero, mul-suc, arith}
use Rattle.std.specs.List.{slice_get}
use Rattle.std.proofs.lemmas.Option.{slice_get_past}
use Rattle.card.specs.Layout.{entries}

module _ {X : Type 0} (read : ℕ → X) (size : ℕ) where
  pub entries_length : (p n : ℕ) → length (entries read size p n) ≡ n
  entries_length p zero = refl
  entries_length p (suc n) = ap suc (entries_length (p + size) n)

  pub entries_in : (p n i q : ℕ) → i < n → p + size * i ≡ q → slice_get (entries read size p n) i ≡ Some (read q)
  entries_in p zero i q h e = absurd (omega arith)
  entries_in p (suc n) zero q h e = ap (λ k. Some (read k)) (omega (arith, mul-zero size))
  entries_in p (suc n) (suc i) q h e = entries_in (p + size) n i q (omega arith) (omega (arith, mul-suc size i))

  pub entries_past : (p n i : ℕ) → n ≤ i → slice_get (entries read size p n) i ≡ None
  entries_past p n i h = let l : length (entries read size p n) ≤ i = rw entries_length h in slice_get_past (entries read size p n) i l
