-- A table filled from its start: the start, the step and the end.
use Rattle.std.proofs.Common.{◌≡◌, ℕ, ◌+◌, ◌<◌, ◌≤◌, cond, ltb, ◌≢◌, List, length, get_or, set, replicate, sym, ap, ◌∙◌, ⊎_elim, arith}
use Rattle.std.proofs.lemmas.List.{get_or-set_same, get_or-set_other, get_or-replicate, get_or_past, length-replicate}
use Rattle.std.proofs.lemmas.Bool.{cases_lt, cases_order, lt-ltb, le-ltb}

-- places below i hold what F says, the others d
abbrev pub Filled : {X : Type 0} → (ℕ → X) → X → ℕ → List X → Type 0
Filled F d i xs = (k : ℕ) → get_or xs k d ≡ cond (ltb k i) (F k) d

module _ {X : Type 0} (F : ℕ → X) (d : X) where
  at_yes : (k i : ℕ) → k < i → cond (ltb k i) (F k) d ≡ F k
  at_yes k i h = ap (λ b. cond b (F k) d) (lt-ltb k i h)

  at_not : (k i : ℕ) → i ≤ k → cond (ltb k i) (F k) d ≡ d
  at_not k i h = ap (λ b. cond b (F k) d) (le-ltb k i h)

  pub filled_none : (n : ℕ) → Filled F d 0 (replicate n d)
  filled_none n k =
      ⊎_elim (λ (h : k < n). get_or-replicate n k d d h)
      (λ (h : n ≤ k). let l : length (replicate n d) ≤ k = rw length-replicate h in get_or_past (replicate n d) k d l)
      (cases_lt k n)
      ∙ sym (at_not k 0 (omega arith))

  pub filled_more : (xs : List X) (i : ℕ) (v : X) → i < length xs → Filled F d i xs → v ≡ F i → Filled F d (i + 1) (set xs i v)
  filled_more xs i v l p e k =
      ⊎_elim
      (λ (h : k ≡ i). ap (λ j. get_or (set xs i v) j d) h ∙ get_or-set_same xs i v d l ∙ e
      ∙ ap F (sym h) ∙ sym (at_yes k (i + 1) (omega arith)))
      (⊎_elim
      (λ (h : k < i). let ne : k ≢ i = omega arith in get_or-set_other xs i k v d ne ∙ p k ∙ at_yes k i h
      ∙ sym (at_yes k (i + 1) (omega arith)))
      (λ (h : i < k). let ne : k ≢ i = omega arith in get_or-set_other xs i k v d ne ∙ p k ∙ at_not k i (omega arith)
      ∙ sym (at_not k (i + 1) (omega arith))))
      (cases_order k i)

  pub filled_at : (xs : List X) (i k : ℕ) → Filled F d i xs → k < i → get_or xs k d ≡ F k
  filled_at xs i k p h = p k ∙ at_yes k i h
