-- The first members of a list, at most so many; and an array made by a function of the place.
use Rattle.std.proofs.Common.{◌≡◌, ℕ, zero, suc, ◌+◌, ◌<◌, ◌≤◌, min, Some, None, Option, unwrap_or, eq-or-lt_of_le, refl, List, length, take, sym, ap, ◌∙◌, subst, inl, inr, arith}
use Rattle.std.specs.Prelude.{slice_index_or}
use Rattle.std.proofs.lemmas.List.{take_all, same_lists, length-take-le, get_or-take}
use Rattle.std.proofs.lemmas.Bool.{cases_lt}
use Rattle.std.specs.Array.{IsFromFnResultFrom, IsFromFnResult}
use Rattle.std.specs.List.{slice_get}
use Rattle.std.specs.Fn.{Called, Mut}
use Rattle.card.proofs.Walk.{length_none, entry_some}

pub taken_all : {X : Type 0} (xs : List X) (n i : ℕ) → i ≡ min (length xs) n → take i xs ≡ take n xs
taken_all xs n i e =
    elim (cases_lt n (length xs)) [
      | inl l ↦ let p : i ≡ n = omega arith in ap (λ k. take k xs) p
      | inr l ↦ take_all i xs (omega arith) ∙ sym (take_all n xs l)
    ]

-- where each call leaves the function as it was, and below m gives what h has at the place, so does the array
module _ {F B : Type 0} (g : Mut F (ℕ × Unit {0}) B) (f : F) (ys : List B) (h : ℕ → Option B) (m : ℕ)
    (calls : (i : ℕ) (y : B) (q : F) → Called g f (i, tt) y q → (q ≡ f) × (i < m → Some y ≡ h i)) where
  made_from : (i n : ℕ) → IsFromFnResultFrom g f ys i n → (k : ℕ) (d : B) → i ≤ k → k < i + n → k < m → Some (slice_index_or ys k d) ≡ h k
  made_from i zero r k d a l b = absurd (omega arith)
  made_from i (suc n) (q, y, at, call, r) k d a l b =
      elim (eq-or-lt_of_le a) [
        | inl e ↦ ap (λ j. Some (slice_index_or ys j d)) (sym e) ∙ ap Some (at.1 d) ∙ (calls i y q call).1 (omega arith) ∙ ap h e
        | inr o ↦
            made_from (i + 1) n (subst (λ (x : F). IsFromFnResultFrom g x ys (i + 1) n) (calls i y q call).0 r) k d (omega arith) (omega arith) b
      ]

  pub made : (n : ℕ) → IsFromFnResult g f ys n → (k : ℕ) (d : B) → k < n → k < m → Some (slice_index_or ys k d) ≡ h k
  made n r k d l b = made_from 0 n r.each k d (omega arith) (omega arith) b

-- what is read of a list at one of its places, whatever would stand past its end
pub read_some : {X : Type 0} (xs : List X) (k : ℕ) (o : Option X) (blank : X) → o ≡ slice_get xs k → k < length xs
    → Some (unwrap_or o blank) ≡ slice_get xs k
read_some xs k (Some x) blank e l = e
read_some xs k None blank e l = absurd (omega (arith, length_none xs k e))

-- an array that begins with the entries of a list, as many as there are, has the list's first entries
pub copied : {X : Type 0} (ys xs : List X) (n : ℕ) → length ys ≡ n
    → ((k : ℕ) (d : X) → k < min (length xs) n → Some (slice_index_or ys k d) ≡ slice_get xs k)
    → take (min (length xs) n) ys ≡ take n xs
copied ys xs n long each =
    let m = min (length xs) n in
    let mine = length-take-le m ys (omega (arith, long)) in
    same_lists (take m ys) (take m xs) (mine ∙ sym (length-take-le m xs (omega arith)))
    (λ k d l.
    let below : k < m = omega (arith, mine, l) in
    get_or-take m ys k d below ∙ sym (entry_some xs k (slice_index_or ys k d) d (each k d below))
    ∙ sym (get_or-take m xs k d below))
    ∙ taken_all xs n m refl
