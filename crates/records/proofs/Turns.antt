-- A `for` over the first n elements of a list, each with its number: what a turn has, and where the loop ends.
use Rattle.std.proofs.Common.{Iter, ◌≡◌, ℕ, ◌<◌, List, length, get_or, take, min, ap, ◌∙◌, arith}
use Rattle.std.specs.List.{enumerate_from}
use Rattle.std.specs.Slice.Iter.{iter_rest}
use Rattle.std.specs.declared.iter.Take.{Take}
use Rattle.std.specs.declared.iter.Enumerate.{Enumerate}
use Rattle.std.proofs.lemmas.Fn.{fronts}
use Rattle.std.specs.Iterator.Adapters.{take_source, take_count, take_steps, enumerate_source, enumerate_count, enumerate_steps}
use Rattle.std.proofs.lemmas.Iterator.{YieldsList, YieldsList-from_slice, YieldsList-from_take}
use Rattle.std.proofs.lemmas.Iterator.Consumers.{YieldsList-from_enumerate}
use Rattle.std.proofs.lemmas.List.{get_or-take, length-take}
use Rattle.std.proofs.lemmas.List.FromFn.{length-enumerate_from, get_or-enumerate_from}

module _ {A : Type 0} (xs : List A) (n : ℕ) where
  abbrev pub numbered : List (ℕ × A)
  numbered = take n (enumerate_from 0 xs)

  pub length-numbered : length numbered ≡ min n (length xs)
  length-numbered = length-take n (enumerate_from 0 xs) ∙ ap (min n) (length-enumerate_from 0 xs)

  pub turn : (k i : ℕ) (x : A) → (k < length numbered) × ((i, x) ≡ get_or numbered k (i, x))
      → (k < n) × (k < length xs) × (i ≡ k) × (x ≡ get_or xs k x)
  turn k i x h =
      let l : k < n = omega (arith, h.0, length-numbered) in
      let m : k < length xs = omega (arith, h.0, length-numbered) in
      let e = h.1 ∙ get_or-take n (enumerate_from 0 xs) k (i, x) l ∙ get_or-enumerate_from 0 xs k (i, x) m in
      (l, m, omega (arith, ap (λ (p : ℕ × A). p.0) e), ap (λ (p : ℕ × A). p.1) e)

-- what such a loop goes over
pub first_numbered : {A : Type 0} (xs : List A) (n : ℕ) {s : Take (Enumerate (Iter A))} → iter_rest (enumerate_source (take_source s)) ≡ xs
    → enumerate_count (take_source s) ≡ 0 → take_count s ≡ n
    → YieldsList (take_steps (enumerate_steps fronts)) (λ p. (p.0, p.1.now)) s (numbered xs n)
first_numbered xs n h z e = YieldsList-from_take n (YieldsList-from_enumerate (YieldsList-from_slice xs h) z) e
