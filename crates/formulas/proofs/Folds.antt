-- Lists of values that are built one after another, each of earlier ones.
use Rattle.std.proofs.Common.{◌≡◌, ℕ, zero, suc, ◌+◌, ◌<◌, Bool, true, List, [], ◌∷◌, ◌++◌, length, get_or, Some, fold, sym, refl, ap, ◌∙◌, arith}
use Rattle.std.specs.List.{slice_get}
use Rattle.std.proofs.lemmas.List.{get_or_append_left, get_or_at, length_push}

abbrev pub step : {N T : Type 0} → (List T → N → T) → List T → N → List T
step grow ts n = ts ++ grow ts n ∷ []

module _ {N T : Type 0} (grow : List T → N → T) where
  pub fold_append : (ts : List T) (xs ys : List N) → fold (step grow) ts (xs ++ ys) ≡ fold (step grow) (fold (step grow) ts xs) ys
  fold_append ts [] ys = refl
  fold_append ts (x ∷ xs) ys = fold_append (step grow ts x) xs ys

  pub fold_length : (ts : List T) (ns : List N) → length (fold (step grow) ts ns) ≡ length ts + length ns
  fold_length ts [] = omega arith
  fold_length ts (n ∷ ns) = fold_length (step grow ts n) ns ∙ omega (arith, length_push ts (grow ts n))

  -- what was built stays
  pub fold_kept : (d : T) (ts : List T) (ns : List N) (k : ℕ) → k < length ts → get_or (fold (step grow) ts ns) k d ≡ get_or ts k d
  fold_kept d ts [] k h = refl
  fold_kept d ts (n ∷ ns) k h =
      let l : k < length (step grow ts n) = rw length_push (omega arith) in
      fold_kept d (step grow ts n) ns k l ∙ get_or_append_left ts (grow ts n ∷ []) d k h

-- what is built at a place looks at earlier places alone
abbrev pub Alike : {N T : Type 0} → (List T → N → T) → T → (ℕ → N → Bool) → Type 0
Alike {N} {T} grow d below =
    (ts us : List T) (n : N) (i : ℕ) → below i n ≡ true → ((k : ℕ) → k < i → get_or ts k d ≡ get_or us k d) → grow ts n ≡ grow us n

module _ {N T : Type 0} (grow : List T → N → T) (d : T) (below : ℕ → N → Bool) (alike : Alike grow d below) where
  at_from : (ts : List T) (ns : List N) (j i : ℕ) (n : N) → length ts + j ≡ i → slice_get ns j ≡ Some n → below i n ≡ true
      → get_or (fold (step grow) ts ns) i d ≡ grow (fold (step grow) ts ns) n
  at_from ts [] j i n l e b = let z : ◌≡◌ {A = ℕ} 0 1 = cc in absurd (omega arith)
  at_from ts (m ∷ ns) zero i n l e b =
      let same : m ≡ n = cc in
      let here : length ts ≡ i = omega arith in
      let long : i < length (step grow ts m) = rw length_push (omega arith) in
      let kept : (k : ℕ) → k < i → get_or ts k d ≡ get_or (fold (step grow) ts (m ∷ ns)) k d =
      λ k h. sym (fold_kept grow d ts (m ∷ ns) k (omega arith)) in
      fold_kept grow d (step grow ts m) ns i long
      ∙ get_or_at ts (grow ts m) [] d i here
      ∙ ap (grow ts) same
      ∙ alike ts (fold (step grow) ts (m ∷ ns)) n i b kept
  at_from ts (m ∷ ns) (suc j) i n l e b =
      let long : length (step grow ts m) + j ≡ i = rw length_push (omega arith) in
      at_from (step grow ts m) ns j i n long e b

  -- each value is built of the whole list as well
  pub built_at : (ns : List N) (i : ℕ) (n : N) → slice_get ns i ≡ Some n → below i n ≡ true
      → get_or (fold (step grow) [] ns) i d ≡ grow (fold (step grow) [] ns) n
  built_at ns i n e b = at_from [] ns i i n (omega arith) e b

pub nth_more : {X : Type 0} (xs ys : List X) (i : ℕ) (x : X) → slice_get xs i ≡ Some x → slice_get (xs ++ ys) i ≡ Some x
nth_more [] ys i x e = let z : ◌≡◌ {A = ℕ} 0 1 = cc in absurd (omega arith)
nth_more (y ∷ xs) ys zero x e = e
nth_more (y ∷ xs) ys (suc i) x e = nth_more xs ys i x e
