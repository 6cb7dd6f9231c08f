-- What an answer of a source says of the list that it comes from. An answer is the entry at a place, or none past the list.
use Rattle.std.proofs.Common.{◌≡◌, ℕ, zero, suc, ◌+◌, ◌<◌, ◌≤◌, List, [], ◌∷◌, map, length, get_or, drop, Some, None, Option, MatchOption, ◌∙◌, refl, ap, suc-le-suc, zero-le, add-one, arith}
use Rattle.std.specs.List.{slice_get}
use Rattle.std.proofs.lemmas.List.{length-drop}

-- what is left of a list from an entry on
drop_some' : {X : Type 0} (xs : List X) (i : ℕ) (x : X) → Some x ≡ slice_get xs i → drop i xs ≡ x ∷ drop (suc i) xs
drop_some' [] i x e = let z : ◌≡◌ {A = ℕ} 0 1 = cc in absurd (omega arith)
drop_some' (y ∷ ys) zero x e = let p : y ≡ x = cc in ap (λ v. v ∷ ys) p
drop_some' (y ∷ ys) (suc i) x e = drop_some' ys i x e

pub drop_some : {X : Type 0} (xs : List X) (i : ℕ) (x : X) → Some x ≡ slice_get xs i → drop i xs ≡ x ∷ drop (i + 1) xs
drop_some xs i x e = rw add-one (drop_some' xs i x e)

pub length_none : {X : Type 0} (xs : List X) (i : ℕ) → None ≡ slice_get xs i → length xs ≤ i
length_none [] i e = zero-le
length_none (y ∷ ys) zero e = let z : ◌≡◌ {A = ℕ} 0 1 = cc in absurd (omega arith)
length_none (y ∷ ys) (suc i) e = suc-le-suc (length_none ys i e)

-- the entry at a place of the list is the first of what is left from there on
pub first_left : {X : Type 0} (xs : List X) (i : ℕ) (r : Option X) → i < length xs → r ≡ slice_get xs i
    → MatchOption r ((drop i xs ≡ []) × (drop (i + 1) xs ≡ [])) (λ x. drop i xs ≡ x ∷ drop (i + 1) xs)
first_left xs i None h e = absurd (omega (arith, length_none xs i e))
first_left xs i (Some x) h e = drop_some xs i x e

-- what is left from a place on: the entry there, and the others
left_some' : {X : Type 0} (xs rest : List X) (i : ℕ) (x : X) → drop i xs ≡ x ∷ rest
    → (Some x ≡ slice_get xs i) × (i < length xs) × (rest ≡ drop (suc i) xs)
left_some' [] rest zero x e = let z : ◌≡◌ {A = ℕ} 0 1 = cc in absurd (omega arith)
left_some' [] rest (suc i) x e = let z : ◌≡◌ {A = ℕ} 0 1 = cc in absurd (omega arith)
left_some' (y ∷ ys) rest zero x e = let p : x ≡ y = cc in let q : rest ≡ ys = cc in (ap Some p, suc-le-suc zero-le, q)
left_some' (y ∷ ys) rest (suc i) x e = let h = left_some' ys rest i x e in (h.0, suc-le-suc h.1, h.2)

pub left_some : {X : Type 0} (xs rest : List X) (i : ℕ) (x : X) → drop i xs ≡ x ∷ rest
    → (Some x ≡ slice_get xs i) × (i < length xs) × (rest ≡ drop (i + 1) xs)
left_some xs rest i x e = rw add-one (left_some' xs rest i x e)

pub left_length : {X : Type 0} (xs rest : List X) (i : ℕ) → rest ≡ drop i xs → i ≤ length xs → i + length rest ≡ length xs
left_length xs rest i e h = let n = ap length e ∙ length-drop i xs in omega (arith, n)

pub left_none : {X : Type 0} (xs : List X) (i : ℕ) → drop i xs ≡ [] → length xs ≤ i
left_none [] i e = zero-le
left_none (y ∷ ys) zero e = let z : ◌≡◌ {A = ℕ} 0 1 = cc in absurd (omega arith)
left_none (y ∷ ys) (suc i) e = suc-le-suc (left_none ys i e)

-- the entry of a list that a function was applied to, read at any default
pub get_d_some : {X Y : Type 0} (f : X → Y) (xs : List X) (i : ℕ) (x : X) (d : Y) → Some x ≡ slice_get xs i → get_or (map f xs) i d ≡ f x
get_d_some f [] i x d e = let z : ◌≡◌ {A = ℕ} 0 1 = cc in absurd (omega arith)
get_d_some f (y ∷ ys) zero x d e = let p : y ≡ x = cc in ap f p
get_d_some f (y ∷ ys) (suc i) x d e = get_d_some f ys i x d e

pub get_or_none : {X Y : Type 0} (f : X → Y) (xs : List X) (i : ℕ) (d : Y) → None ≡ slice_get xs i → get_or (map f xs) i d ≡ d
get_or_none f [] zero d e = refl
get_or_none f [] (suc i) d e = refl
get_or_none f (y ∷ ys) zero d e = let z : ◌≡◌ {A = ℕ} 0 1 = cc in absurd (omega arith)
get_or_none f (y ∷ ys) (suc i) d e = get_or_none f ys i d e

-- the same with no function
pub entry_some : {X : Type 0} (xs : List X) (i : ℕ) (x d : X) → Some x ≡ slice_get xs i → get_or xs i d ≡ x
entry_some [] i x d e = let z : ◌≡◌ {A = ℕ} 0 1 = cc in absurd (omega arith)
entry_some (y ∷ ys) zero x d e = cc
entry_some (y ∷ ys) (suc i) x d e = entry_some ys i x d e

pub entry_none : {X : Type 0} (xs : List X) (i : ℕ) (d : X) → None ≡ slice_get xs i → get_or xs i d ≡ d
entry_none [] zero d e = refl
entry_none [] (suc i) d e = refl
entry_none (y ∷ ys) zero d e = let z : ◌≡◌ {A = ℕ} 0 1 = cc in absurd (omega arith)
entry_none (y ∷ ys) (suc i) d e = entry_none ys i d e
