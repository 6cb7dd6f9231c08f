-- Members of lists.
use mathlib.Core.Path.{◌≡◌, refl, subst}
use mathlib.Core.Logic.{◌⊎◌, inl, inr}
use mathlib.Core.List.{List, [], ◌∷◌, ◌++◌, map}
use Prim.Native.Nat.{ℕ, zero, suc, ◌<◌}
use native.Mathlib.Omega.{arith}
use lib.ListN.{length, get_or}
use Rattle.temporal.specs.Parts.{◌∈◌, first, later}

pub at_member : {A : Type 0} (xs : List A) (i : ℕ) (d : A) → i < length xs → get_or xs i d ∈ xs
at_member [] i d h = absurd (omega arith)
at_member (x ∷ xs) zero d h = first
at_member (x ∷ xs) (suc i) d h = later (at_member xs i d (omega arith))

pub place : {A : Type 0} (d : A) (xs : List A) (x : A) → x ∈ xs → (i : ℕ) × (i < length xs) × (get_or xs i d ≡ x)
place d [] x m = elim m [ ]
place d (y ∷ xs) x first = (0, omega arith, refl)
place d (y ∷ xs) x (later m) = let r = place d xs x m in (suc r.0, omega arith, r.2)

pub in_left : {A : Type 0} (xs ys : List A) (x : A) → x ∈ xs → x ∈ (xs ++ ys)
in_left [] ys x m = elim m [ ]
in_left (y ∷ xs) ys x first = first
in_left (y ∷ xs) ys x (later m) = later (in_left xs ys x m)

pub in_right : {A : Type 0} (xs ys : List A) (x : A) → x ∈ ys → x ∈ (xs ++ ys)
in_right [] ys x m = m
in_right (y ∷ xs) ys x m = later (in_right xs ys x m)

pub in_append : {A : Type 0} (xs ys : List A) (x : A) → x ∈ (xs ++ ys) → (x ∈ xs) ⊎ (x ∈ ys)
in_append [] ys x m = inr m
in_append (y ∷ xs) ys x first = inl first
in_append (y ∷ xs) ys x (later m) = elim (in_append xs ys x m) [ inl a ↦ inl (later a) | inr b ↦ inr b ]

pub in_map : {A B : Type 0} (f : A → B) (xs : List A) (x : A) → x ∈ xs → f x ∈ map f xs
in_map f [] x m = elim m [ ]
in_map f (y ∷ xs) x first = first
in_map f (y ∷ xs) x (later m) = later (in_map f xs x m)

pub map_in : {A B : Type 0} (f : A → B) (xs : List A) (y : B) → y ∈ map f xs → (x : A) × (x ∈ xs) × (y ≡ f x)
map_in f [] y m = elim m [ ]
map_in f (x ∷ xs) y first = (x, first, refl)
map_in f (x ∷ xs) y (later m) = let r = map_in f xs y m in (r.0, later r.1, r.2)

-- a member of x ∷ xs is x or a member of xs
pub in_cons : {A : Type 0} {a x : A} {xs : List A} → a ∈ (x ∷ xs) → (a ≡ x) ⊎ (a ∈ xs)
in_cons first = inl refl
in_cons (later m) = inr m

pub cast : {A : Type 0} {a b : A} {xs : List A} → a ≡ b → a ∈ xs → b ∈ xs
cast {A} {a} {b} {xs} e m = subst (λ (x : A). x ∈ xs) e m

pub one_member : {A : Type 0} (x : A) (P : A → Type 0) → P x → (y : A) → y ∈ (x ∷ []) → P y
one_member x P p y first = p
one_member x P p y (later m) = elim m [ ]

-- the numbers below n: one with P, or all have Q
pub sorted : (P Q : ℕ → Type 0) → ((k : ℕ) → P k ⊎ Q k) → (n : ℕ) → ((k : ℕ) × (k < n) × P k) ⊎ ((k : ℕ) → k < n → Q k)
sorted P Q d zero = inr (λ k l. absurd (omega arith))
sorted P Q d (suc n) = go (d 0) (sorted (λ k. P (suc k)) (λ k. Q (suc k)) (λ k. d (suc k)) n)
  where
    go : P 0 ⊎ Q 0 → ((k : ℕ) × (k < n) × P (suc k)) ⊎ ((k : ℕ) → k < n → Q (suc k))
        → ((k : ℕ) × (k < suc n) × P k) ⊎ ((k : ℕ) → k < suc n → Q k)
    go (inl p) ih = inl (0, omega arith, p)
    go (inr q) (inl r) = inl (suc r.0, omega arith, r.2)
    go (inr q) (inr all) = inr (elim [ zero ↦ λ l. q | suc k ↦ λ l. all k (omega arith) ])
