-- Tests over lists tell whether a statement holds of their members.
use Rattle.std.proofs.Common.{◌≡◌, ℕ, zero, suc, ◌+◌, ◌<◌, ◌≤◌, Bool, true, false, ◌&&◌, ◌||◌, ◌⊎◌, List, [], ◌∷◌, ◌++◌, map, sym, refl, ap, ◌∙◌, subst, inl, inr, arith}
use mathlib.Core.Bool.{false≢true}
use native.Mathlib.Decide.{ℕ_discrete}
use Rattle.temporal.specs.Parts.{◌∈◌, first, later}
use Rattle.temporal.proofs.Tells.{Tells, and_tells, by_tells}
use Rattle.tableau.specs.Lists.{span, all, any, concat_map}

pub always_tells : Tells true (Unit {0})
always_tells = ((λ h. tt), (λ h. refl))

pub never_tells : Tells false ⊥
never_tells = ((λ h. false≢true h), (λ h. absurd h))

-- a test that fails refutes the statement, and the other way round
pub fails : (b : Bool) {P : Type 0} → Tells b P → b ≡ false → P → ⊥
fails true p e x = false≢true (sym e)
fails false p e x = false≢true (p.1 x)

pub refuted : (b : Bool) {P : Type 0} → Tells b P → (P → ⊥) → b ≡ false
refuted true p n = absurd (n (p.0 refl))
refuted false p n = refl

-- ── members ──
pub all_tells : {A : Type 0} (p : A → Bool) (P : A → Type 0) → ((x : A) → Tells (p x) (P x))
    → (xs : List A) → Tells (all p xs) ((x : A) → x ∈ xs → P x)
all_tells p P h [] = ((λ e x m. elim m [ ]), (λ f. refl))
all_tells {A} p P h (y ∷ xs) = by_tells (p y && all p xs) (and_tells (p y) (all p xs) (h y) (all_tells p P h xs)) out back
  where
    out : (P y × ((x : A) → x ∈ xs → P x)) → (x : A) → x ∈ (y ∷ xs) → P x
    out r x first = r.0
    out r x (later m) = r.1 x m

    back : ((x : A) → x ∈ (y ∷ xs) → P x) → P y × ((x : A) → x ∈ xs → P x)
    back f = (f y first, λ x m. f x (later m))

pub any_out : {A : Type 0} (p : A → Bool) (xs : List A) → any p xs ≡ true → (x : A) × (x ∈ xs) × (p x ≡ true)
any_out p [] h = absurd (false≢true h)
any_out {A} p (y ∷ xs) h = go (p y) refl h (any_out p xs)
  where
    go : (b : Bool) → p y ≡ b → (b || any p xs) ≡ true
        → (any p xs ≡ true → (x : A) × (x ∈ xs) × (p x ≡ true)) → (x : A) × (x ∈ (y ∷ xs)) × (p x ≡ true)
    go true e h ih = (y, first, e)
    go false e h ih = let r = ih h in (r.0, later r.1, r.2)

pub any_in : {A : Type 0} (p : A → Bool) (xs : List A) (x : A) → x ∈ xs → p x ≡ true → any p xs ≡ true
any_in p [] x m h = elim m [ ]
any_in p (y ∷ xs) x first h = ap (λ b. b || any p xs) h
any_in p (y ∷ xs) x (later m) h = go (p y) (any_in p xs x m h)
  where
    go : (b : Bool) → any p xs ≡ true → (b || any p xs) ≡ true
    go true e = refl
    go false e = e

-- ── numbers in a row ──
pub span_tells : (p : ℕ → Bool) (P : ℕ → Type 0) → ((k : ℕ) → Tells (p k) (P k))
    → (n i : ℕ) → Tells (all p (span n i)) ((k : ℕ) → (i ≤ k) × (k < i + n) → P k)
span_tells p P h zero i = ((λ e k l. absurd (omega arith)), (λ f. refl))
span_tells p P h (suc n) i =
    by_tells (p i && all p (span n (suc i))) (and_tells (p i) (all p (span n (suc i))) (h i) (span_tells p P h n (suc i))) out back
  where
    cases : (k : ℕ) → (i ≤ k) × (k < i + suc n) → (i ≡ k) ⊎ ((suc i ≤ k) × (k < suc i + n))
    cases k l = elim (ℕ_discrete i k) [ yes e ↦ inl e | no n ↦ inr (omega arith, omega arith) ]

    out : (P i × ((k : ℕ) → (suc i ≤ k) × (k < suc i + n) → P k)) → (k : ℕ) → (i ≤ k) × (k < i + suc n) → P k
    out r k l = elim (cases k l) [ inl e ↦ subst P e r.0 | inr m ↦ r.1 k m ]

    back : ((k : ℕ) → (i ≤ k) × (k < i + suc n) → P k) → P i × ((k : ℕ) → (suc i ≤ k) × (k < suc i + n) → P k)
    back f = (f i (omega arith, omega arith), λ k l. f k (omega arith, omega arith))

pub below_tells : (p : ℕ → Bool) (P : ℕ → Type 0) → ((k : ℕ) → Tells (p k) (P k))
    → (n : ℕ) → Tells (all p (span n 0)) ((k : ℕ) → k < n → P k)
below_tells p P h n =
    by_tells (all p (span n 0)) (span_tells p P h n 0) (λ f k l. f k (omega arith, omega arith)) (λ f k l. f k (omega arith))

-- ── lists put together ──
pub all_append : {A : Type 0} (p : A → Bool) (xs ys : List A) → all p (xs ++ ys) ≡ (all p xs && all p ys)
all_append p [] ys = refl
all_append p (x ∷ xs) ys = go (p x) (all_append p xs ys)
  where
    go : (b : Bool) → all p (xs ++ ys) ≡ (all p xs && all p ys) → (b && all p (xs ++ ys)) ≡ ((b && all p xs) && all p ys)
    go true e = e
    go false e = refl

pub append_tells : {A : Type 0} (p : A → Bool) (xs ys : List A) {P Q : Type 0}
    → Tells (all p xs) P → Tells (all p ys) Q → Tells (all p (xs ++ ys)) (P × Q)
append_tells p xs ys {P} {Q} a b =
    subst (λ (b : Bool). Tells b (P × Q)) (sym (all_append p xs ys)) (and_tells (all p xs) (all p ys) a b)

pub map_tells : {A B : Type 0} (p : B → Bool) (f : A → B) (xs : List A) {P : Type 0}
    → Tells (all (λ x. p (f x)) xs) P → Tells (all p (map f xs)) P
map_tells {A} p f xs {P} a = subst (λ (b : Bool). Tells b P) (same xs) a
  where
    same : (ys : List A) → all (λ x. p (f x)) ys ≡ all p (map f ys)
    same [] = refl
    same (y ∷ ys) = ap (λ b. p (f y) && b) (same ys)

all_each : {A B : Type 0} (p : B → Bool) (f : A → List B) (xs : List A) → all (λ x. all p (f x)) xs ≡ all p (concat_map f xs)
all_each p f [] = refl
all_each p f (x ∷ xs) = ap (λ b. all p (f x) && b) (all_each p f xs) ∙ sym (all_append p (f x) (concat_map f xs))

pub each_tells : {A B : Type 0} (p : B → Bool) (f : A → List B) (xs : List A) {P : Type 0}
    → Tells (all (λ x. all p (f x)) xs) P → Tells (all p (concat_map f xs)) P
each_tells p f xs {P} a = subst (λ (b : Bool). Tells b P) (all_each p f xs) a

pub one_tells : {A : Type 0} (p : A → Bool) (x : A) {P : Type 0} → Tells (p x) P → Tells (all p (x ∷ [])) P
one_tells p x a = by_tells (p x && true) (and_tells (p x) true a always_tells) (λ r. r.0) (λ r. (r, tt))
