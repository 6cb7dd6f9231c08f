-- The rest is exact for every reading; truth is monotone in the readings and looks no further than the reach.
use mathlib.Core.Path.{◌≡◌, refl, sym, ◌∙◌, ap, ap₂}
use mathlib.Core.Logic.{◌⊎◌, inl, inr}
use mathlib.Core.Bool.{Bool, true, false, ◌&&◌, ◌||◌, false≢true, and-true, and-false, or-true, or-false}
use Prim.Native.Nat.{ℕ, zero, suc, ◌+◌, ◌≤◌}
use native.Mathlib.Omega.{arith}
use Rattle.temporal.specs.Formula.{Formula, bot, top, lit, conj, disj, next, always, eventually, Reading, ◌⊆◌, from, every, some, holds}
use Rattle.temporal.specs.Formula.{reach, Kind, is_bot, is_top, other, kind, conjoin_by, disjoin_by, conjoin, disjoin, constant, rest}
use Rattle.temporal.specs.Formula.{Fine}

-- ── tests ──
pub and_out : (a b : Bool) → (a && b) ≡ true → (a ≡ true) × (b ≡ true)
and_out true b h = (refl, h)
and_out false b h = absurd (false≢true h)

pub and_in : (a b : Bool) → a ≡ true → b ≡ true → (a && b) ≡ true
and_in true b h k = k
and_in false b h k = h

pub or_out : (a b : Bool) → (a || b) ≡ true → (a ≡ true) ⊎ (b ≡ true)
or_out true b h = inl refl
or_out false b h = inr h

pub or_in : (a b : Bool) → (a ≡ true) ⊎ (b ≡ true) → (a || b) ≡ true
or_in true b h = refl
or_in false b (inl h) = absurd (false≢true h)
or_in false b (inr h) = h

pub both_ways : (a b : Bool) → (a ≡ true → b ≡ true) → (b ≡ true → a ≡ true) → a ≡ b
both_ways true b f g = sym (f refl)
both_ways false true f g = g refl
both_ways false false f g = refl

-- ── every and some are what they say ──
pub every_out : (P : ℕ → Bool) (n m : ℕ) → every P n m ≡ true → (k : ℕ) → n ≤ k → k ≤ m → P k ≡ true
every_out P zero zero h zero a b = h
every_out P zero zero h (suc k) a b = absurd (omega arith)
every_out P zero (suc m) h zero a b = (and_out (P 0) (every (λ k. P (suc k)) 0 m) h).0
every_out P zero (suc m) h (suc k) a b =
    every_out (λ k. P (suc k)) 0 m (and_out (P 0) (every (λ k. P (suc k)) 0 m) h).1 k (omega arith) (omega arith)
every_out P (suc n) zero h k a b = absurd (omega arith)
every_out P (suc n) (suc m) h zero a b = absurd (omega arith)
every_out P (suc n) (suc m) h (suc k) a b = every_out (λ k. P (suc k)) n m h k (omega arith) (omega arith)

pub every_in : (P : ℕ → Bool) (n m : ℕ) → ((k : ℕ) → n ≤ k → k ≤ m → P k ≡ true) → every P n m ≡ true
every_in P zero zero h = h 0 (omega arith) (omega arith)
every_in P zero (suc m) h =
    and_in (P 0) (every (λ k. P (suc k)) 0 m) (h 0 (omega arith) (omega arith))
    (every_in (λ k. P (suc k)) 0 m (λ k a b. h (suc k) (omega arith) (omega arith)))
every_in P (suc n) zero h = refl
every_in P (suc n) (suc m) h = every_in (λ k. P (suc k)) n m (λ k a b. h (suc k) (omega arith) (omega arith))

pub some_out : (P : ℕ → Bool) (n m : ℕ) → some P n m ≡ true → (k : ℕ) × (n ≤ k) × (k ≤ m) × (P k ≡ true)
some_out P zero zero h = (0, omega arith, omega arith, h)
some_out P zero (suc m) h = go (or_out (P 0) (some (λ k. P (suc k)) 0 m) h) (some_out (λ k. P (suc k)) 0 m)
  where
    go : (P 0 ≡ true) ⊎ (some (λ k. P (suc k)) 0 m ≡ true)
        → (some (λ k. P (suc k)) 0 m ≡ true → (k : ℕ) × (0 ≤ k) × (k ≤ m) × (P (suc k) ≡ true))
        → (k : ℕ) × (0 ≤ k) × (k ≤ suc m) × (P k ≡ true)
    go (inl p) ih = (0, omega arith, omega arith, p)
    go (inr q) ih = let r = ih q in (suc r.0, omega arith, omega arith, r.3)
some_out P (suc n) zero h = absurd (false≢true h)
some_out P (suc n) (suc m) h = let r = some_out (λ k. P (suc k)) n m h in (suc r.0, omega arith, omega arith, r.3)

pub some_in : (P : ℕ → Bool) (n m k : ℕ) → n ≤ k → k ≤ m → P k ≡ true → some P n m ≡ true
some_in P zero zero zero a b h = h
some_in P zero zero (suc k) a b h = absurd (omega arith)
some_in P zero (suc m) zero a b h = or_in (P 0) (some (λ k. P (suc k)) 0 m) (inl h)
some_in P zero (suc m) (suc k) a b h =
    or_in (P 0) (some (λ k. P (suc k)) 0 m) (inr (some_in (λ k. P (suc k)) 0 m k (omega arith) (omega arith) h))
some_in P (suc n) zero k a b h = absurd (omega arith)
some_in P (suc n) (suc m) zero a b h = absurd (omega arith)
some_in P (suc n) (suc m) (suc k) a b h = some_in (λ k. P (suc k)) n m k (omega arith) (omega arith) h

-- ── the simplified connectives mean the same ──
abbrev pub KindOk : Formula → Kind → Type 0
KindOk f is_bot = f ≡ bot
KindOk f is_top = f ≡ top
KindOk f other = kind f ≡ other

pub kind_ok : (f : Formula) → KindOk f (kind f)
kind_ok bot = refl
kind_ok top = refl
kind_ok (lit s i) = refl
kind_ok (conj f g) = refl
kind_ok (disj f g) = refl
kind_ok (next n f) = refl
kind_ok (always n m f) = refl
kind_ok (eventually n m f) = refl

module _ (σ : ℕ → Reading) where
  pub holds_conjoin : (f g : Formula) → (holds σ f && holds σ g) ≡ holds σ (conjoin f g)
  holds_conjoin f g = go (kind f) (kind g) (kind_ok f) (kind_ok g)
    where
      go : (k l : Kind) → KindOk f k → KindOk g l → (holds σ f && holds σ g) ≡ holds σ (conjoin_by k l f g)
      go is_bot l p q = rw p
      go is_top l p q = rw p
      go other is_bot p q = rw q (and-false (holds σ f))
      go other is_top p q = rw q (and-true (holds σ f))
      go other other p q = refl

  pub holds_disjoin : (f g : Formula) → (holds σ f || holds σ g) ≡ holds σ (disjoin f g)
  holds_disjoin f g = go (kind f) (kind g) (kind_ok f) (kind_ok g)
    where
      go : (k l : Kind) → KindOk f k → KindOk g l → (holds σ f || holds σ g) ≡ holds σ (disjoin_by k l f g)
      go is_bot l p q = rw p
      go is_top l p q = rw p
      go other is_bot p q = rw q (or-false (holds σ f))
      go other is_top p q = rw q (or-true (holds σ f))
      go other other p q = refl

  pub holds_constant : (b : Bool) → b ≡ holds σ (constant b)
  holds_constant true = refl
  holds_constant false = refl

-- ── the exact law: a formula holds now if and only if its rest holds a step later ──
pub rest_exact : (σ : ℕ → Reading) (f : Formula) → holds σ f ≡ holds (from 1 σ) (rest (σ 0) f)
rest_exact σ bot = refl
rest_exact σ top = refl
rest_exact σ (lit s i) = holds_constant (from 1 σ) (σ 0 s i)
rest_exact σ (conj f g) = ap₂ ◌&&◌ (rest_exact σ f) (rest_exact σ g) ∙ holds_conjoin (from 1 σ) (rest (σ 0) f) (rest (σ 0) g)
rest_exact σ (disj f g) = ap₂ ◌||◌ (rest_exact σ f) (rest_exact σ g) ∙ holds_disjoin (from 1 σ) (rest (σ 0) f) (rest (σ 0) g)
rest_exact σ (next zero f) = rest_exact σ f
rest_exact σ (next (suc zero) f) = refl
rest_exact σ (next (suc (suc n)) f) = refl
rest_exact σ (always zero zero f) = rest_exact σ f
rest_exact σ (always zero (suc m) f) =
    ap (λ b. b && holds (from 1 σ) (always 0 m f)) (rest_exact σ f) ∙ holds_conjoin (from 1 σ) (rest (σ 0) f) (always 0 m f)
rest_exact σ (always (suc n) zero f) = refl
rest_exact σ (always (suc n) (suc m) f) = refl
rest_exact σ (eventually zero zero f) = rest_exact σ f
rest_exact σ (eventually zero (suc m) f) =
    ap (λ b. b || holds (from 1 σ) (eventually 0 m f)) (rest_exact σ f) ∙ holds_disjoin (from 1 σ) (rest (σ 0) f) (eventually 0 m f)
rest_exact σ (eventually (suc n) zero f) = refl
rest_exact σ (eventually (suc n) (suc m) f) = refl

-- a sequence from step n on has at k what the sequence has at n + k
pub from_at : {A : Type 0} (n : ℕ) (σ : ℕ → A) (k : ℕ) → from n σ k ≡ σ (n + k)
from_at zero σ k = ap σ (omega arith)
from_at (suc n) σ k = from_at n (λ j. σ (suc j)) k ∙ ap σ (omega arith)

pub from_more : (n : ℕ) (σ τ : ℕ → Reading) (k : ℕ) → σ (n + k) ⊆ τ (n + k) → from n σ k ⊆ from n τ k
from_more n σ τ k h s i a = ap (λ (R : Reading). R s i) (from_at n τ k) ∙ h s i (ap (λ (R : Reading). R s i) (sym (from_at n σ k)) ∙ a)

-- ── more literals, more truth; and only the steps up to the reach count ──
pub more_true : (σ τ : ℕ → Reading) (f : Formula) → ((k : ℕ) → k ≤ reach f → σ k ⊆ τ k) → holds σ f ≡ true → holds τ f ≡ true
more_true σ τ bot e h = h
more_true σ τ top e h = h
more_true σ τ (lit s i) e h = e 0 (omega arith) s i h
more_true σ τ (conj f g) e h =
    let p = and_out (holds σ f) (holds σ g) h in
    and_in (holds τ f) (holds τ g) (more_true σ τ f (λ k a. e k (omega arith)) p.0) (more_true σ τ g (λ k a. e k (omega arith)) p.1)
more_true σ τ (disj f g) e h =
    or_in (holds τ f) (holds τ g) (elim (or_out (holds σ f) (holds σ g) h)
    [ inl p ↦ inl (more_true σ τ f (λ k a. e k (omega arith)) p) | inr q ↦ inr (more_true σ τ g (λ k a. e k (omega arith)) q) ])
more_true σ τ (next n f) e h = more_true (from n σ) (from n τ) f (λ k a. from_more n σ τ k (e (n + k) (omega arith))) h
more_true σ τ (always n m f) e h =
    every_in (λ k. holds (from k τ) f) n m
    (λ j a b. more_true (from j σ) (from j τ) f (λ k c. from_more j σ τ k (e (j + k) (omega arith)))
    (every_out (λ k. holds (from k σ) f) n m h j a b))
more_true σ τ (eventually n m f) e h =
    let r = some_out (λ k. holds (from k σ) f) n m h in let j = r.0 in
    some_in (λ k. holds (from k τ) f) n m j r.1 r.2
    (more_true (from j σ) (from j τ) f (λ k c. from_more j σ τ k (e (j + k) (omega arith))) r.3)

pub within_reach : (σ τ : ℕ → Reading) (f : Formula) → ((k : ℕ) → k ≤ reach f → σ k ≡ τ k) → holds σ f ≡ holds τ f
within_reach σ τ f e =
    both_ways (holds σ f) (holds τ f) (more_true σ τ f (λ k a s i h. ap (λ (R : Reading). R s i) (sym (e k a)) ∙ h))
    (more_true τ σ f (λ k a s i h. ap (λ (R : Reading). R s i) (e k a) ∙ h))

-- ── where every literal counts as true, so does every formula in normal form but false ──
pub other_no : (f : Formula) → kind f ≡ other → f ≡ bot → ⊥
other_no f k e = let z : is_bot ≡ other = sym (ap kind e) ∙ k in let y : ◌≡◌ {A = ℕ} 0 1 = cc in omega arith

abbrev pub full : ℕ → Reading
full t s i = true

pub from_full : (n : ℕ) → from n full ≡ full
from_full zero = refl
from_full (suc n) = from_full n

pub full_true : (ne ns : ℕ) (f : Formula) → Fine ne ns f → (f ≡ bot → ⊥) → holds full f ≡ true
full_true ne ns bot h x = absurd (x refl)
full_true ne ns top h x = refl
full_true ne ns (lit s i) h x = refl
full_true ne ns (conj f g) h x =
    and_in _ _ (full_true ne ns f h.0.1 (other_no f h.0.0)) (full_true ne ns g h.1.1 (other_no g h.1.0))
full_true ne ns (disj f g) h x = or_in _ _ (inl (full_true ne ns f h.0.1 (other_no f h.0.0)))
full_true ne ns (next n f) h x = rw (from_full n) (full_true ne ns f h.1.1 (other_no f h.1.0))
full_true ne ns (always n m f) h x = every_in _ n m (λ k a b. rw (from_full k) (full_true ne ns f h.1.1 (other_no f h.1.0)))
full_true ne ns (eventually n m f) h x =
    some_in _ n m n (omega arith) h.0.0 (rw (from_full n) (full_true ne ns f h.1.1 (other_no f h.1.0)))

-- ── the same at any step ──
pub from_later : {A : Type 0} (t : ℕ) (σ : ℕ → A) → from 1 (from t σ) ≡ from (suc t) σ
from_later zero σ = refl
from_later (suc t) σ = from_later t (λ k. σ (suc k))

pub exact_at : (σ : ℕ → Reading) (t : ℕ) (f : Formula) → holds (from t σ) f ≡ holds (from (suc t) σ) (rest (σ t) f)
exact_at σ t f =
    let e : t + 0 ≡ t = omega arith in
    rest_exact (from t σ) f ∙ ap₂ (λ (τ : ℕ → Reading) (R : Reading). holds τ (rest R f)) (from_later t σ) (from_at t σ 0 ∙ ap σ e)

pub monotone_at : (σ τ : ℕ → Reading) (t : ℕ) (f : Formula) → ((k : ℕ) → σ k ⊆ τ k) → holds (from t σ) f ≡ true → holds (from t τ) f ≡ true
monotone_at σ τ t f e = more_true (from t σ) (from t τ) f (λ k a. from_more t σ τ k (e (t + k)))

pub local_at : (σ τ : ℕ → Reading) (t : ℕ) (f : Formula) → ((k : ℕ) → t ≤ k → k ≤ t + reach f → σ k ≡ τ k)
    → holds (from t σ) f ≡ holds (from t τ) f
local_at σ τ t f e =
    within_reach (from t σ) (from t τ) f (λ k a. from_at t σ k ∙ e (t + k) (omega arith) (omega arith) ∙ sym (from_at t τ k))
