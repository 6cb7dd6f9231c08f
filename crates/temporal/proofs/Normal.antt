-- The normal form says what the formula says, and is fine.
use mathlib.Core.Path.{◌≡◌, refl, sym, ◌∙◌, ap, ap₂, subst}
use mathlib.Core.Bool.{Bool, true, false, not, ◌&&◌, ◌||◌, beq, false≢true}
use Prim.Native.Nat.{ℕ, zero, suc, ◌+◌, ◌≤◌}
use native.Mathlib.Omega.{arith}
use Rattle.temporal.specs.Formula.{Formula, bot, top, lit, conj, disj, next, always, eventually, Reading, from, every, some, holds}
use Rattle.temporal.specs.Formula.{Kind, is_bot, is_top, other, kind, conjoin_by, disjoin_by, conjoin, disjoin, unless_constant, next_of}
use Rattle.temporal.specs.Formula.{always_of, eventually_of, constant, rest, Fine}
use Rattle.temporal.specs.Written.{Written, falsity, truth, variable, negation, later, throughout, within, conjunction, disjunction}
use Rattle.temporal.specs.Written.{implication, equivalence}
use Rattle.temporal.specs.Written.{Valuation, Says, exactly, normal, Ordered, WrittenFine}
use Rattle.temporal.proofs.Truth.{every_out, every_in, some_out, some_in, KindOk, kind_ok, holds_conjoin, holds_disjoin, from_at}
use Rattle.temporal.proofs.Tells.{Tells, and_tells, or_tells, not_tells, implies_tells, equal_tells}

-- ── ranges ──
every_same : (P Q : ℕ → Bool) → ((k : ℕ) → P k ≡ Q k) → (n m : ℕ) → every P n m ≡ every Q n m
every_same P Q e n m = ap (λ (R : ℕ → Bool). every R n m) (λ j k. e k j)

some_same : (P Q : ℕ → Bool) → ((k : ℕ) → P k ≡ Q k) → (n m : ℕ) → some P n m ≡ some Q n m
some_same P Q e n m = ap (λ (R : ℕ → Bool). some R n m) (λ j k. e k j)

-- true throughout is true; false somewhere in a range that is not empty is false
pub every_true : (n m : ℕ) → every (λ k. true) n m ≡ true
every_true n m = every_in (λ k. true) n m (λ k a b. refl)

pub some_true : (n m : ℕ) → n ≤ m → some (λ k. true) n m ≡ true
some_true n m l = some_in (λ k. true) n m n (omega arith) l refl

pub every_false : (n m : ℕ) → n ≤ m → every (λ k. false) n m ≡ false
every_false n m l = go (every (λ k. false) n m) (λ h. every_out (λ k. false) n m h n (omega arith) l)
  where
    go : (b : Bool) → (b ≡ true → false ≡ true) → b ≡ false
    go true f = absurd (false≢true (f refl))
    go false f = refl

pub some_false : (n m : ℕ) → some (λ k. false) n m ≡ false
some_false n m = go (some (λ k. false) n m) (λ h. (some_out (λ k. false) n m h).3)
  where
    go : (b : Bool) → (b ≡ true → false ≡ true) → b ≡ false
    go true f = absurd (false≢true (f refl))
    go false f = refl

not_and : (a b : Bool) → (not a || not b) ≡ not (a && b)
not_and true b = refl
not_and false b = refl

not_or : (a b : Bool) → (not a && not b) ≡ not (a || b)
not_or true b = refl
not_or false b = refl

not_not : (a : Bool) → a ≡ not (not a)
not_not true = refl
not_not false = refl

not_implies : (a b : Bool) → (a && not b) ≡ not (not a || b)
not_implies true b = refl
not_implies false b = refl

not_equal : (a b : Bool) → ((a && not b) || (not a && b)) ≡ not ((a && b) || (not a && not b))
not_equal true true = refl
not_equal true false = refl
not_equal false true = refl
not_equal false false = refl

pub not_every : (P : ℕ → Bool) (n m : ℕ) → some (λ k. not (P k)) n m ≡ not (every P n m)
not_every P zero zero = refl
not_every P zero (suc m) = ap (λ b. not (P 0) || b) (not_every (λ k. P (suc k)) 0 m) ∙ not_and (P 0) (every (λ k. P (suc k)) 0 m)
not_every P (suc n) zero = refl
not_every P (suc n) (suc m) = not_every (λ k. P (suc k)) n m

pub not_some : (P : ℕ → Bool) (n m : ℕ) → every (λ k. not (P k)) n m ≡ not (some P n m)
not_some P zero zero = refl
not_some P zero (suc m) = ap (λ b. not (P 0) && b) (not_some (λ k. P (suc k)) 0 m) ∙ not_or (P 0) (some (λ k. P (suc k)) 0 m)
not_some P (suc n) zero = refl
not_some P (suc n) (suc m) = not_some (λ k. P (suc k)) n m

-- ── the simplifying X, G and F mean the same ──
module _ (σ : ℕ → Reading) where
  pub holds_next : (n : ℕ) (f : Formula) → holds σ (next_of n f) ≡ holds (from n σ) f
  holds_next n f = go (kind f) (kind_ok f)
    where
      go : (k : Kind) → KindOk f k → holds σ (unless_constant k (next n f)) ≡ holds (from n σ) f
      go is_bot p = rw p
      go is_top p = rw p
      go other p = refl

  pub holds_always : (n m : ℕ) (f : Formula) → n ≤ m → holds σ (always_of n m f) ≡ every (λ k. holds (from k σ) f) n m
  holds_always n m f l = go (kind f) (kind_ok f)
    where
      go : (k : Kind) → KindOk f k → holds σ (unless_constant k (always n m f)) ≡ every (λ k. holds (from k σ) f) n m
      go is_bot p = rw p (sym (every_false n m l))
      go is_top p = rw p (sym (every_true n m))
      go other p = refl

  pub holds_eventually : (n m : ℕ) (f : Formula) → n ≤ m → holds σ (eventually_of n m f) ≡ some (λ k. holds (from k σ) f) n m
  holds_eventually n m f l = go (kind f) (kind_ok f)
    where
      go : (k : Kind) → KindOk f k → holds σ (unless_constant k (eventually n m f)) ≡ some (λ k. holds (from k σ) f) n m
      go is_bot p = rw p (sym (some_false n m))
      go is_top p = rw p (sym (some_true n m l))
      go other p = refl

-- ── the two normal forms are opposite ──
-- each reading of the sequence counts exactly one of v and -v as true
abbrev pub Exact : (ℕ → Reading) → Type 0
Exact σ = (k i : ℕ) → σ k false i ≡ not (σ k true i)

exact_from : (σ : ℕ → Reading) → Exact σ → (n : ℕ) → Exact (from n σ)
exact_from σ e n k i =
    ap (λ (R : Reading). R false i) (from_at n σ k) ∙ e (n + k) i ∙ ap (λ (R : Reading). not (R true i)) (sym (from_at n σ k))

pub opposite : (w : Written) (σ : ℕ → Reading) → Exact σ → Ordered w → holds σ (normal false w) ≡ not (holds σ (normal true w))
opposite falsity σ e o = refl
opposite truth σ e o = refl
opposite (variable i) σ e o = e 0 i
opposite (negation w) σ e o = not_not (holds σ (normal true w)) ∙ ap not (sym (opposite w σ e o))
opposite (later n w) σ e o =
    holds_next σ n (normal false w) ∙ opposite w (from n σ) (exact_from σ e n) o ∙ ap not (sym (holds_next σ n (normal true w)))
opposite (throughout n m w) σ e o =
    holds_eventually σ n m (normal false w) o.0
    ∙ some_same (λ k. holds (from k σ) (normal false w)) (λ k. not (holds (from k σ) (normal true w)))
    (λ k. opposite w (from k σ) (exact_from σ e k) o.1) n m
    ∙ not_every (λ k. holds (from k σ) (normal true w)) n m
    ∙ ap not (sym (holds_always σ n m (normal true w) o.0))
opposite (within n m w) σ e o =
    holds_always σ n m (normal false w) o.0
    ∙ every_same (λ k. holds (from k σ) (normal false w)) (λ k. not (holds (from k σ) (normal true w)))
    (λ k. opposite w (from k σ) (exact_from σ e k) o.1) n m
    ∙ not_some (λ k. holds (from k σ) (normal true w)) n m
    ∙ ap not (sym (holds_eventually σ n m (normal true w) o.0))
opposite (conjunction w v) σ e o =
    sym (holds_disjoin σ (normal false w) (normal false v)) ∙ ap₂ ◌||◌ (opposite w σ e o.0) (opposite v σ e o.1)
    ∙ not_and (holds σ (normal true w)) (holds σ (normal true v)) ∙ ap not (holds_conjoin σ (normal true w) (normal true v))
opposite (disjunction w v) σ e o =
    sym (holds_conjoin σ (normal false w) (normal false v)) ∙ ap₂ ◌&&◌ (opposite w σ e o.0) (opposite v σ e o.1)
    ∙ not_or (holds σ (normal true w)) (holds σ (normal true v)) ∙ ap not (holds_disjoin σ (normal true w) (normal true v))
opposite (implication w v) σ e o =
    sym (holds_conjoin σ (normal true w) (normal false v)) ∙ ap (λ b. holds σ (normal true w) && b) (opposite v σ e o.1)
    ∙ not_implies (holds σ (normal true w)) (holds σ (normal true v))
    ∙ ap (λ b. not (b || holds σ (normal true v))) (sym (opposite w σ e o.0))
    ∙ ap not (holds_disjoin σ (normal false w) (normal true v))
opposite (equivalence w v) σ e o =
    sym (holds_disjoin σ (conjoin (normal true w) (normal false v)) (conjoin (normal false w) (normal true v)))
    ∙ ap₂ ◌||◌ (sym (holds_conjoin σ (normal true w) (normal false v))) (sym (holds_conjoin σ (normal false w) (normal true v)))
    ∙ ap₂ (λ a b. (holds σ (normal true w) && b) || (a && holds σ (normal true v))) (opposite w σ e o.0) (opposite v σ e o.1)
    ∙ not_equal (holds σ (normal true w)) (holds σ (normal true v))
    ∙ ap₂ (λ a b. not ((holds σ (normal true w) && holds σ (normal true v)) || (a && b))) (sym (opposite w σ e o.0))
    (sym (opposite v σ e o.1))
    ∙ ap not (ap₂ ◌||◌ (holds_conjoin σ (normal true w) (normal true v)) (holds_conjoin σ (normal false w) (normal false v))
    ∙ holds_disjoin σ (conjoin (normal true w) (normal true v)) (conjoin (normal false w) (normal false v)))

-- ── the normal form tells what the formula says ──
pub from_from : {A : Type 0} (t n : ℕ) (σ : ℕ → A) → from n (from t σ) ≡ from (t + n) σ
from_from t n σ = λ j k. (from_at n (from t σ) k ∙ from_at t σ (n + k) ∙ ap σ (shift k) ∙ sym (from_at (t + n) σ k)) j
  where
    shift : (k : ℕ) → t + (n + k) ≡ (t + n) + k
    shift k = omega arith

-- a test that is another
pub as_tells : {P : Type 0} {a b : Bool} → a ≡ b → Tells b P → Tells a P
as_tells {P} e t = subst (λ c. Tells c P) (sym e) t

module _ (σ : ℕ → Valuation) where
  abbrev seen : ℕ → ℕ → Reading
  seen t = from t (λ k. exactly (σ k))

  beq_not : (b : Bool) → beq b false ≡ not (beq b true)
  beq_not true = refl
  beq_not false = refl

  seen_exact : (t : ℕ) → Exact (seen t)
  seen_exact t = exact_from (λ k. exactly (σ k)) (λ k i. beq_not (σ k i)) t

  beq_tells : (b : Bool) → Tells (beq b true) (b ≡ true)
  beq_tells true = ((λ h. refl), (λ h. refl))
  beq_tells false = ((λ h. h), (λ h. h))

  at_later : (t n : ℕ) (f : Formula) → holds (from n (seen t)) f ≡ holds (seen (t + n)) f
  at_later t n f = ap (λ (τ : ℕ → Reading). holds τ f) (from_from t n (λ k. exactly (σ k)))

  -- from the normal form of w to that of its negation
  says_not : (w : Written) (t : ℕ) → Ordered w → Tells (holds (seen t) (normal true w)) (Says σ t w)
      → Tells (holds (seen t) (normal false w)) (Says σ t w → ⊥)
  says_not w t o p = as_tells (opposite w (seen t) (seen_exact t) o) (not_tells (holds (seen t) (normal true w)) p)

  pub says_true : (w : Written) (t : ℕ) → Ordered w → Tells (holds (seen t) (normal true w)) (Says σ t w)
  says_true falsity t o = ((λ h. absurd (false≢true h)), (λ h. absurd h))
  says_true truth t o = ((λ h. tt), (λ h. refl))
  says_true (variable i) t o =
      let z : t + 0 ≡ t = omega arith in
      as_tells (ap (λ (R : Reading). R true i) (from_at t (λ k. exactly (σ k)) 0 ∙ ap (λ k. exactly (σ k)) z)) (beq_tells (σ t i))
  says_true (negation w) t o = says_not w t o (says_true w t o)
  says_true (later n w) t o = as_tells (holds_next (seen t) n (normal true w) ∙ at_later t n (normal true w)) (says_true w (t + n) o)
  says_true (throughout n m w) t o = as_tells (holds_always (seen t) n m (normal true w) o.0) (
    (λ h k a b. (says_true w (t + k) o.1).0
        (sym (at_later t k (normal true w)) ∙ every_out (λ k. holds (from k (seen t)) (normal true w)) n m h k a b)),
    (λ h. every_in (λ k. holds (from k (seen t)) (normal true w)) n m
        (λ k a b. at_later t k (normal true w) ∙ (says_true w (t + k) o.1).1 (h k a b))),
  )
  says_true (within n m w) t o = as_tells (holds_eventually (seen t) n m (normal true w) o.0) (
    (λ h. let r = some_out (λ k. holds (from k (seen t)) (normal true w)) n m h in
        (r.0, r.1, r.2, (says_true w (t + r.0) o.1).0 (sym (at_later t r.0 (normal true w)) ∙ r.3))),
    (λ h. some_in (λ k. holds (from k (seen t)) (normal true w)) n m h.0 h.1 h.2
        (at_later t h.0 (normal true w) ∙ (says_true w (t + h.0) o.1).1 h.3)),
  )
  says_true (conjunction w v) t o =
      as_tells (sym (holds_conjoin (seen t) (normal true w) (normal true v)))
      (and_tells (holds (seen t) (normal true w)) (holds (seen t) (normal true v)) (says_true w t o.0) (says_true v t o.1))
  says_true (disjunction w v) t o =
      as_tells (sym (holds_disjoin (seen t) (normal true w) (normal true v)))
      (or_tells (holds (seen t) (normal true w)) (holds (seen t) (normal true v)) (says_true w t o.0) (says_true v t o.1))
  says_true (implication w v) t o =
      as_tells (sym (holds_disjoin (seen t) (normal false w) (normal true v)) ∙ ap (λ b. b || holds (seen t) (normal true v))
      (opposite w (seen t) (seen_exact t) o.0))
      (implies_tells (holds (seen t) (normal true w)) (holds (seen t) (normal true v)) (says_true w t o.0) (says_true v t o.1))
  says_true (equivalence w v) t o =
      as_tells (sym (holds_disjoin (seen t) (conjoin (normal true w) (normal true v)) (conjoin (normal false w) (normal false v)))
      ∙ ap₂ ◌||◌ (sym (holds_conjoin (seen t) (normal true w) (normal true v)))
      (sym (holds_conjoin (seen t) (normal false w) (normal false v)))
      ∙ ap₂ (λ a b. (holds (seen t) (normal true w) && holds (seen t) (normal true v)) || (a && b))
      (opposite w (seen t) (seen_exact t) o.0) (opposite v (seen t) (seen_exact t) o.1))
      (equal_tells (holds (seen t) (normal true w)) (holds (seen t) (normal true v)) (says_true w t o.0) (says_true v t o.1))

  pub says_false : (w : Written) (t : ℕ) → Ordered w → Tells (holds (seen t) (normal false w)) (Says σ t w → ⊥)
  says_false w t o = says_not w t o (says_true w t o)

-- ── fine ──
module _ (ne ns : ℕ) where
  abbrev pub Good : Formula → Type 0
  Good f = Fine ne ns f

  pub conjoin_fine : (f g : Formula) → Good f → Good g → Good (conjoin f g)
  conjoin_fine f g a b = go (kind f) (kind g) (kind_ok f) (kind_ok g)
    where
      go : (k l : Kind) → KindOk f k → KindOk g l → Good (conjoin_by k l f g)
      go is_bot l p q = tt
      go is_top l p q = b
      go other is_bot p q = tt
      go other is_top p q = a
      go other other p q = ((p, a), (q, b))

  pub disjoin_fine : (f g : Formula) → Good f → Good g → Good (disjoin f g)
  disjoin_fine f g a b = go (kind f) (kind g) (kind_ok f) (kind_ok g)
    where
      go : (k l : Kind) → KindOk f k → KindOk g l → Good (disjoin_by k l f g)
      go is_bot l p q = b
      go is_top l p q = tt
      go other is_bot p q = a
      go other is_top p q = tt
      go other other p q = ((p, a), (q, b))

  unless_fine : (f w : Formula) → (kind f ≡ other → Good w) → Good (unless_constant (kind f) w)
  unless_fine f w h = go (kind f) (kind_ok f)
    where
      go : (k : Kind) → KindOk f k → Good (unless_constant k w)
      go is_bot p = tt
      go is_top p = tt
      go other p = h p

  pub next_fine : (n : ℕ) (f : Formula) → (1 ≤ n) × (n ≤ 4095) → Good f → Good (next_of n f)
  next_fine n f l a = unless_fine f (next n f) (λ k. (l, (k, a)))

  pub always_fine : (n m : ℕ) (f : Formula) → (n ≤ m) × (m ≤ 4095) → Good f → Good (always_of n m f)
  always_fine n m f l a = unless_fine f (always n m f) (λ k. (l, (k, a)))

  pub eventually_fine : (n m : ℕ) (f : Formula) → (n ≤ m) × (m ≤ 4095) → Good f → Good (eventually_of n m f)
  eventually_fine n m f l a = unless_fine f (eventually n m f) (λ k. (l, (k, a)))

  constant_fine : (b : Bool) → Good (constant b)
  constant_fine true = tt
  constant_fine false = tt

  -- what is left after a step is in normal form
  pub rest_fine : (R : Reading) (f : Formula) → Good f → Good (rest R f)
  rest_fine R bot h = tt
  rest_fine R top h = tt
  rest_fine R (lit s i) h = constant_fine (R s i)
  rest_fine R (conj f g) h = conjoin_fine (rest R f) (rest R g) (rest_fine R f h.0.1) (rest_fine R g h.1.1)
  rest_fine R (disj f g) h = disjoin_fine (rest R f) (rest R g) (rest_fine R f h.0.1) (rest_fine R g h.1.1)
  rest_fine R (next zero f) h = rest_fine R f h.1.1
  rest_fine R (next (suc zero) f) h = h.1.1
  rest_fine R (next (suc (suc n)) f) h = let l = h.0.1 in ((omega arith, omega arith), h.1)
  rest_fine R (always zero zero f) h = rest_fine R f h.1.1
  rest_fine R (always zero (suc m) f) h =
      let l = h.0.1 in conjoin_fine (rest R f) (always zero m f) (rest_fine R f h.1.1) ((omega arith, omega arith), h.1)
  rest_fine R (always (suc n) zero f) h = tt
  rest_fine R (always (suc n) (suc m) f) h = let k = h.0.0 in let l = h.0.1 in ((omega arith, omega arith), h.1)
  rest_fine R (eventually zero zero f) h = rest_fine R f h.1.1
  rest_fine R (eventually zero (suc m) f) h =
      let l = h.0.1 in disjoin_fine (rest R f) (eventually zero m f) (rest_fine R f h.1.1) ((omega arith, omega arith), h.1)
  rest_fine R (eventually (suc n) zero f) h = tt
  rest_fine R (eventually (suc n) (suc m) f) h = let k = h.0.0 in let l = h.0.1 in ((omega arith, omega arith), h.1)

  pub normal_fine : (w : Written) (b : Bool) → WrittenFine ne ns w → Good (normal b w)
  normal_fine falsity true h = tt
  normal_fine falsity false h = tt
  normal_fine truth true h = tt
  normal_fine truth false h = tt
  normal_fine (variable i) true h = h
  normal_fine (variable i) false h = h
  normal_fine (negation w) true h = normal_fine w false h
  normal_fine (negation w) false h = normal_fine w true h
  normal_fine (later n w) true h = next_fine n (normal true w) h.0 (normal_fine w true h.1)
  normal_fine (later n w) false h = next_fine n (normal false w) h.0 (normal_fine w false h.1)
  normal_fine (throughout n m w) true h = always_fine n m (normal true w) h.0 (normal_fine w true h.1)
  normal_fine (throughout n m w) false h = eventually_fine n m (normal false w) h.0 (normal_fine w false h.1)
  normal_fine (within n m w) true h = eventually_fine n m (normal true w) h.0 (normal_fine w true h.1)
  normal_fine (within n m w) false h = always_fine n m (normal false w) h.0 (normal_fine w false h.1)
  normal_fine (conjunction w v) true h =
      conjoin_fine (normal true w) (normal true v) (normal_fine w true h.0) (normal_fine v true h.1)
  normal_fine (conjunction w v) false h =
      disjoin_fine (normal false w) (normal false v) (normal_fine w false h.0) (normal_fine v false h.1)
  normal_fine (disjunction w v) true h =
      disjoin_fine (normal true w) (normal true v) (normal_fine w true h.0) (normal_fine v true h.1)
  normal_fine (disjunction w v) false h =
      conjoin_fine (normal false w) (normal false v) (normal_fine w false h.0) (normal_fine v false h.1)
  normal_fine (implication w v) true h =
      disjoin_fine (normal false w) (normal true v) (normal_fine w false h.0) (normal_fine v true h.1)
  normal_fine (implication w v) false h =
      conjoin_fine (normal true w) (normal false v) (normal_fine w true h.0) (normal_fine v false h.1)
  normal_fine (equivalence w v) true h =
      disjoin_fine (conjoin (normal true w) (normal true v)) (conjoin (normal false w) (normal false v))
      (conjoin_fine (normal true w) (normal true v) (normal_fine w true h.0) (normal_fine v true h.1))
      (conjoin_fine (normal false w) (normal false v) (normal_fine w false h.0) (normal_fine v false h.1))
  normal_fine (equivalence w v) false h =
      disjoin_fine (conjoin (normal true w) (normal false v)) (conjoin (normal false w) (normal true v))
      (conjoin_fine (normal true w) (normal false v) (normal_fine w true h.0) (normal_fine v false h.1))
      (conjoin_fine (normal false w) (normal true v) (normal_fine w false h.0) (normal_fine v true h.1))

  pub fine_ordered : (w : Written) → WrittenFine ne ns w → Ordered w
  fine_ordered falsity h = tt
  fine_ordered truth h = tt
  fine_ordered (variable i) h = tt
  fine_ordered (negation w) h = fine_ordered w h
  fine_ordered (later n w) h = fine_ordered w h.1
  fine_ordered (throughout n m w) h = (h.0.0, fine_ordered w h.1)
  fine_ordered (within n m w) h = (h.0.0, fine_ordered w h.1)
  fine_ordered (conjunction w v) h = (fine_ordered w h.0, fine_ordered v h.1)
  fine_ordered (disjunction w v) h = (fine_ordered w h.0, fine_ordered v h.1)
  fine_ordered (implication w v) h = (fine_ordered w h.0, fine_ordered v h.1)
  fine_ordered (equivalence w v) h = (fine_ordered w h.0, fine_ordered v h.1)
