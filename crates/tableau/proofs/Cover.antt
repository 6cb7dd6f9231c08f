-- What a set holds and covers: where its members hold, everything that it covers holds, for any sequence of readings;
-- and only the set of members counts.
use Rattle.std.proofs.Common.{◌≡◌, ℕ, ◌≤◌, Bool, true, ◌&&◌, ◌||◌, leb, ◌⊎◌, List, [], ◌∷◌, refl, inl, inr, arith}
use mathlib.Core.Bool.{false≢true}
use Rattle.temporal.specs.Formula.{Formula, bot, top, lit, conj, disj, next, always, eventually, Reading, from, holds, shape, same}
use Rattle.temporal.specs.Parts.{◌∈◌, first, later, member}
use Rattle.temporal.proofs.Truth.{and_out, and_in, or_out, or_in, every_out, every_in, some_out, some_in}
use Rattle.temporal.proofs.Lists.{in_append, in_left, in_right, one_member, cast}
use Rattle.temporal.proofs.Tells.{and_tells, le_tells}
use Rattle.temporal.proofs.Same.{same_tells, member_tells}
use Rattle.tableau.specs.Lists.{any}
use Rattle.tableau.specs.Cover.{conjuncts, held, wider, inner, plainly, covers}
use Rattle.tableau.proofs.Tests.{any_out, any_in}

-- ── held ──
-- a member holds itself
pub own_conjunct : (f : Formula) → f ∈ conjuncts f
own_conjunct bot = first
own_conjunct top = first
own_conjunct (lit s i) = first
own_conjunct (conj f g) = first
own_conjunct (disj f g) = first
own_conjunct (next n f) = first
own_conjunct (always n m f) = first
own_conjunct (eventually n m f) = first

pub conjunct_held : (S : List Formula) (f g : Formula) → f ∈ S → g ∈ conjuncts f → g ∈ held S
conjunct_held [] f g m i = elim m [ ]
conjunct_held (h ∷ S) f g first i = in_left (conjuncts f) (held S) g i
conjunct_held (h ∷ S) f g (later m) i = in_right (conjuncts h) (held S) g (conjunct_held S f g m i)

pub member_held : (S : List Formula) (f : Formula) → f ∈ S → f ∈ held S
member_held S f m = conjunct_held S f f m (own_conjunct f)

pub held_member : (S : List Formula) (g : Formula) → g ∈ held S → (f : Formula) × (f ∈ S) × (g ∈ conjuncts f)
held_member [] g m = elim m [ ]
held_member (f ∷ S) g m = go (in_append (conjuncts f) (held S) g m) (held_member S g)
  where
    go : (g ∈ conjuncts f) ⊎ (g ∈ held S) → (g ∈ held S → (h : Formula) × (h ∈ S) × (g ∈ conjuncts h))
        → (h : Formula) × (h ∈ (f ∷ S)) × (g ∈ conjuncts h)
    go (inl i) ih = (f, first, i)
    go (inr i) ih = let r = ih i in (r.0, later r.1, r.2)

-- ── what the tests say ──
-- h is G of f over the range i to j, which includes n to m
pub record Wider (n m : ℕ) (f h : Formula) : Type 0 where
  pub i : ℕ
  pub j : ℕ
  pub is : h ≡ always i j f
  pub low : i ≤ n
  pub high : m ≤ j

pub record Inner (n m : ℕ) (f h : Formula) : Type 0 where
  pub i : ℕ
  pub j : ℕ
  pub is : h ≡ eventually i j f
  pub low : n ≤ i
  pub high : j ≤ m

wider_out : (n m : ℕ) (f h : Formula) → wider n m f h ≡ true → Wider n m f h
wider_out n m f h e =
    let i = (shape h).lower in let j = (shape h).upper in
    let r = (and_tells (same h (always i j f)) (leb i n && leb m j) (same_tells h (always i j f))
    (and_tells (leb i n) (leb m j) (le_tells i n) (le_tells m j))).0 e in
    record { i = i; j = j; is = r.0; low = r.1.0; high = r.1.1 }

inner_out : (n m : ℕ) (f h : Formula) → inner n m f h ≡ true → Inner n m f h
inner_out n m f h e =
    let i = (shape h).lower in let j = (shape h).upper in
    let r = (and_tells (same h (eventually i j f)) (leb n i && leb j m) (same_tells h (eventually i j f))
    (and_tells (leb n i) (leb j m) (le_tells n i) (le_tells j m))).0 e in
    record { i = i; j = j; is = r.0; low = r.1.0; high = r.1.1 }

-- ── false or the formula itself is held ──
pub plainly_out : (S : List Formula) (f : Formula) → plainly S f ≡ true → (bot ∈ held S) ⊎ (f ∈ held S)
plainly_out S f h = elim (or_out (member bot (held S)) (member f (held S)) h)
    [ inl a ↦ inl ((member_tells bot (held S)).0 a) | inr b ↦ inr ((member_tells f (held S)).0 b) ]

plainly_in : (S : List Formula) (f : Formula) → (bot ∈ held S) ⊎ (f ∈ held S) → plainly S f ≡ true
plainly_in S f h = or_in (member bot (held S)) (member f (held S))
    (elim h [ inl a ↦ inl ((member_tells bot (held S)).1 a) | inr b ↦ inr ((member_tells f (held S)).1 b) ])

-- then it is covered
pub covers_plainly : (S : List Formula) (f : Formula) → (bot ∈ held S) ⊎ (f ∈ held S) → covers S f ≡ true
covers_plainly S bot h = plainly_in S bot h
covers_plainly S top h = refl
covers_plainly S (lit s i) h = plainly_in S (lit s i) h
covers_plainly S (conj f g) h = or_in (plainly S (conj f g)) _ (inl (plainly_in S (conj f g) h))
covers_plainly S (disj f g) h = or_in (plainly S (disj f g)) _ (inl (plainly_in S (disj f g) h))
covers_plainly S (next n f) h = plainly_in S (next n f) h
covers_plainly S (always n m f) h = or_in (plainly S (always n m f)) _ (inl (plainly_in S (always n m f) h))
covers_plainly S (eventually n m f) h = or_in (plainly S (eventually n m f)) _ (inl (plainly_in S (eventually n m f) h))

pub covers_false : (S : List Formula) (f : Formula) → bot ∈ held S → covers S f ≡ true
covers_false S f m = covers_plainly S f (inl m)

pub covers_member : (S : List Formula) (f : Formula) → f ∈ S → covers S f ≡ true
covers_member S f m = covers_plainly S f (inr (member_held S f m))

-- ── more members hold and cover more ──
module _ (S T : List Formula) (sub : (h : Formula) → h ∈ S → h ∈ T) where
  pub held_more : (g : Formula) → g ∈ held S → g ∈ held T
  held_more g m = let r = held_member S g m in conjunct_held T r.0 g (sub r.0 r.1) r.2

  plainly_more : (f : Formula) → plainly S f ≡ true → plainly T f ≡ true
  plainly_more f h = plainly_in T f (elim (plainly_out S f h) [ inl a ↦ inl (held_more bot a) | inr b ↦ inr (held_more f b) ])

  any_more : (p : Formula → Bool) → any p (held S) ≡ true → any p (held T) ≡ true
  any_more p h = let r = any_out p (held S) h in any_in p (held T) r.0 (held_more r.0 r.1) r.2

  -- a disjunction of tests, part by part
  or_more : (a b c d : Bool) → (a ≡ true → c ≡ true) → (b ≡ true → d ≡ true) → (a || b) ≡ true → (c || d) ≡ true
  or_more a b c d f g h = or_in c d (elim (or_out a b h) [ inl x ↦ inl (f x) | inr y ↦ inr (g y) ])

  pub covers_more : (f : Formula) → covers S f ≡ true → covers T f ≡ true
  covers_more bot h = plainly_more bot h
  covers_more top h = refl
  covers_more (lit s i) h = plainly_more (lit s i) h
  covers_more (conj f g) h =
      or_more (plainly S (conj f g)) (covers S f && covers S g) (plainly T (conj f g)) (covers T f && covers T g)
      (plainly_more (conj f g))
      (λ x. let p = and_out (covers S f) (covers S g) x in and_in (covers T f) (covers T g) (covers_more f p.0) (covers_more g p.1)) h
  covers_more (disj f g) h =
      or_more (plainly S (disj f g)) (covers S f || covers S g) (plainly T (disj f g)) (covers T f || covers T g)
      (plainly_more (disj f g))
      (or_more (covers S f) (covers S g) (covers T f) (covers T g) (covers_more f) (covers_more g)) h
  covers_more (next n f) h = plainly_more (next n f) h
  covers_more (always n m f) h =
      or_more (plainly S (always n m f)) (any (wider n m f) (held S)) (plainly T (always n m f)) (any (wider n m f) (held T))
      (plainly_more (always n m f)) (any_more (wider n m f)) h
  covers_more (eventually n m f) h =
      or_more (plainly S (eventually n m f)) (any (inner n m f) (held S)) (plainly T (eventually n m f)) (any (inner n m f) (held T))
      (plainly_more (eventually n m f)) (any_more (inner n m f)) h

-- ── soundness ──
module _ (σ : ℕ → Reading) where
  conjuncts_true : (f : Formula) → holds σ f ≡ true → (g : Formula) → g ∈ conjuncts f → holds σ g ≡ true
  conjuncts_true bot h g m = absurd (false≢true h)
  conjuncts_true top h g m = one_member top (λ x. holds σ x ≡ true) h g m
  conjuncts_true (lit s i) h g m = one_member (lit s i) (λ x. holds σ x ≡ true) h g m
  conjuncts_true (conj f k) h g first = h
  conjuncts_true (conj f k) h g (later m) =
      let p = and_out (holds σ f) (holds σ k) h in
      elim (in_append (conjuncts f) (conjuncts k) g m)
      [ inl a ↦ conjuncts_true f p.0 g a | inr b ↦ conjuncts_true k p.1 g b ]
  conjuncts_true (disj f k) h g m = one_member (disj f k) (λ x. holds σ x ≡ true) h g m
  conjuncts_true (next n f) h g m = one_member (next n f) (λ x. holds σ x ≡ true) h g m
  conjuncts_true (always n k f) h g m = one_member (always n k f) (λ x. holds σ x ≡ true) h g m
  conjuncts_true (eventually n k f) h g m = one_member (eventually n k f) (λ x. holds σ x ≡ true) h g m

  module _ (S : List Formula) (all : (h : Formula) → h ∈ S → holds σ h ≡ true) where
    pub held_true : (g : Formula) → g ∈ held S → holds σ g ≡ true
    held_true g m = let r = held_member S g m in conjuncts_true r.0 (all r.0 r.1) g r.2

    plainly_true : (f : Formula) → plainly S f ≡ true → holds σ f ≡ true
    plainly_true f h = elim (plainly_out S f h) [ inl a ↦ absurd (false≢true (held_true bot a)) | inr b ↦ held_true f b ]

    pub covers_true : (f : Formula) → covers S f ≡ true → holds σ f ≡ true
    covers_true bot h = plainly_true bot h
    covers_true top h = refl
    covers_true (lit s i) h = plainly_true (lit s i) h
    covers_true (conj f g) h = elim (or_out (plainly S (conj f g)) (covers S f && covers S g) h) [
      | inl x ↦ plainly_true (conj f g) x
      | inr y ↦ let p = and_out (covers S f) (covers S g) y in
          and_in (holds σ f) (holds σ g) (covers_true f p.0) (covers_true g p.1)
    ]
    covers_true (disj f g) h = elim (or_out (plainly S (disj f g)) (covers S f || covers S g) h) [
      | inl x ↦ plainly_true (disj f g) x
      | inr y ↦ or_in (holds σ f) (holds σ g) (elim (or_out (covers S f) (covers S g) y)
          [ inl p ↦ inl (covers_true f p) | inr q ↦ inr (covers_true g q) ])
    ]
    covers_true (next n f) h = plainly_true (next n f) h
    covers_true (always n m f) h = elim (or_out (plainly S (always n m f)) (any (wider n m f) (held S)) h) [
      | inl x ↦ plainly_true (always n m f) x
      | inr y ↦ let r = any_out (wider n m f) (held S) y in let u = wider_out n m f r.0 r.2 in
          let g = held_true (always u.i u.j f) (cast u.is r.1) in
          every_in (λ k. holds (from k σ) f) n m
          (λ k c d. every_out (λ k. holds (from k σ) f) u.i u.j g k (omega (arith, u.low)) (omega (arith, u.high)))
    ]
    covers_true (eventually n m f) h = elim (or_out (plainly S (eventually n m f)) (any (inner n m f) (held S)) h) [
      | inl x ↦ plainly_true (eventually n m f) x
      | inr y ↦ let r = any_out (inner n m f) (held S) y in let u = inner_out n m f r.0 r.2 in
          let g = held_true (eventually u.i u.j f) (cast u.is r.1) in
          let x = some_out (λ k. holds (from k σ) f) u.i u.j g in
          some_in (λ k. holds (from k σ) f) n m x.0 (omega (arith, u.low)) (omega (arith, u.high)) x.3
    ]
