-- The test of equality tells equality, and the test of membership membership.
use mathlib.Core.Path.{◌≡◌, refl, sym, ◌∙◌, ap}
use mathlib.Core.Logic.{inl, inr}
use mathlib.Core.Bool.{Bool, true, false, cond, ◌||◌, false≢true}
use mathlib.Core.List.{List, [], ◌∷◌}
use Prim.Native.Nat.{ℕ}
use lib.Dec.{eqb}
use Rattle.temporal.specs.Formula.{Formula, bot, top, lit, conj, disj, next, always, eventually, shape, same_operator, same}
use Rattle.temporal.specs.Parts.{◌∈◌, first, later, member}
use Rattle.temporal.proofs.Tells.{Tells, eq_tells, and_tells, or_tells, by_tells}
use Rattle.temporal.proofs.Lists.{cast, in_cons}

-- the formula of an operator, with variable v, bounds n and m, parts x and y
abbrev build : ℕ → ℕ → ℕ → ℕ → Formula → Formula → Formula
build k v n m x y =
    cond (eqb k 0) bot (cond (eqb k 1) top (cond (eqb k 2) (lit true v) (cond (eqb k 3) (lit false v) (cond (eqb k 4) (conj x y)
    (cond (eqb k 5) (disj x y) (cond (eqb k 6) (next n x) (cond (eqb k 7) (always n m x) (cond (eqb k 8) (eventually n m x) bot))))))))

-- a formula is built of its shape
rebuilt : (f : Formula)
    → build (shape f).operator (shape f).variable (shape f).lower (shape f).upper (shape f).left (shape f).right ≡ f
rebuilt bot = refl
rebuilt top = refl
rebuilt (lit true v) = refl
rebuilt (lit false v) = refl
rebuilt (conj f g) = refl
rebuilt (disj f g) = refl
rebuilt (next n f) = refl
rebuilt (always n m f) = refl
rebuilt (eventually n m f) = refl

abbrev Alike : Formula → Formula → Type 0
Alike f g =
    ((shape f).operator ≡ (shape g).operator) ×
    (((shape f).variable ≡ (shape g).variable) × (((shape f).lower ≡ (shape g).lower) × ((shape f).upper ≡ (shape g).upper)))

alike_tells : (f g : Formula) → Tells (same_operator f g) (Alike f g)
alike_tells f g =
    and_tells (eqb (shape f).operator (shape g).operator) _ (eq_tells _ _)
    (and_tells (eqb (shape f).variable (shape g).variable) _ (eq_tells _ _)
    (and_tells (eqb (shape f).lower (shape g).lower) _ (eq_tells _ _) (eq_tells _ _)))

-- alike, with the same parts: equal
joined : (f g : Formula) → Alike f g → (x y : Formula) → x ≡ (shape g).left → y ≡ (shape g).right
    → build (shape f).operator (shape f).variable (shape f).lower (shape f).upper x y ≡ g
joined f g a x y p q = (λ i. build (a.0 i) (a.1.0 i) (a.1.1.0 i) (a.1.1.1 i) (p i) (q i)) ∙ rebuilt g

like : (f g : Formula) → f ≡ g → Alike f g
like f g e = (ap (λ h. (shape h).operator) e, (ap (λ h. (shape h).variable) e, (ap (λ h. (shape h).lower) e, ap (λ h. (shape h).upper) e)))

left_of : (f g : Formula) → f ≡ g → (shape f).left ≡ (shape g).left
left_of f g e = ap (λ h. (shape h).left) e

right_of : (f g : Formula) → f ≡ g → (shape f).right ≡ (shape g).right
right_of f g e = ap (λ h. (shape h).right) e

-- a formula without parts
leaf_tells : (f g : Formula)
    → build (shape f).operator (shape f).variable (shape f).lower (shape f).upper (shape g).left (shape g).right ≡ f
    → Tells (same_operator f g) (f ≡ g)
leaf_tells f g e =
    by_tells (same_operator f g) (alike_tells f g) (λ a. sym e ∙ joined f g a (shape g).left (shape g).right refl refl) (like f g)

pub same_tells : (f g : Formula) → Tells (same f g) (f ≡ g)
same_tells bot g = leaf_tells bot g refl
same_tells top g = leaf_tells top g refl
same_tells (lit true v) g = leaf_tells (lit true v) g refl
same_tells (lit false v) g = leaf_tells (lit false v) g refl
same_tells (conj f h) g =
    by_tells (same (conj f h) g)
    (and_tells (same_operator (conj f h) g) _ (alike_tells (conj f h) g)
    (and_tells (same f (shape g).left) _ (same_tells f (shape g).left) (same_tells h (shape g).right)))
    (λ a. joined (conj f h) g a.0 f h a.1.0 a.1.1)
    (λ e. (like (conj f h) g e, (left_of (conj f h) g e, right_of (conj f h) g e)))
same_tells (disj f h) g =
    by_tells (same (disj f h) g)
    (and_tells (same_operator (disj f h) g) _ (alike_tells (disj f h) g)
    (and_tells (same f (shape g).left) _ (same_tells f (shape g).left) (same_tells h (shape g).right)))
    (λ a. joined (disj f h) g a.0 f h a.1.0 a.1.1)
    (λ e. (like (disj f h) g e, (left_of (disj f h) g e, right_of (disj f h) g e)))
same_tells (next n f) g =
    by_tells (same (next n f) g) (and_tells (same_operator (next n f) g) _ (alike_tells (next n f) g) (same_tells f (shape g).left))
    (λ a. joined (next n f) g a.0 f (shape g).right a.1 refl) (λ e. (like (next n f) g e, left_of (next n f) g e))
same_tells (always n m f) g =
    by_tells (same (always n m f) g)
    (and_tells (same_operator (always n m f) g) _ (alike_tells (always n m f) g) (same_tells f (shape g).left))
    (λ a. joined (always n m f) g a.0 f (shape g).right a.1 refl) (λ e. (like (always n m f) g e, left_of (always n m f) g e))
same_tells (eventually n m f) g =
    by_tells (same (eventually n m f) g)
    (and_tells (same_operator (eventually n m f) g) _ (alike_tells (eventually n m f) g) (same_tells f (shape g).left))
    (λ a. joined (eventually n m f) g a.0 f (shape g).right a.1 refl)
    (λ e. (like (eventually n m f) g e, left_of (eventually n m f) g e))

pub same_sound : (f g : Formula) → same f g ≡ true → f ≡ g
same_sound f g = (same_tells f g).0

pub same_refl : (f : Formula) → same f f ≡ true
same_refl f = (same_tells f f).1 refl

pub formula_dec : (f g : Formula) → Dec (f ≡ g)
formula_dec f g = go (same f g) (same_tells f g)
  where
    go : (b : Bool) → Tells b (f ≡ g) → Dec (f ≡ g)
    go true t = yes (t.0 refl)
    go false t = no (λ e. false≢true (t.1 e))

-- ── membership ──
pub member_tells : (f : Formula) (ys : List Formula) → Tells (member f ys) (f ∈ ys)
member_tells f [] = ((λ h. absurd (false≢true h)), (λ m. elim m [ ]))
member_tells f (y ∷ ys) =
    by_tells (same f y || member f ys) (or_tells (same f y) (member f ys) (same_tells f y) (member_tells f ys))
    (λ s. elim s [ inl e ↦ cast (sym e) first | inr m ↦ later m ]) (λ m. in_cons m)

pub dec_member : (f : Formula) (ys : List Formula) → Dec (f ∈ ys)
dec_member f ys = go (member f ys) (member_tells f ys)
  where
    go : (b : Bool) → Tells b (f ∈ ys) → Dec (f ∈ ys)
    go true t = yes (t.0 refl)
    go false t = no (λ m. false≢true (t.1 m))
