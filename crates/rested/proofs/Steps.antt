-- The rests of X, G and F, and of an entry from those before it.
use Rattle.std.proofs.Common.{◌≡◌, ℕ, zero, suc, ◌-◌, ◌<◌, ◌≤◌, List, [], ◌∷◌, ◌++◌, length, get_or, Some, None, Option, sym, refl, ◌∙◌, subst, arith}
use Rattle.temporal.specs.Formula.{Formula, bot, next, Reading, rest}
use Rattle.tableau.specs.Met.{met}
use Rattle.index.specs.declared.Slot.{Slot}
use Rattle.records.specs.declared.FormulaRecord.{FormulaRecord}
use Rattle.rested.specs.declared.key.FormulaKey.{FormulaKey}
use Rattle.records.specs.Table.{formulas_of}
use Rattle.formulas.specs.declared.junction.Junction.{Junction}
use Rattle.formulas.specs.declared.junction.Junction.TheVariants.{And, Or}
use Rattle.formulas.specs.Junctions.{join_of, range_of}
use Rattle.rested.specs.Listing.{Ready}
use Rattle.rested.specs.Rests.{Placed, Rested}
use Rattle.rested.specs.Steps.{JoinedBoth}
use Rattle.rested.proofs.Trees.{trees_long}
use Rattle.rested.proofs.Found.{operator_of}
use Rattle.rested.proofs.Placed.{rested_alone, rested_no_left, rested_no_right, rested_both}
use Rattle.rested.proofs.Placed.{rested_no_body, rested_no_shorter, rested_on}

-- ── X ──
pub next_now : (R : Reading) (ts : List Formula) (a n : ℕ) → a < length ts → 1 ≤ n → n ≤ 1
    → Rested R ts (next n (get_or ts a bot)) (Some a)
next_now R ts a zero la l h = absurd (omega arith)
next_now R ts a (suc zero) la l h = rested_alone R ts (next 1 (get_or ts a bot)) refl (Some a) (la, refl)
next_now R ts a (suc (suc n)) la l h = absurd (omega arith)

pub next_later : (R : Reading) (ts : List Formula) (f : Formula) (n : ℕ) (o : Option ℕ) → 1 < n
    → Placed ts (next (n - 1) f) o → Rested R ts (next n f) o
next_later R ts f zero o l p = absurd (omega arith)
next_later R ts f (suc zero) o l p = absurd (omega arith)
next_later R ts f (suc (suc n)) o l p =
    let e : suc (suc n) - 1 ≡ suc n = omega arith in
    rested_alone R ts (next (suc (suc n)) f) refl o (subst (λ (k : ℕ). Placed ts (next k f) o) e p)

-- ── G and F ──
-- the operator's rest joins the body's rest and the shorter range by `join`
pub record Ranged (R : Reading) (operator : ℕ → ℕ → Formula → Formula) (join : Formula → Formula → Formula) : Type 0 where
  pub later_met : (n m : ℕ) (f : Formula) → met R (operator (suc n) (suc m) f) ≡ rest R (operator (suc n) (suc m) f) ∷ []
  pub later_rest : (n m : ℕ) (f : Formula) → rest R (operator (suc n) (suc m) f) ≡ operator n m f
  pub on_met : (m : ℕ) (f : Formula) → met R (operator 0 (suc m) f) ≡ rest R (operator 0 (suc m) f) ∷ (operator 0 m f ∷ met R f)
  pub on_rest : (m : ℕ) (f : Formula) → rest R (operator 0 (suc m) f) ≡ join (rest R f) (operator 0 m f)

pub ranged : (R : Reading) (j : Junction) → Ranged R (range_of j) (join_of j)
ranged R And = record {
  later_met = λ n m f. refl;
  later_rest = λ n m f. refl;
  on_met = λ m f. refl;
  on_rest = λ m f. refl;
}
ranged R Or = record {
  later_met = λ n m f. refl;
  later_rest = λ n m f. refl;
  on_met = λ m f. refl;
  on_rest = λ m f. refl;
}

module _ (R : Reading) (operator : ℕ → ℕ → Formula → Formula) (join : Formula → Formula → Formula) (law : Ranged R operator join) where
  pub range_later : (ts : List Formula) (f : Formula) (n m : ℕ) (o : Option ℕ) → 0 < n → n ≤ m → Placed ts (operator (n - 1) (m - 1) f) o
      → Rested R ts (operator n m f) o
  range_later ts f zero m o l h p = absurd (omega arith)
  range_later ts f (suc n) zero o l h p = absurd (omega arith)
  range_later ts f (suc n) (suc m) o l h p =
      let d : suc n - 1 ≡ n = omega arith in
      let e : suc m - 1 ≡ m = omega arith in
      rested_alone R ts (operator (suc n) (suc m) f) (law.later_met n m f) o
      (subst (λ (t : Formula). Placed ts t o) ((λ i. operator (d i) (e i) f) ∙ sym (law.later_rest n m f)) p)

  module _ (rs : List FormulaRecord) (slots : List (Slot FormulaKey)) (ready : Ready rs slots) where
    shorter_on : (m : ℕ) (f : Formula) (x y r : Option ℕ) → Rested R (formulas_of rs) f x → Placed (formulas_of rs) (operator 0 m f) y
        → JoinedBoth join slots x y r → Rested R (formulas_of rs) (operator 0 (suc m) f) r
    shorter_on m f None y r p q e =
        subst (λ (o : Option ℕ). Rested R (formulas_of rs) (operator 0 (suc m) f) o) (sym e)
        (rested_no_body R (formulas_of rs) (operator 0 (suc m) f) f (operator 0 m f) join (law.on_met m f) (law.on_rest m f) p)
    shorter_on m f (Some x) None r p q e =
        subst (λ (o : Option ℕ). Rested R (formulas_of rs) (operator 0 (suc m) f) o) (sym e)
        (rested_no_shorter R (formulas_of rs) (operator 0 (suc m) f) f (operator 0 m f) join (law.on_met m f) (law.on_rest m f) q)
    shorter_on m f (Some x) (Some y) r p q j =
        let long = trees_long rs ready.listing in
        rested_on R (formulas_of rs) (operator 0 (suc m) f) f (operator 0 m f) join (law.on_met m f) (law.on_rest m f) x y r p q
        (j rs ready (omega (arith, p.1, long)) (omega (arith, q.0, long)))

    pub range_on : (n m : ℕ) (f : Formula) (x y r : Option ℕ) → n ≡ 0 → (m ≡ 0 → ⊥) → Rested R (formulas_of rs) f x
        → Placed (formulas_of rs) (operator 0 (m - 1) f) y → JoinedBoth join slots x y r → Rested R (formulas_of rs) (operator n m f) r
    range_on n zero f x y r z o p q j = absurd (o refl)
    range_on n (suc m) f x y r z o p q j =
        let e : suc m - 1 ≡ m = omega arith in
        subst (λ (k : ℕ). Rested R (formulas_of rs) (operator k (suc m) f) r) (sym z)
        (shorter_on m f x y r p (subst (λ (k : ℕ). Placed (formulas_of rs) (operator 0 k f) y) e q) j)

-- ── & and | ──
module _ (R : Reading) (j : Junction) (rs : List FormulaRecord) (slots : List (Slot FormulaKey)) (ready : Ready rs slots) where
  is_met : (j : Junction) (f g : Formula) → met R (operator_of j f g) ≡ rest R (operator_of j f g) ∷ (met R f ++ met R g)
  is_met And f g = refl
  is_met Or f g = refl

  is_rest : (j : Junction) (f g : Formula) → rest R (operator_of j f g) ≡ join_of j (rest R f) (rest R g)
  is_rest And f g = refl
  is_rest Or f g = refl

  pub pair_on : (f g : Formula) (x y r : Option ℕ) → Rested R (formulas_of rs) f x → Rested R (formulas_of rs) g y
      → JoinedBoth (join_of j) slots x y r → Rested R (formulas_of rs) (operator_of j f g) r
  pair_on f g None y r p q e =
      subst (λ (o : Option ℕ). Rested R (formulas_of rs) (operator_of j f g) o) (sym e)
      (rested_no_left R (formulas_of rs) (operator_of j f g) f g (join_of j) (is_met j f g) (is_rest j f g) p)
  pair_on f g (Some x) None r p q e =
      subst (λ (o : Option ℕ). Rested R (formulas_of rs) (operator_of j f g) o) (sym e)
      (rested_no_right R (formulas_of rs) (operator_of j f g) f g (join_of j) (is_met j f g) (is_rest j f g) q)
  pair_on f g (Some x) (Some y) r p q both =
      let long = trees_long rs ready.listing in
      rested_both R (formulas_of rs) (operator_of j f g) f g (join_of j) (is_met j f g) (is_rest j f g) x y r p q
      (both rs ready (omega (arith, p.1, long)) (omega (arith, q.1, long)))
