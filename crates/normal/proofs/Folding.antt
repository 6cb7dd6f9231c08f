-- The constant that a normal form is depends on the constants that the parts are.
use Rattle.std.proofs.Common.{◌≡◌, Bool, true, false, Some, None, Option, sym, refl, ap, ◌∙◌}
use Rattle.temporal.specs.Formula.{Formula, next, always, eventually}
use Rattle.temporal.specs.Formula.{Kind, is_bot, is_top, other, kind, conjoin_by, disjoin_by, unless_constant}
use Rattle.temporal.specs.Written.{Written, falsity, truth, variable, negation, later, throughout, within, normal}
use Rattle.temporal.specs.Written.{conjunction, disjunction, implication, equivalence}
use Rattle.formulas.specs.declared.junction.Junction.{Junction}
use Rattle.formulas.specs.declared.junction.Junction.TheVariants.{And, Or}
use Rattle.normal.specs.Constants.{known, junction, opposite, joint}

pub kind_unless : (k : Kind) (w : Formula) → kind w ≡ other → kind (unless_constant k w) ≡ k
kind_unless is_bot w e = refl
kind_unless is_top w e = refl
kind_unless other w e = e

pub kind_junction : (op : Junction) (f g : Formula) → known (kind (junction op f g)) ≡ joint op (known (kind f)) (known (kind g))
kind_junction And f g = go (kind f) (kind g) refl refl
  where
    go : (k l : Kind) → kind f ≡ k → kind g ≡ l → known (kind (conjoin_by k l f g)) ≡ joint And (known k) (known l)
    go is_bot l p q = refl
    go is_top l p q = ap known q
    go other is_bot p q = refl
    go other is_top p q = ap known p
    go other other p q = refl
kind_junction Or f g = go (kind f) (kind g) refl refl
  where
    go : (k l : Kind) → kind f ≡ k → kind g ≡ l → known (kind (disjoin_by k l f g)) ≡ joint Or (known k) (known l)
    go is_bot l p q = ap known q
    go is_top l p q = refl
    go other is_bot p q = ap known p
    go other is_top p q = refl
    go other other p q = refl

opposite_twice : (a : Option Bool) → a ≡ opposite (opposite a)
opposite_twice (Some true) = refl
opposite_twice (Some false) = refl
opposite_twice None = refl

opposite_and : (a b : Option Bool) → joint Or (opposite a) (opposite b) ≡ opposite (joint And a b)
opposite_and (Some true) b = refl
opposite_and (Some false) b = refl
opposite_and None (Some true) = refl
opposite_and None (Some false) = refl
opposite_and None None = refl

opposite_or : (a b : Option Bool) → joint And (opposite a) (opposite b) ≡ opposite (joint Or a b)
opposite_or (Some true) b = refl
opposite_or (Some false) b = refl
opposite_or None (Some true) = refl
opposite_or None (Some false) = refl
opposite_or None None = refl

opposite_equal : (a b : Option Bool)
    → joint Or (joint And a (opposite b)) (joint And (opposite a) b)
    ≡ opposite (joint Or (joint And a b) (joint And (opposite a) (opposite b)))
opposite_equal (Some true) (Some true) = refl
opposite_equal (Some true) (Some false) = refl
opposite_equal (Some true) None = refl
opposite_equal (Some false) (Some true) = refl
opposite_equal (Some false) (Some false) = refl
opposite_equal (Some false) None = refl
opposite_equal None (Some true) = refl
opposite_equal None (Some false) = refl
opposite_equal None None = refl

-- the constant that a normal form is
abbrev K : Bool → Written → Option Bool
K s w = known (kind (normal s w))

-- the negation is the opposite constant
pub kind_opposite : (w : Written) → known (kind (normal false w)) ≡ opposite (known (kind (normal true w)))
kind_opposite falsity = refl
kind_opposite truth = refl
kind_opposite (variable i) = refl
kind_opposite (negation w) = opposite_twice (K true w) ∙ ap opposite (sym (kind_opposite w))
kind_opposite (later n w) =
    ap known (kind_unless (kind (normal false w)) (next n (normal false w)) refl) ∙ kind_opposite w
    ∙ ap (λ k. opposite (known k)) (sym (kind_unless (kind (normal true w)) (next n (normal true w)) refl))
kind_opposite (throughout n m w) =
    ap known (kind_unless (kind (normal false w)) (eventually n m (normal false w)) refl) ∙ kind_opposite w
    ∙ ap (λ k. opposite (known k)) (sym (kind_unless (kind (normal true w)) (always n m (normal true w)) refl))
kind_opposite (within n m w) =
    ap known (kind_unless (kind (normal false w)) (always n m (normal false w)) refl) ∙ kind_opposite w
    ∙ ap (λ k. opposite (known k)) (sym (kind_unless (kind (normal true w)) (eventually n m (normal true w)) refl))
kind_opposite (conjunction w v) =
    kind_junction Or (normal false w) (normal false v) ∙ (λ j. joint Or (kind_opposite w j) (kind_opposite v j))
    ∙ opposite_and (K true w) (K true v) ∙ ap opposite (sym (kind_junction And (normal true w) (normal true v)))
kind_opposite (disjunction w v) =
    kind_junction And (normal false w) (normal false v) ∙ (λ j. joint And (kind_opposite w j) (kind_opposite v j))
    ∙ opposite_or (K true w) (K true v) ∙ ap opposite (sym (kind_junction Or (normal true w) (normal true v)))
kind_opposite (implication w v) =
    kind_junction And (normal true w) (normal false v) ∙ (λ j. joint And (opposite_twice (K true w) j) (kind_opposite v j))
    ∙ opposite_or (opposite (K true w)) (K true v)
    ∙ ap (λ a. opposite (joint Or a (K true v))) (sym (kind_opposite w))
    ∙ ap opposite (sym (kind_junction Or (normal false w) (normal true v)))
kind_opposite (equivalence w v) =
    kind_junction Or (junction And (normal true w) (normal false v)) (junction And (normal false w) (normal true v))
    ∙ (λ j. joint Or (kind_junction And (normal true w) (normal false v) j) (kind_junction And (normal false w) (normal true v) j))
    ∙ (λ j. joint Or (joint And (K true w) (kind_opposite v j)) (joint And (kind_opposite w j) (K true v)))
    ∙ opposite_equal (K true w) (K true v)
    ∙ (λ j. opposite (joint Or (joint And (K true w) (K true v)) (joint And (sym (kind_opposite w) j) (sym (kind_opposite v) j))))
    ∙ (λ j. opposite (joint Or (sym (kind_junction And (normal true w) (normal true v)) j)
    (sym (kind_junction And (normal false w) (normal false v)) j)))
    ∙ ap opposite (sym (kind_junction Or (junction And (normal true w) (normal true v)) (junction And (normal false w) (normal false v))))
