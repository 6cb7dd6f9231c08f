-- How the place of a formula's rest comes from the places of its parts' rests.
use Rattle.std.proofs.Common.{◌≡◌, ℕ, true, ◌&&◌, List, [], ◌∷◌, ◌++◌, get_or, Some, None, Option, sym, refl, ap, ◌∙◌, subst}
use Rattle.std.proofs.lemmas.Bool.{and_from, and_left, and_right}
use Rattle.temporal.specs.Formula.{Formula, bot, Reading, rest}
use Rattle.temporal.specs.Parts.{member}
use Rattle.temporal.proofs.Lists.{at_member, cast}
use Rattle.temporal.proofs.Same.{member_tells}
use Rattle.tableau.specs.Met.{met}
use Rattle.tableau.proofs.Tests.{all_append}
use Rattle.rested.specs.Rests.{has_all, Placed, Rested}

pub has_append : (ts fs gs : List Formula) → has_all ts (fs ++ gs) ≡ (has_all ts fs && has_all ts gs)
has_append ts fs gs = all_append (λ f. member f ts) fs gs

-- what is at a place is in the list
pub placed_member : (ts : List Formula) (f : Formula) (k : ℕ) → Placed ts f (Some k) → member f ts ≡ true
placed_member ts f k p = (member_tells f ts).1 (cast p.1 (at_member ts k bot p.0))

module _ (R : Reading) (ts : List Formula) where
  -- a formula whose rest alone is met
  pub rested_alone : (h : Formula) → met R h ≡ rest R h ∷ [] → (o : Option ℕ) → Placed ts (rest R h) o → Rested R ts h o
  rested_alone h e None p = ap (has_all ts) e ∙ and_left (member (rest R h) ts) true p
  rested_alone h e (Some k) p =
      (ap (has_all ts) e ∙ and_from (member (rest R h) ts) true (placed_member ts (rest R h) k p) refl, p.0, p.1)

  -- a formula h whose rest joins the rests of f and g
  module _ (h f g : Formula) (j : Formula → Formula → Formula) (e : met R h ≡ rest R h ∷ (met R f ++ met R g))
      (q : rest R h ≡ j (rest R f) (rest R g)) where
    whole : has_all ts (met R h) ≡ (member (rest R h) ts && (has_all ts (met R f) && has_all ts (met R g)))
    whole = ap (has_all ts) e ∙ ap (λ b. member (rest R h) ts && b) (has_append ts (met R f) (met R g))

    pub rested_no_left : Rested R ts f None → Rested R ts h None
    rested_no_left r = whole ∙ and_right (member (rest R h) ts) _ (and_left (has_all ts (met R f)) _ r)

    pub rested_no_right : Rested R ts g None → Rested R ts h None
    rested_no_right r = whole ∙ and_right (member (rest R h) ts) _ (and_right (has_all ts (met R f)) _ r)

    pub rested_both : (x y : ℕ) (o : Option ℕ) → Rested R ts f (Some x) → Rested R ts g (Some y)
        → Placed ts (j (get_or ts x bot) (get_or ts y bot)) o → Rested R ts h o
    rested_both x y o a b p = go o (subst (λ (t : Formula). Placed ts t o) is p)
      where
        is : j (get_or ts x bot) (get_or ts y bot) ≡ rest R h
        is = ap (λ t. j t (get_or ts y bot)) a.2 ∙ ap (λ t. j (rest R f) t) b.2 ∙ sym q

        go : (o : Option ℕ) → Placed ts (rest R h) o → Rested R ts h o
        go None m = whole ∙ and_left (member (rest R h) ts) _ m
        go (Some k) m = (
          whole ∙ and_from (member (rest R h) ts) _ (placed_member ts (rest R h) k m)
              (and_from (has_all ts (met R f)) (has_all ts (met R g)) a.0 b.0),
          m.0,
          m.1,
        )

  -- a formula h whose rest joins the rest of f and the formula s, which has to be in the list too
  module _ (h f s : Formula) (j : Formula → Formula → Formula) (e : met R h ≡ rest R h ∷ (s ∷ met R f)) (q : rest R h ≡ j (rest R f) s) where
    all_of : has_all ts (met R h) ≡ (member (rest R h) ts && (member s ts && has_all ts (met R f)))
    all_of = ap (has_all ts) e

    pub rested_no_body : Rested R ts f None → Rested R ts h None
    rested_no_body r = all_of ∙ and_right (member (rest R h) ts) _ (and_right (member s ts) _ r)

    pub rested_no_shorter : Placed ts s None → Rested R ts h None
    rested_no_shorter r = all_of ∙ and_right (member (rest R h) ts) _ (and_left (member s ts) _ r)

    pub rested_on : (x y : ℕ) (o : Option ℕ) → Rested R ts f (Some x) → Placed ts s (Some y)
        → Placed ts (j (get_or ts x bot) (get_or ts y bot)) o → Rested R ts h o
    rested_on x y o a b p = go o (subst (λ (t : Formula). Placed ts t o) is p)
      where
        is : j (get_or ts x bot) (get_or ts y bot) ≡ rest R h
        is = ap (λ t. j t (get_or ts y bot)) a.2 ∙ ap (λ t. j (rest R f) t) b.1 ∙ sym q

        go : (o : Option ℕ) → Placed ts (rest R h) o → Rested R ts h o
        go None m = all_of ∙ and_left (member (rest R h) ts) _ m
        go (Some k) m = (
          all_of ∙ and_from (member (rest R h) ts) _ (placed_member ts (rest R h) k m)
              (and_from (member s ts) (has_all ts (met R f)) (placed_member ts s y b) a.0),
          m.0,
          m.1,
        )
