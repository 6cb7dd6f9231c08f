-- A loop over places in a row, and the conditions that it judges: what is left of them gives the answer.
use Rattle.std.proofs.Common.{◌≡◌, ℕ, suc, ◌+◌, ◌-◌, ◌<◌, ◌≤◌, Bool, true, false, cond, List, [], ◌∷◌, ◌++◌, map, Ok, Err, Result, ap, ◌∙◌, arith}
use Rattle.tableau.specs.Lists.{span, concat_map}
use Rattle.tableau.specs.Judge.{checked, after}
use Rattle.tableau.proofs.Order.{checked_append}

-- ── places in a row ──
-- place k of the n places from i on, and those behind it
pub span_at : (n i k : ℕ) → k < n → span (n - k) (i + k) ≡ (i + k) ∷ span (n - (k + 1)) (i + (k + 1))
span_at n i k l =
    ap (λ m. span m (i + k)) m ∙ ap (λ j. (i + k) ∷ span (n - (k + 1)) j) j
  where
    m : n - k ≡ suc (n - (k + 1))
    m = omega arith

    j : suc (i + k) ≡ i + (k + 1)
    j = omega arith

pub span_start : (n i : ℕ) → span (n - 0) (i + 0) ≡ span n i
span_start n i =
    let a : n - 0 ≡ n = omega arith in
    let b : i + 0 ≡ i = omega arith in
    λ x. span (a x) (b x)

pub span_end : (n i k : ℕ) → n ≤ k → span (n - k) (i + k) ≡ []
span_end n i k l = let e : n - k ≡ 0 = omega arith in ap (λ m. span m (i + k)) e

module _ {A E : Type 0} (ok : A → Bool) (f : A → E) where
  -- ── one condition ──
  pub judged_pass : (x : A) (xs : List A) → ok x ≡ true → checked ok f (x ∷ xs) ≡ checked ok f xs
  judged_pass x xs e = ap (λ b. cond b (checked ok f xs) (Err (f x))) e

  pub judged_fail : (x : A) (xs : List A) → ok x ≡ false → checked ok f (x ∷ xs) ≡ Err (f x)
  judged_fail x xs e = ap (λ b. cond b (checked ok f xs) (Err (f x))) e

  -- ── a group of conditions ──
  pub group_pass : (xs ys : List A) → checked ok f xs ≡ Ok tt → checked ok f (xs ++ ys) ≡ checked ok f ys
  group_pass xs ys e = checked_append ok f xs ys ∙ ap (λ r. after r (λ _. checked ok f ys)) e

  pub group_fail : (xs ys : List A) (e : E) → checked ok f xs ≡ Err e → checked ok f (xs ++ ys) ≡ Err e
  group_fail xs ys e h = checked_append ok f xs ys ∙ ap (λ r. after r (λ _. checked ok f ys)) h

  -- ── a condition for each place ──
  module _ (g : ℕ → A) (n i : ℕ) where
    -- the conditions from place k on
    abbrev pub walked : ℕ → Result (Unit {0}) E
    walked k = checked ok f (map g (span (n - k) (i + k)))

    pub walk_start : walked 0 ≡ checked ok f (map g (span n i))
    walk_start = ap (λ ks. checked ok f (map g ks)) (span_start n i)

    pub walk_pass : (k : ℕ) → k < n → ok (g (i + k)) ≡ true → walked k ≡ walked (k + 1)
    walk_pass k l e =
        ap (λ ks. checked ok f (map g ks)) (span_at n i k l) ∙ judged_pass (g (i + k)) (map g (span (n - (k + 1)) (i + (k + 1)))) e

    pub walk_fail : (k : ℕ) → k < n → ok (g (i + k)) ≡ false → walked k ≡ Err (f (g (i + k)))
    walk_fail k l e =
        ap (λ ks. checked ok f (map g ks)) (span_at n i k l) ∙ judged_fail (g (i + k)) (map g (span (n - (k + 1)) (i + (k + 1)))) e

    pub walk_end : (k : ℕ) → n ≤ k → walked k ≡ Ok tt
    walk_end k l = ap (λ ks. checked ok f (map g ks)) (span_end n i k l)

  -- ── a group of conditions for each place ──
  module _ (g : ℕ → List A) (n i : ℕ) where
    -- the groups from place k on
    abbrev pub grouped : ℕ → Result (Unit {0}) E
    grouped k = checked ok f (concat_map g (span (n - k) (i + k)))

    pub groups_pass : (k : ℕ) → k < n → checked ok f (g (i + k)) ≡ Ok tt → grouped k ≡ grouped (k + 1)
    groups_pass k l e =
        ap (λ ks. checked ok f (concat_map g ks)) (span_at n i k l)
        ∙ group_pass (g (i + k)) (concat_map g (span (n - (k + 1)) (i + (k + 1)))) e

    pub groups_fail : (k : ℕ) (e : E) → k < n → checked ok f (g (i + k)) ≡ Err e → grouped k ≡ Err e
    groups_fail k e l h =
        ap (λ ks. checked ok f (concat_map g ks)) (span_at n i k l)
        ∙ group_fail (g (i + k)) (concat_map g (span (n - (k + 1)) (i + (k + 1)))) e h

    pub groups_end : (k : ℕ) → n ≤ k → grouped k ≡ Ok tt
    groups_end k l = ap (λ ks. checked ok f (concat_map g ks)) (span_end n i k l)
