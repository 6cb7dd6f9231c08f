-- The rests of a marked set, and whether a set covers another: what a pass over the marks has found.
use Rattle.std.proofs.Common.{◌≡◌, ℕ, ◌+◌, ◌<◌, ◌≤◌, Bool, true, false, ◌⊎◌, List, length, get_or, Some, None, Option, sym, ap, ◌∙◌, subst, inl, inr, arith}
use mathlib.Core.Bool.{false≢true}
use native.Mathlib.Decide.{ℕ_discrete}
use Rattle.temporal.specs.Formula.{Formula, bot, Reading, rest}
use Rattle.temporal.specs.Parts.{◌∈◌, member}
use Rattle.temporal.specs.Game.{Spec}
use Rattle.temporal.proofs.Lists.{in_map, map_in, cast, at_member}
use Rattle.temporal.proofs.Same.{member_tells}
use Rattle.temporal.proofs.Tells.{self_tells}
use Rattle.temporal.proofs.Truth.{both_ways}
use Rattle.tableau.specs.Lists.{all}
use Rattle.tableau.specs.Cover.{covers}
use Rattle.tableau.specs.Met.{met, rests}
use Rattle.tableau.proofs.Tests.{all_tells, refuted}
use Rattle.records.specs.declared.FormulaRecord.{FormulaRecord}
use Rattle.records.specs.Table.{Table, Listed, formulas_of, formula_of}
use Rattle.covered.specs.Marks.{marked, mark}
use Rattle.covered.specs.Meaning.{Members, Covers}
use Rattle.covered.proofs.Spread.{mark_here, mark_keeps, mark_only, mark_length}
use Rattle.covered.proofs.Formulas.{different_formulas, numbered, formula_count}
use Rattle.rested.specs.Rests.{has_all, Rested, AllRested}
use Rattle.steps.specs.Sets.{RestsOf}

-- ── a pass over the marked formulas below i ──
pub record Sifted (memo : List (Option ℕ)) (ms : List Bool) (i : ℕ) (out : List Bool) : Type 0 where
  pub found : (j : ℕ) → j < i → marked ms j ≡ true → (k : ℕ) × (get_or memo j None ≡ Some k)
  pub only : (k : ℕ) → marked out k ≡ true → (j : ℕ) × (j < i) × (marked ms j ≡ true) × (get_or memo j None ≡ Some k)
  pub each : (j k : ℕ) → j < i → marked ms j ≡ true → get_or memo j None ≡ Some k → k < length out → marked out k ≡ true

below_or_here : (j i : ℕ) → j < i + 1 → (j < i) ⊎ (j ≡ i)
below_or_here j i l = elim (ℕ_discrete j i) [ yes e ↦ inr e | no n ↦ inl (omega arith) ]

pub true_false : {b : Bool} → b ≡ true → b ≡ false → ⊥
true_false t f = false≢true (sym f ∙ t)

pub sifted_none : (memo : List (Option ℕ)) (ms out : List Bool) → ((k : ℕ) → marked out k ≡ false) → Sifted memo ms 0 out
sifted_none memo ms out h = record {
  found = λ j l. absurd (omega arith);
  only = λ k m. absurd (true_false m (h k));
  each = λ j k l. absurd (omega arith);
}

module _ (memo : List (Option ℕ)) (ms : List Bool) (i : ℕ) (out : List Bool) (s : Sifted memo ms i out) where
  -- formula i is not marked
  pub sifted_skip : marked ms i ≡ false → Sifted memo ms (i + 1) out
  sifted_skip f = record {
    found = λ j l m. elim (below_or_here j i l) [
      | inl b ↦ s.found j b m
      | inr e ↦ absurd (true_false m (ap (marked ms) e ∙ f))
    ];
    only = λ k m. let r = s.only k m in (r.0, omega (arith, r.1), r.2, r.3);
    each = λ j k l m. elim (below_or_here j i l) [
      | inl b ↦ s.each j k b m
      | inr e ↦ absurd (true_false m (ap (marked ms) e ∙ f))
    ];
  }

  -- it is, and its rest is formula r
  pub sifted_more : (r : ℕ) → marked ms i ≡ true → get_or memo i None ≡ Some r → Sifted memo ms (i + 1) (mark out r)
  sifted_more r t o = record {
    found = λ j l m. elim (below_or_here j i l) [ inl b ↦ s.found j b m | inr e ↦ (r, ap (λ x. get_or memo x None) e ∙ o) ];
    only = λ k m. elim (mark_only out r k m) [
      | inl e ↦ (i, omega arith, t, o ∙ ap Some (sym e))
      | inr b ↦ let w = s.only k b in (w.0, omega (arith, w.1), w.2, w.3)
    ];
    each = λ j k l m p n. elim (below_or_here j i l) [
      | inl b ↦ mark_keeps out r k (s.each j k b m p (shorter k n))
      | inr e ↦
          let q : Some k ≡ Some r = sym p ∙ ap (λ x. get_or memo x None) e ∙ o in
          let z : k ≡ r = cc in
          subst (λ (x : ℕ). marked (mark out r) x ≡ true) (sym z) (mark_here out r (omega (arith, shorter k n)))
    ];
  }
    where
      shorter : (k : ℕ) → k < length (mark out r) → k < length out
      shorter k n = omega (arith, mark_length out r)

-- ── what the pass has found ──
module _ (spec : Spec) (rs : List FormulaRecord) (t : Table spec rs) (S : List Formula) (listed : Listed rs S) (ms : List Bool)
    (members : Members rs S ms) where
  -- a member is marked, and a mark is a member's
  pub member_marked : (f : Formula) → f ∈ S → (i : ℕ) × (i < length rs) × (formula_of rs i ≡ f) × (marked ms i ≡ true)
  member_marked f m =
      let n = numbered spec rs t f (listed f m) in
      (n.0, n.1, n.2, members n.0 n.1 ∙ (member_tells (formula_of rs n.0) S).1 (cast (sym n.2) m))

  pub marked_member : (i : ℕ) → i < length rs → marked ms i ≡ true → formula_of rs i ∈ S
  marked_member i l m = (member_tells (formula_of rs i) S).0 (sym (members i l) ∙ m)

  -- ── covering ──
  module _ (L : List Formula) (cs : List Bool) (covering : Covers rs L cs) where
    pub all_covered : ((i : ℕ) → i < length rs → marked ms i ≡ true → marked cs i ≡ true) → all (covers L) S ≡ true
    all_covered h = (all_tells (covers L) (λ f. covers L f ≡ true) (λ f. self_tells (covers L f)) S).1 each
      where
        each : (f : Formula) → f ∈ S → covers L f ≡ true
        each f m =
            let n = member_marked f m in
            subst (λ (g : Formula). covers L g ≡ true) n.2 (sym (covering n.0 n.1) ∙ h n.0 n.1 n.3)

    pub not_all_covered : (i : ℕ) → i < length rs → marked ms i ≡ true → marked cs i ≡ false → all (covers L) S ≡ false
    not_all_covered i l m n =
        refuted (all (covers L) S) (all_tells (covers L) (λ f. covers L f ≡ true) (λ f. self_tells (covers L f)) S)
        (λ h. true_false (h (formula_of rs i) (marked_member i l m)) (sym (covering i l) ∙ n))

  -- ── rests ──
  module _ (R : Reading) (memo : List (Option ℕ)) (rested : AllRested R rs memo) where
    abbrev full : Formula → Bool
    full f = has_all (formulas_of rs) (met R f)

    rested_at : (i : ℕ) (o : Option ℕ) → i < length rs → get_or memo i None ≡ o → Rested R (formulas_of rs) (formula_of rs i) o
    rested_at i o l e = subst (λ (x : Option ℕ). Rested R (formulas_of rs) (formula_of rs i) x) e (rested i l)

    -- a marked formula without a rest
    pub rest_missing : (i : ℕ) → i < length rs → marked ms i ≡ true → get_or memo i None ≡ None → all full S ≡ false
    rest_missing i l m e =
        refuted (all full S) (all_tells full (λ f. full f ≡ true) (λ f. self_tells (full f)) S)
        (λ h. true_false (h (formula_of rs i) (marked_member i l m)) (rested_at i None l e))

    module _ (out : List Bool) (long : length rs ≤ length out) (s : Sifted memo ms (length rs) out) where
      place : (i : ℕ) → i < length rs → marked ms i ≡ true
          → (k : ℕ) × (get_or memo i None ≡ Some k) × (k < length rs) × (formula_of rs k ≡ rest R (formula_of rs i)) × (full (formula_of rs i) ≡ true)
      place i l m =
          let r = s.found i l m in
          let w = rested_at i (Some r.0) l r.1 in
          (r.0, r.1, omega (arith, w.1, formula_count spec rs t), w.2, w.0)

      full_all : all full S ≡ true
      full_all = (all_tells full (λ f. full f ≡ true) (λ f. self_tells (full f)) S).1 each
        where
          each : (f : Formula) → f ∈ S → full f ≡ true
          each f m =
              let n = member_marked f m in
              subst (λ (g : Formula). full g ≡ true) n.2 (place n.0 n.1 n.3).4

      rests_listed : Listed rs (rests R S)
      rests_listed g m =
          let r = map_in (rest R) S g m in
          let n = member_marked r.0 r.1 in
          let p = place n.0 n.1 n.3 in
          cast (p.3 ∙ ap (rest R) n.2 ∙ sym r.2) (at_member (formulas_of rs) p.0 bot (omega (arith, p.2, formula_count spec rs t)))

      rests_marked : Members rs (rests R S) out
      rests_marked k l = both_ways (marked out k) (member (formula_of rs k) (rests R S)) forth back
        where
          forth : marked out k ≡ true → member (formula_of rs k) (rests R S) ≡ true
          forth m =
              let w = s.only k m in
              let q = rested_at w.0 (Some k) w.1 w.3 in
              (member_tells (formula_of rs k) (rests R S)).1 (cast (sym q.2) (in_map (rest R) S (formula_of rs w.0) (marked_member w.0 w.1 w.2)))

          back : member (formula_of rs k) (rests R S) ≡ true → marked out k ≡ true
          back h =
              let r = map_in (rest R) S (formula_of rs k) ((member_tells (formula_of rs k) (rests R S)).0 h) in
              let n = member_marked r.0 r.1 in
              let p = place n.0 n.1 n.3 in
              let e : p.0 ≡ k = different_formulas spec rs t p.0 k p.2 l (p.3 ∙ ap (rest R) n.2 ∙ sym r.2) in
              s.each n.0 k n.1 n.3 (p.1 ∙ ap Some e) (omega arith)

      pub rests_of : RestsOf rs R S (Some out)
      rests_of = (full_all, rests_marked, rests_listed)
