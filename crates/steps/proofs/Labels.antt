-- Marking the formulas of a label one by one.
use Rattle.std.proofs.Common.{◌≡◌, ℕ, zero, suc, ◌+◌, ◌<◌, Bool, false, List, [], ◌∷◌, ◌++◌, map, length, get_or, replicate, sym, refl, ap, ◌∙◌, subst, append_assoc, add-one, arith}
use native.Mathlib.Decide.{dec_lt}
use Rattle.std.proofs.lemmas.List.{get_or_past, map-append}
use Rattle.temporal.specs.Formula.{Formula}
use Rattle.temporal.specs.Game.{Spec}
use Rattle.temporal.proofs.Lists.{map_in, cast}
use Rattle.tableau.specs.Lists.{span}
use Rattle.tableau.specs.Card.{label_at, label_tree}
use Rattle.records.specs.declared.FormulaRecord.{FormulaRecord}
use Rattle.records.specs.declared.NodeRecord.{NodeRecord}
use Rattle.records.specs.Raw.{RawCard, model}
use Rattle.records.specs.Table.{Listed}
use Rattle.covered.specs.Marks.{mark}
use Rattle.covered.specs.Meaning.{Members}
use Rattle.covered.proofs.Members.{members_more, members_none, formula_listed}
use Rattle.steps.specs.Sets.{Labelled, label_in}

-- ── lists ──
pub span_last : (k i : ℕ) → span (suc k) i ≡ span k i ++ ((i + k) ∷ [])
span_last zero i = let e : i ≡ i + 0 = omega arith in ap (λ j. j ∷ []) e
span_last (suc k) i =
    let e : suc i + k ≡ i + suc k = omega arith in
    ap (λ ks. i ∷ ks) (span_last k (suc i)) ∙ ap (λ j. i ∷ (span k (suc i) ++ (j ∷ []))) e

-- one place more
pub map_span_last : {A : Type 0} (f : ℕ → A) (k i : ℕ) → map f (span (k + 1) i) ≡ map f (span k i) ++ (f (i + k) ∷ [])
map_span_last f k i = rw add-one (ap (map f) (span_last k i) ∙ map-append f (span k i) ((i + k) ∷ []))

pub none_marked : (n i : ℕ) → get_or (replicate n false) i false ≡ false
none_marked zero zero = refl
none_marked zero (suc i) = refl
none_marked (suc n) zero = refl
none_marked (suc n) (suc i) = none_marked n i

pub members_of_none : (rs : List FormulaRecord) (n : ℕ) → Members rs [] (replicate n false)
members_of_none rs n = members_none rs (replicate n false) (none_marked n)

-- ── labels ──
module _ (spec : Spec) (c : RawCard) (known : Labelled spec c) where
  -- every label entry, past the list's end too, is the number of a formula
  pub label_below : (i : ℕ) → label_at (model c) i < length c.formulas
  label_below i =
      elim (dec_lt i (length c.labels)) [
        | yes l ↦ known.labels i l
        | no n ↦ let e : label_at (model c) i ≡ 0 = get_or_past c.labels i 0 (omega arith) in omega (arith, known.table.two)
      ]

  pub label_more : (S : List Formula) (first k l : ℕ) (ms after : List Bool) → length ms ≡ 1024 → l ≡ label_at (model c) (first + k) → after ≡ mark ms l
      → Members c.formulas (S ++ map (label_tree (model c)) (span k first)) ms
      → Members c.formulas (S ++ map (label_tree (model c)) (span (k + 1) first)) after
  label_more S first k l ms after n e a h =
      let x = label_at (model c) (first + k) in
      let f = label_tree (model c) in
      let T = S ++ map f (span k first) in
      let p : T ++ (f (first + k) ∷ []) ≡ S ++ map f (span (k + 1) first) =
      append_assoc S (map f (span k first)) (f (first + k) ∷ []) ∙ ap (λ zs. S ++ zs) (sym (map_span_last f k first)) in
      let q : mark ms x ≡ after = ap (mark ms) (sym e) ∙ sym a in
      let w = members_more spec c.formulas known.table T ms x (label_below (first + k)) (omega (arith, known.table.few)) h in
      subst (λ (ys : List Bool). Members c.formulas (S ++ map f (span (k + 1) first)) ys) q
      (subst (λ (Z : List Formula). Members c.formulas Z (mark ms x)) p w)

  -- the formulas of a label are listed
  pub label_listed : (x : NodeRecord) → Listed c.formulas (label_in c x)
  label_listed x f m =
      let r = map_in (label_tree (model c)) (span x.label_count x.first_label) f m in
      cast (sym r.2) (formula_listed spec c.formulas known.table (label_at (model c) r.0) (label_below r.0))
