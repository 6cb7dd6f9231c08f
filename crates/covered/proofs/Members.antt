-- Marking the members of a set one by one; and the tables of records of a card whose formulas keep their conditions.
use Rattle.std.proofs.Common.{◌≡◌, ℕ, ◌<◌, ◌≤◌, Bool, true, false, ◌⊎◌, List, [], ◌∷◌, ◌++◌, length, get_or, sym, ◌∙◌, subst, inl, inr, arith}
use Rattle.std.proofs.lemmas.List.{length-map, get_or-map}
use Rattle.temporal.specs.Formula.{Formula, bot}
use Rattle.temporal.specs.Parts.{◌∈◌, first, member}
use Rattle.temporal.specs.Game.{Spec}
use Rattle.temporal.proofs.Lists.{at_member, in_append, in_left, in_right, in_cons, cast}
use Rattle.temporal.proofs.Same.{member_tells}
use Rattle.temporal.proofs.Truth.{both_ways}
use Rattle.tableau.specs.Card.{no_entry}
use Rattle.tableau.proofs.Trees.{GoodList}
use Rattle.records.specs.Raw.{RawCard, model, entry_of}
use Rattle.records.specs.declared.FormulaRecord.{FormulaRecord}
use Rattle.records.specs.Table.{Table, Listed, formulas_of, formula_of, entry_at}
use Rattle.covered.specs.Marks.{marked, mark}
use Rattle.covered.specs.Meaning.{Members}
use Rattle.covered.proofs.Passes.{no_record}
use Rattle.covered.proofs.Spread.{mark_here, mark_keeps, mark_only}
use Rattle.covered.proofs.Formulas.{different_formulas, formula_count}

-- ── marks of members ──
-- no marks: the empty set
pub members_none : (rs : List FormulaRecord) (ms : List Bool) → ((i : ℕ) → marked ms i ≡ false) → Members rs [] ms
members_none rs ms h i l = h i

pub listed_none : (rs : List FormulaRecord) → Listed rs []
listed_none rs f m = elim m [ ]

module _ (spec : Spec) (rs : List FormulaRecord) (t : Table spec rs) where
  -- one member more, formula k
  pub members_more : (S : List Formula) (ms : List Bool) (k : ℕ) → k < length rs → length rs ≤ length ms → Members rs S ms
      → Members rs (S ++ (formula_of rs k ∷ [])) (mark ms k)
  members_more S ms k l n h i o =
      both_ways (marked (mark ms k) i) (member (formula_of rs i) (S ++ (formula_of rs k ∷ [])))
      (λ m. (member_tells (formula_of rs i) (S ++ (formula_of rs k ∷ []))).1 (out (mark_only ms k i m)))
      (λ m. back (in_append S (formula_of rs k ∷ []) (formula_of rs i) ((member_tells (formula_of rs i) (S ++ (formula_of rs k ∷ []))).0 m)))
    where
      out : (i ≡ k) ⊎ (marked ms i ≡ true) → formula_of rs i ∈ (S ++ (formula_of rs k ∷ []))
      out (inl e) = in_right S (formula_of rs k ∷ []) (formula_of rs i) (subst (λ (j : ℕ). formula_of rs i ∈ (formula_of rs j ∷ [])) e first)
      out (inr m) = in_left S (formula_of rs k ∷ []) (formula_of rs i) ((member_tells (formula_of rs i) S).0 (sym (h i o) ∙ m))

      back : (formula_of rs i ∈ S) ⊎ (formula_of rs i ∈ (formula_of rs k ∷ [])) → marked (mark ms k) i ≡ true
      back (inl m) = mark_keeps ms k i (h i o ∙ (member_tells (formula_of rs i) S).1 m)
      back (inr m) =
          elim (in_cons m) [
            | inl e ↦ subst (λ (j : ℕ). marked (mark ms k) j ≡ true) (sym (different_formulas spec rs t i k o l e))
                (mark_here ms k (omega arith))
            | inr z ↦ elim z [ ]
          ]

  pub formula_listed : (k : ℕ) → k < length rs → formula_of rs k ∈ formulas_of rs
  formula_listed k l = at_member (formulas_of rs) k bot (omega (arith, formula_count spec rs t))

  pub listed_more : (S : List Formula) (k : ℕ) → k < length rs → Listed rs S → Listed rs (S ++ (formula_of rs k ∷ []))
  listed_more S k l h f m =
      elim (in_append S (formula_of rs k ∷ []) f m)
      [ inl a ↦ h f a | inr b ↦ elim (in_cons b) [ inl e ↦ cast (sym e) (formula_listed k l) | inr z ↦ elim z [ ] ] ]

-- ── tables ──
-- from a list without equal records
pub different_entries : (rs : List FormulaRecord)
    → ((i : ℕ) → i < length rs → (j : ℕ) → j < i → get_or rs j no_record ≡ get_or rs i no_record → ⊥)
    → (i : ℕ) → i < length rs → (j : ℕ) → j < i → entry_at rs j ≡ entry_at rs i → ⊥
different_entries rs d i l j k e =
    let w = sym (get_or-map entry_of rs j no_record no_entry (omega arith)) ∙ e ∙ get_or-map entry_of rs i no_record no_entry l in
    d i l j k (λ x. record { kind = (w x).kind; variable = (w x).variable; a = (w x).a; b = (w x).b; n = (w x).n; m = (w x).m })

-- from a card with a good list of formulas, not too long
pub card_table : (spec : Spec) (c : RawCard) → GoodList spec (model c) → length (model c).formulas ≤ 1024 → Table spec c.formulas
card_table spec c good few =
    let n = length-map c.formulas entry_of in
    record {
      two = omega (arith, good.two_formulas, n);
      few = omega (arith, few, n);
      formed = λ i l. good.formulas i (omega (arith, n));
      different = λ i l. good.different i (omega (arith, n));
    }
