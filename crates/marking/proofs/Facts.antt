-- What is known of a card whose conditions before the root are kept.
use Rattle.std.proofs.Common.{◌≡◌, ℕ, ◌<◌, ◌≤◌, true, List, [], ◌∷◌, ◌++◌, map, length, Some, None, Ok, Err, Option, Result, sym, refl, ap, ◌∙◌, subst, append_assoc, arith}
use Rattle.temporal.specs.Game.{Spec}
use Rattle.temporal.proofs.Tells.{self_tells}
use Rattle.temporal.proofs.Truth.{and_out}
use Rattle.tableau.specs.Lists.{span}
use Rattle.tableau.specs.Card.{Card, node_at, move_at}
use Rattle.tableau.specs.Form.{move_formed}
use Rattle.tableau.specs.Conditions.{Condition, kept, fault, formula_count}
use Rattle.tableau.specs.Conditions.{formula_form, label_form, node_form, move_form, new_formula, spec_listed, before_root, Fault, fault_at}
use Rattle.tableau.specs.Judge.{judged_by, after}
use Rattle.tableau.specs.Acceptable.{Kept, NodeFormed}
use Rattle.tableau.proofs.Tests.{below_tells, map_tells}
use Rattle.tableau.proofs.Kept.{kept_tells}
use Rattle.tableau.proofs.Order.{checked_append, checked_ok}
use Rattle.records.specs.Raw.{RawCard, model}
use Rattle.card.proofs.Model.{model_formulas, model_nodes, model_moves}
use Rattle.formed.specs.Conditions.{count_conditions, form_conditions}
use Rattle.steps.specs.Sets.{Labelled}
use Rattle.index.specs.Keyed.{Indexed}
use Rattle.index.specs.declared.Slot.{Slot}
use Rattle.records.specs.declared.FormulaRecord.{FormulaRecord}
use Rattle.rested.specs.declared.key.FormulaKey.{FormulaKey}
use Rattle.rested.specs.Listing.{Ready, key_of, key_code}
use Rattle.located.specs.declared.Places.{Places}
use Rattle.located.specs.Located.{Located}
use Rattle.formed.specs.declared.table.Records.{Records}
use Rattle.formed.specs.Copied.{records_of}
use Rattle.judged.proofs.Walks.{judged_pass, judged_fail, group_pass, group_fail}
use Rattle.marking.specs.Listings.{ListedAs}

-- ── parts of what passes pass ──
after_ok : {E : Type 0} (r s : Result (Unit {0}) E) → after r (λ _. s) ≡ Ok tt → (r ≡ Ok tt) × (s ≡ Ok tt)
after_ok (Ok x) s h = (refl, h)
after_ok (Err e) s h = let z : ◌≡◌ {A = ℕ} 0 1 = cc in absurd (omega arith)

module _ (spec : Spec) (c : Card) where
  both_pass : (xs ys : List Condition) → judged_by spec c (xs ++ ys) ≡ Ok tt → (judged_by spec c xs ≡ Ok tt) × (judged_by spec c ys ≡ Ok tt)
  both_pass xs ys h =
      after_ok (judged_by spec c xs) (judged_by spec c ys) (sym (checked_append (kept spec c) fault xs ys) ∙ h)

  -- the conditions of a list of entries
  each : (f : ℕ → Condition) (n : ℕ) → judged_by spec c (map f (span n 0)) ≡ Ok tt → (i : ℕ) → i < n → Kept spec c (f i)
  each f n h =
      (map_tells (kept spec c) f (span n 0) (below_tells (λ i. kept spec c (f i)) (λ i. Kept spec c (f i)) (λ i. kept_tells spec c (f i)) n)).0
      (checked_ok (kept spec c) fault (map f (span n 0)) tt h)

  each_test : (f : ℕ → Condition) (n : ℕ) → judged_by spec c (map f (span n 0)) ≡ Ok tt → (i : ℕ) → i < n → kept spec c (f i) ≡ true
  each_test f n h =
      (map_tells (kept spec c) f (span n 0) (below_tells (λ i. kept spec c (f i)) (λ i. kept spec c (f i) ≡ true) (λ i. self_tells (kept spec c (f i))) n)).0
      (checked_ok (kept spec c) fault (map f (span n 0)) tt h)

  -- counts
  counts : judged_by spec c count_conditions ≡ Ok tt → (2 ≤ length c.formulas) × (length c.formulas ≤ 1024)
  counts h =
      (kept_tells spec c formula_count).0
      (and_out (kept spec c formula_count) _ (checked_ok (kept spec c) fault count_conditions tt h)).0

  -- the order before the root, by the calls that judge it
  abbrev pub news : List Condition
  news = map new_formula (span (length c.formulas) 0)

  pub in_calls : before_root c ≡ count_conditions ++ (form_conditions c ++ (news ++ (spec_listed ∷ [])))
  in_calls =
      let F = map formula_form (span (length c.formulas) 0) in
      let L = map label_form (span (length c.labels) 0) in
      let N = map node_form (span (length c.nodes) 0) in
      let M = map move_form (span (length c.moves) 0) in
      let Y = news ++ (spec_listed ∷ []) in
      ap (λ xs. count_conditions ++ xs)
      (sym (append_assoc F (L ++ (N ++ M)) Y ∙ ap (λ xs. F ++ xs) (append_assoc L (N ++ M) Y ∙ ap (λ xs. L ++ xs) (append_assoc N M Y))))

-- ── what is known of the records ──
module _ (spec : Spec) (c : RawCard) (counted : judged_by spec (model c) count_conditions ≡ Ok tt)
    (formed : judged_by spec (model c) (form_conditions (model c)) ≡ Ok tt) where
  abbrev F : List Condition
  F = map formula_form (span (length (model c).formulas) 0)

  abbrev L : List Condition
  L = map label_form (span (length (model c).labels) 0)

  abbrev N : List Condition
  N = map node_form (span (length (model c).nodes) 0)

  abbrev M : List Condition
  M = map move_form (span (length (model c).moves) 0)

  pub few_formulas : length c.formulas ≤ 1024
  few_formulas = let w = counts spec (model c) counted in omega (arith, w.1, model_formulas c)

  pub some_formulas : 2 ≤ length c.formulas
  some_formulas = let w = counts spec (model c) counted in omega (arith, w.0, model_formulas c)

  formulas_formed : judged_by spec (model c) F ≡ Ok tt
  formulas_formed = (both_pass spec (model c) F (L ++ (N ++ M)) formed).0

  labels_formed : judged_by spec (model c) L ≡ Ok tt
  labels_formed = (both_pass spec (model c) L (N ++ M) (both_pass spec (model c) F (L ++ (N ++ M)) formed).1).0

  rest_formed : judged_by spec (model c) (N ++ M) ≡ Ok tt
  rest_formed = (both_pass spec (model c) L (N ++ M) (both_pass spec (model c) F (L ++ (N ++ M)) formed).1).1

  pub nodes_formed : (n : ℕ) → n < length c.nodes → NodeFormed (model c) (node_at (model c) n)
  nodes_formed n l =
      each spec (model c) node_form (length (model c).nodes) (both_pass spec (model c) N M rest_formed).0 n (omega (arith, model_nodes c))

  pub moves_formed : (m : ℕ) → m < length c.moves → move_formed spec (move_at (model c) m) ≡ true
  moves_formed m l =
      each_test spec (model c) move_form (length (model c).moves) (both_pass spec (model c) N M rest_formed).1 m (omega (arith, model_moves c))

  pub labelled : judged_by spec (model c) (news spec (model c)) ≡ Ok tt → Labelled spec c
  labelled new = record {
    table = record {
      two = some_formulas;
      few = few_formulas;
      formed = λ i l. each_test spec (model c) formula_form (length (model c).formulas) formulas_formed i (omega (arith, model_formulas c));
      different = λ i l. each spec (model c) new_formula (length (model c).formulas) new i (omega (arith, model_formulas c));
    };
    labels = λ i l.
        let w = each spec (model c) label_form (length (model c).labels) labels_formed i l in
        omega (arith, w, model_formulas c);
  }

-- ── the order before the root, call by call ──
module _ (spec : Spec) (c : RawCard) where
  abbrev called : Result (Unit {0}) Fault
  called = judged_by spec (model c) (before_root (model c))

  abbrev behind : List Condition
  behind = news spec (model c) ++ (spec_listed ∷ [])

  split : called ≡ judged_by spec (model c) (count_conditions ++ (form_conditions (model c) ++ behind))
  split = ap (judged_by spec (model c)) (in_calls spec (model c))

  pub counts_fail : (e : Fault) → judged_by spec (model c) count_conditions ≡ Err e → called ≡ Err e
  counts_fail e h = split ∙ group_fail (kept spec (model c)) fault count_conditions (form_conditions (model c) ++ behind) e h

  module _ (counted : judged_by spec (model c) count_conditions ≡ Ok tt) where
    past_counts : called ≡ judged_by spec (model c) (form_conditions (model c) ++ behind)
    past_counts = split ∙ group_pass (kept spec (model c)) fault count_conditions (form_conditions (model c) ++ behind) counted

    pub forms_fail : (e : Fault) → judged_by spec (model c) (form_conditions (model c)) ≡ Err e → called ≡ Err e
    forms_fail e h = past_counts ∙ group_fail (kept spec (model c)) fault (form_conditions (model c)) behind e h

    module _ (formed : judged_by spec (model c) (form_conditions (model c)) ≡ Ok tt) where
      past_forms : called ≡ judged_by spec (model c) behind
      past_forms = past_counts ∙ group_pass (kept spec (model c)) fault (form_conditions (model c)) behind formed

      pub news_fail : (e : Fault) → judged_by spec (model c) (news spec (model c)) ≡ Err e → called ≡ Err e
      news_fail e h = past_forms ∙ group_fail (kept spec (model c)) fault (news spec (model c)) (spec_listed ∷ []) e h

      module _ (new : judged_by spec (model c) (news spec (model c)) ≡ Ok tt) where
        past_news : called ≡ judged_by spec (model c) (spec_listed ∷ [])
        past_news = past_forms ∙ group_pass (kept spec (model c)) fault (news spec (model c)) (spec_listed ∷ []) new

        -- a formula of the specification is not listed
        pub unlisted : (r : Option Places) → r ≡ None → Located spec c.formulas r → called ≡ Err (fault_at 11 0 0)
        unlisted r n h =
            past_news ∙ judged_fail (kept spec (model c)) fault spec_listed [] (subst (Located spec c.formulas) n h)

        -- all are
        pub all_listed : (p : Places) → Located spec c.formulas (Some p) → called ≡ Ok tt
        all_listed p h = past_news ∙ judged_pass (kept spec (model c)) fault spec_listed [] h.0

        -- what is known then
        pub known : (rs : Records) (p : Places) (slots : List (Slot FormulaKey)) → records_of rs ≡ c.formulas
            → Ready c.formulas slots → Located spec c.formulas (Some p)
            → ListedAs spec c slots (record { records = rs; places = p })
        known rs p slots q ready h = record {
          labelled = labelled spec c counted formed new;
          nodes = nodes_formed spec c counted formed;
          moves = moves_formed spec c counted formed;
          records = q;
          ready = ready;
          initial_below = h.1.0;
          initial_is = h.1.1;
          safety_below = h.2.0;
          safety_is = h.2.1;
        }

        -- the slots that index the records are ready
        pub ready_for : (slice : List FormulaRecord) (slots : List (Slot FormulaKey)) → slice ≡ c.formulas → Indexed key_code slots (map key_of slice)
            → Ready c.formulas slots
        ready_for slice slots q h = record {
          listing = record { spec = spec; table = (labelled spec c counted formed new).table };
          indexed = subst (λ (xs : List FormulaRecord). Indexed key_code slots (map key_of xs)) q h;
        }

  -- equal formulas are judged on the records
  pub news_as : (slice : List FormulaRecord) → slice ≡ c.formulas
      → judged_by spec (model c) (map new_formula (span (length slice) 0)) ≡ judged_by spec (model c) (news spec (model c))
  news_as slice q = ap (λ n. judged_by spec (model c) (map new_formula (span n 0))) (ap length q ∙ sym (model_formulas c))
