-- Conditions at single places, from what the code asked and computed.
use Rattle.std.proofs.Common.{◌≡◌, ℕ, ◌<◌, Bool, true, false, not, eqb, List, [], ◌∷◌, length, IsErrAnd, Some, None, Ok, Err, Option, Result, sym, refl, ap, ◌∙◌, subst, arith, eq-eqb, eqb-true}
use denote.Ref.{Bor}
use Rattle.std.specs.Option.{ok_or, option_copied}
use Rattle.temporal.specs.Formula.{Formula, bot, Reading, same}
use Rattle.temporal.specs.Game.{Spec}
use Rattle.temporal.proofs.Same.{same_sound}
use Rattle.temporal.proofs.Truth.{both_ways}
use Rattle.tableau.specs.Moves.{Move, Target}
use Rattle.tableau.specs.Met.{rests}
use Rattle.tableau.specs.Card.{CardKind, opened, closed, kind_of, label_at, move_at}
use Rattle.tableau.specs.Conditions.{kept, fault, fault_at, Fault, keeps_label, keeps_target, label_kept, target_kept, rests_kept, step_kept, reading_of, keeps_step, obligations, at_move}
use Rattle.tableau.specs.Judge.{judged_by}
use Rattle.faults.specs.declared.card.CardFault.{CardFault}
use Rattle.index.specs.declared.Slot.{Slot}
use Rattle.records.specs.declared.FormulaRecord.{FormulaRecord}
use Rattle.records.specs.declared.MoveRecord.{MoveRecord}
use Rattle.records.specs.Raw.{RawCard, model, move_of, target_of}
use Rattle.records.specs.Table.{formula_of}
use Rattle.card.proofs.Model.{model_nodes}
use Rattle.covered.proofs.Formulas.{different_formulas, first_formula}
use Rattle.rested.specs.declared.key.FormulaKey.{FormulaKey}
use Rattle.rested.specs.Listing.{Ready}
use Rattle.rested.specs.Rests.{AllRested}
use Rattle.card.specs.declared.entries.Kind.{Kind}
use Rattle.card.specs.Named.{kind_named}
use Rattle.steps.specs.Sets.{Labelled, RestsOf, TakesRests}
use Rattle.steps.specs.Steps.{TellsStep}
use Rattle.steps.proofs.Labels.{label_below}
use Rattle.steps.proofs.Roots.{listed_as, members_as}
use Rattle.judged.specs.Judged.{fault_of, judgment}
use Rattle.judged.proofs.Walks.{judged_pass, judged_fail}
use Rattle.marking.specs.Tests.{label_number_kept}
use Rattle.marking.specs.Nodes.{Prepared}

-- a refusal that is handed on stays the same
pub handed : {A : Type 0} (e : CardFault) (r : Result A CardFault) → IsErrAnd r (λ y. y ≡ e) → judgment r ≡ Err (fault_of e)
handed e (Ok x) h = absurd h
handed e (Err y) h = ap (λ f. Err (fault_of f)) h

-- what `ok_or` passes on: the value, or the refusal where there is none
pub none_refused : {A : Type 0} (o : Option A) (r : Result A CardFault) (u e : CardFault) → r ≡ ok_or o u → r ≡ Err e → (o ≡ None) × (e ≡ u)
none_refused {A} None r u e p q = let h : ◌≡◌ {A = Result A CardFault} (Err e) (Err u) = sym q ∙ p in let k : e ≡ u = cc in (refl, k)
none_refused {A} (Some x) r u e p q =
    let h : ◌≡◌ {A = Result A CardFault} (Ok x) (Err e) = sym p ∙ q in let z : ◌≡◌ {A = ℕ} 0 1 = cc in absurd (omega arith)

pub some_passed : {A : Type 0} (o : Option A) (r : Result A CardFault) (u : CardFault) (x : A) → r ≡ ok_or o u → r ≡ Ok x → o ≡ Some x
some_passed {A} None r u x p q =
    let h : ◌≡◌ {A = Result A CardFault} (Err u) (Ok x) = sym p ∙ q in let z : ◌≡◌ {A = ℕ} 0 1 = cc in absurd (omega arith)
some_passed {A} (Some y) r u x p q = let h : ◌≡◌ {A = Result A CardFault} (Ok y) (Ok x) = sym p ∙ q in let k : y ≡ x = cc in ap Some k

-- what was handed on by reference
pub none_lent : {A : Type 0} (o : Option (Bor A)) (w : Option A) → option_copied o ≡ w → o ≡ None → w ≡ None
none_lent o w p q = sym p ∙ ap (λ r. option_copied r) q

pub some_lent : {A : Type 0} (o : Option (Bor A)) (w : Option A) (x : Bor A) → option_copied o ≡ w → o ≡ Some x → w ≡ Some x.now
some_lent o w x p q = sym p ∙ ap (λ r. option_copied r) q

-- a refusal by its fault
pub refused : (e f : CardFault) → e ≡ f → ◌≡◌ {A = Result (Unit {0}) Fault} (Err (fault_of e)) (Err (fault_of f))
refused e f p = ap (λ x. Err (fault_of x)) p

-- ── label entries ──
module _ (spec : Spec) (c : RawCard) (known : Labelled spec c) where
  zero_false : (l : ℕ) → l < length c.formulas → eqb l 0 ≡ same (formula_of c.formulas l) bot
  zero_false l n =
      let t = known.table in
      let z = first_formula spec c.formulas t in
      both_ways (eqb l 0) (same (formula_of c.formulas l) bot)
      (λ e. ap (λ f. same f bot) (ap (formula_of c.formulas) (eqb-true l 0 e) ∙ z))
      (λ e. eq-eqb l 0 (different_formulas spec c.formulas t l 0 n (omega (arith, t.two)) (same_sound (formula_of c.formulas l) bot e ∙ sym z)))

  number_kept : (k : CardKind) (l : ℕ) → l < length c.formulas → label_number_kept k l ≡ keeps_label k (formula_of c.formulas l)
  number_kept opened l n = ap not (zero_false l n)
  number_kept closed l n = refl

  pub label_judged : (kind : Kind) → kind_named kind ≡ kind_of (model c) → (i l : ℕ) → l ≡ label_at (model c) i
      → label_number_kept (kind_named kind) l ≡ kept spec (model c) (label_kept i)
  label_judged kind k i l e =
      ap (label_number_kept (kind_named kind)) e
      ∙ number_kept (kind_named kind) (label_at (model c) i) (label_below spec c known i)
      ∙ ap (λ t. keeps_label t (formula_of c.formulas (label_at (model c) i))) k

-- ── targets ──
pub target_judged : (spec : Spec) (c : RawCard) (kind : Kind) → kind_named kind ≡ kind_of (model c) → (nodes : ℕ) → nodes ≡ length c.nodes
    → (n i : ℕ) (m : MoveRecord) → move_of m ≡ move_at (model c) i → (t : Target) → t ≡ target_of m.target
    → keeps_target (kind_named kind) nodes n t ≡ kept spec (model c) (target_kept n i)
target_judged spec c kind k nodes e n i m a t b =
    ap (λ x. keeps_target x nodes n t) k
    ∙ ap (λ x. keeps_target (kind_of (model c)) x n t) (e ∙ sym (model_nodes c))
    ∙ ap (λ x. keeps_target (kind_of (model c)) (length (model c).nodes) n x) (b ∙ ap (λ (x : Move). x.target) a)

-- ── rests and steps ──
module _ (spec : Spec) (c : RawCard) (kind : Kind) (rs : List FormulaRecord) (slots : List (Slot FormulaKey)) (ms : List Bool) (n : ℕ)
    (p : Prepared spec c kind rs slots ms n) (i : ℕ) (m : MoveRecord) (at : move_of m ≡ move_at (model c) i) where
  abbrev R : Reading
  R = reading_of (kind_of (model c)) (move_at (model c) i)

  abbrev O : List Formula
  O = obligations spec (model c) n

  same_reading : reading_of (kind_named kind) (move_of m) ≡ R
  same_reading = λ x. reading_of (p.kinds x) (at x)

  -- the rests of the obligations
  pub rests_judged : (memo : List (Option ℕ)) → (Ready rs slots → AllRested (reading_of (kind_named kind) (move_of m)) rs memo)
      → (r : Option (List Bool)) → TakesRests (length rs) memo ms r → RestsOf c.formulas R O r
  rests_judged memo rested r takes =
      let e = p.records in
      let at_rs : AllRested R rs memo = subst (λ (Q : Reading). AllRested Q rs memo) same_reading (rested p.ready) in
      takes spec c.formulas R O (sym (ap length e)) p.labelled.table
      (listed_as rs c.formulas e O p.listed) (members_as rs c.formulas e O ms p.members)
      (subst (λ (xs : List FormulaRecord). AllRested R xs memo) e at_rs)

  pub rests_refused : (r : Option (List Bool)) → r ≡ None → RestsOf c.formulas R O r
      → judged_by spec (model c) (at_move n i) ≡ Err (fault_at 11 3 i)
  rests_refused r none h =
      judged_fail (kept spec (model c)) fault (rests_kept n i) (step_kept n i ∷ []) (subst (RestsOf c.formulas R O) none h)

  -- the step, once the rests are there
  module _ (out : List Bool) (h : RestsOf c.formulas R O (Some out)) (t : Target) (to : t ≡ target_of m.target) (b : Bool)
      (tells : TellsStep (kind_named kind) c rs out t b) where
    step_is : b ≡ kept spec (model c) (step_kept n i)
    step_is =
        let e = p.records in
        tells spec (rests R O) p.labelled e (listed_as c.formulas rs (sym e) (rests R O) h.2) (members_as c.formulas rs (sym e) (rests R O) out h.1)
        ∙ ap (λ k. keeps_step k (model c) (rests R O) t) p.kinds
        ∙ ap (λ x. keeps_step (kind_of (model c)) (model c) (rests R O) x) (to ∙ ap (λ (x : Move). x.target) at)

    pub step_refused : b ≡ false → judged_by spec (model c) (at_move n i) ≡ Err (fault_at 16 3 i)
    step_refused f =
        judged_pass (kept spec (model c)) fault (rests_kept n i) (step_kept n i ∷ []) h.0
        ∙ judged_fail (kept spec (model c)) fault (step_kept n i) [] (sym step_is ∙ f)

    pub step_passed : b ≡ true → judged_by spec (model c) (at_move n i) ≡ Ok tt
    step_passed f =
        judged_pass (kept spec (model c)) fault (rests_kept n i) (step_kept n i ∷ []) h.0
        ∙ judged_pass (kept spec (model c)) fault (step_kept n i) [] (sym step_is ∙ f)
