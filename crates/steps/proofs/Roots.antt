-- The root and the step, from marks to the judge's tests.
use Rattle.std.proofs.Common.{◌≡◌, ℕ, ◌<◌, Bool, false, List, [], ◌∷◌, map, length, replicate, sym, ap, ◌∙◌, subst, inl, inr, arith}
use Rattle.std.proofs.lemmas.List.{length-replicate}
use Rattle.temporal.specs.Formula.{Formula, bot}
use Rattle.temporal.specs.Parts.{◌∈◌, member}
use Rattle.temporal.specs.Game.{Spec}
use Rattle.temporal.proofs.Lists.{one_member, cast, in_cons}
use Rattle.tableau.specs.Lists.{span}
use Rattle.tableau.specs.Cover.{held}
use Rattle.tableau.specs.Card.{Node, node_at, label_tree, label_of}
use Rattle.records.specs.declared.FormulaRecord.{FormulaRecord}
use Rattle.records.specs.declared.NodeRecord.{NodeRecord}
use Rattle.records.specs.Raw.{RawCard, model, node_of}
use Rattle.records.specs.Table.{Listed, formulas_of, formula_of}
use Rattle.covered.specs.Marks.{marked, mark}
use Rattle.covered.specs.Meaning.{Members, Covers, MarksHeld, MarksCoveredBy}
use Rattle.covered.proofs.Formulas.{first_formula}
use Rattle.covered.proofs.Members.{members_more, formula_listed}
use Rattle.steps.specs.Sets.{Labelled, label_in, MarksLabel}
use Rattle.steps.proofs.Labels.{label_listed, members_of_none}

-- a node's record gives its label
pub label_same : (c : RawCard) (x : NodeRecord) (n : ℕ) → node_of x ≡ node_at (model c) n → label_in c x ≡ label_of (model c) n
label_same c x n e = ap (λ (y : Node). map (label_tree (model c)) (span y.label_count y.first_label)) e

module _ (spec : Spec) (c : RawCard) (known : Labelled spec c) (x : NodeRecord) (n : ℕ) (at : node_of x ≡ node_at (model c) n)
    (ms : List Bool) (marks : MarksLabel c x ms) where
  -- what the label covers
  pub label_covers : (cs : List Bool) → MarksCoveredBy c.formulas ms cs → Covers c.formulas (label_of (model c) n) cs
  label_covers cs h =
      subst (λ (L : List Formula). Covers c.formulas L cs) (label_same c x n at)
      (h spec known.table (label_in c x) (label_listed spec c known x) (marks spec known))

  pub label_members : Members c.formulas (label_of (model c) n) ms
  label_members = subst (λ (L : List Formula). Members c.formulas L ms) (label_same c x n at) (marks spec known)

  pub label_listed_at : Listed c.formulas (label_of (model c) n)
  label_listed_at = subst (λ (L : List Formula). Listed c.formulas L) (label_same c x n at) (label_listed spec c known x)

-- the set of one formula
module _ (spec : Spec) (c : RawCard) (known : Labelled spec c) (k : ℕ) (l : k < length c.formulas) where
  pub one_listed : Listed c.formulas (formula_of c.formulas k ∷ [])
  one_listed = one_member (formula_of c.formulas k) (λ f. f ∈ formulas_of c.formulas) (formula_listed spec c.formulas known.table k l)

  pub one_members : Members c.formulas (formula_of c.formulas k ∷ []) (mark (replicate 1024 false) k)
  one_members =
      members_more spec c.formulas known.table [] (replicate 1024 false) k l
      (omega (arith, known.table.few, length-replicate {A = Bool} 1024 false)) (members_of_none c.formulas 1024)

-- false is held if entry 0 is marked
pub false_held : (spec : Spec) (c : RawCard) → Labelled spec c → (S : List Formula) → Listed c.formulas S → (ms hs : List Bool)
    → Members c.formulas S ms → MarksHeld c.formulas ms hs → marked hs 0 ≡ member bot (held S)
false_held spec c known S listed ms hs members h =
    h spec known.table S listed members 0 (omega (arith, known.table.two))
    ∙ ap (λ f. member f (held S)) (first_formula spec c.formulas known.table)

-- ── where the records are those of the card ──
module _ (rs qs : List FormulaRecord) (e : rs ≡ qs) where
  pub listed_as : (S : List Formula) → Listed rs S → Listed qs S
  listed_as S h = subst (λ (xs : List FormulaRecord). Listed xs S) e h

  pub members_as : (S : List Formula) (ms : List Bool) → Members rs S ms → Members qs S ms
  members_as S ms h = subst (λ (xs : List FormulaRecord). Members xs S ms) e h

  pub covered_as : (ms cs : List Bool) → MarksCoveredBy rs ms cs → MarksCoveredBy qs ms cs
  covered_as ms cs h = subst (λ (xs : List FormulaRecord). MarksCoveredBy xs ms cs) e h

  pub held_as : (ms hs : List Bool) → MarksHeld rs ms hs → MarksHeld qs ms hs
  held_as ms hs h = subst (λ (xs : List FormulaRecord). MarksHeld xs ms hs) e h

-- the safety formula and a label are listed
pub obligations_listed : (spec : Spec) (c : RawCard) → Labelled spec c → (x : NodeRecord) (safety : ℕ) → safety < length c.formulas
    → formula_of c.formulas safety ≡ spec.safety → Listed c.formulas (spec.safety ∷ label_in c x)
obligations_listed spec c known x safety l e f m =
    elim (in_cons m) [
      | inl q ↦ cast (e ∙ sym q) (formula_listed spec c.formulas known.table safety l)
      | inr q ↦ label_listed spec c known x f q
    ]
