-- The conditions of a node, by its record.
use Rattle.std.proofs.Common.{◌≡◌, ℕ, ◌+◌, ◌<◌, Bool, List, [], ◌∷◌, ◌++◌, map, length, sym, ap, subst, arith}
use Rattle.temporal.specs.Formula.{Formula}
use Rattle.temporal.specs.Game.{Spec}
use Rattle.tableau.specs.Lists.{span, concat_map}
use Rattle.tableau.specs.Card.{Node, node_at, label_of}
use Rattle.tableau.specs.Conditions.{Condition, label_kept, covering_kept, target_kept, at_move, at_node, obligations}
use Rattle.tableau.specs.Judge.{judged_by}
use Rattle.records.specs.declared.FormulaRecord.{FormulaRecord}
use Rattle.records.specs.declared.NodeRecord.{NodeRecord}
use Rattle.records.specs.Raw.{RawCard, model, node_of}
use Rattle.records.specs.Table.{Listed, formula_of}
use Rattle.card.proofs.Model.{model_moves}
use Rattle.covered.specs.Meaning.{Members}
use Rattle.coverings.specs.Coverings.{Ready as Splitting}
use Rattle.steps.specs.Sets.{MarksObligations, label_in}
use Rattle.steps.proofs.Roots.{label_same, listed_as, members_as, obligations_listed}
use Rattle.marking.specs.declared.terms.Terms.{Terms}
use Rattle.marking.specs.Nodes.{Prepared, Known}

-- ── the parts of a node's conditions ──
abbrev pub labels_by : Node → List Condition
labels_by y = map label_kept (span y.label_count y.first_label)

abbrev pub targets_by : ℕ → Node → List Condition
targets_by n y = map (target_kept n) (span y.move_count y.first_move)

abbrev pub moves_by : ℕ → Node → List Condition
moves_by n y = concat_map (at_move n) (span y.move_count y.first_move)

abbrev pub node_by : ℕ → Node → List Condition
node_by n y = labels_by y ++ ((covering_kept n ∷ []) ++ (targets_by n y ++ moves_by n y))

pub node_is : (spec : Spec) (c : RawCard) (x : NodeRecord) (n : ℕ) → node_of x ≡ node_at (model c) n
    → judged_by spec (model c) (node_by n (node_of x)) ≡ judged_by spec (model c) (at_node (model c) n)
node_is spec c x n e = ap (λ (y : Node). judged_by spec (model c) (node_by n y)) e

-- ── the covering ──
module _ (spec : Spec) (c : RawCard) (terms : Terms) (k : Known spec c terms)
    (x : NodeRecord) (n : ℕ) (e : node_of x ≡ node_at (model c) n) where
  pub splitting : n < length c.nodes → Splitting c spec terms.variables x
  splitting l = record {
    sizes = k.variables;
    few_inputs = k.few_inputs;
    few_replies = k.few_replies;
    unconstrained = k.unconstrained;
    moves = k.moves;
    inside =
        let w : x.first_move + x.move_count ≡ (node_at (model c) n).first_move + (node_at (model c) n).move_count =
        ap (λ (y : Node). y.first_move + y.move_count) e in
        omega (arith, (k.nodes n l).moves, model_moves c);
  }

  -- ── rests and steps ──
  pub prepared : (ms : List Bool) → MarksObligations c terms.safety x ms → Prepared spec c terms.kind terms.records.now terms.slots.now ms n
  prepared ms h =
      let r = k.records in
      let below : terms.safety < length c.formulas = subst (λ (xs : List FormulaRecord). terms.safety < length xs) r k.safety_below in
      let is : formula_of c.formulas terms.safety ≡ spec.safety =
      subst (λ (xs : List FormulaRecord). formula_of xs terms.safety ≡ spec.safety) r k.safety_is in
      let w : label_in c x ≡ label_of (model c) n = label_same c x n e in
      record {
        labelled = k.labelled;
        records = r;
        ready = k.ready;
        kinds = k.kinds;
        members = members_as c.formulas terms.records.now (sym r) (obligations spec (model c) n) ms
            (subst (λ (L : List Formula). Members c.formulas (spec.safety ∷ L) ms) w (h spec k.labelled below is));
        listed = listed_as c.formulas terms.records.now (sym r) (obligations spec (model c) n)
            (subst (λ (L : List Formula). Listed c.formulas (spec.safety ∷ L)) w
            (obligations_listed spec c k.labelled x terms.safety below is));
      }
