-- The test of an entry's form says what the condition on it says.
use Rattle.std.specs.Prelude.{◌≡◌, ℕ, Some}
use Rattle.std.specs.List.{slice_get}
use Rattle.std.proofs.Common.{sym, ◌∙◌}
use Rattle.temporal.specs.Game.{Spec}
use Rattle.tableau.specs.Conditions.{formula_form, label_form, node_form, move_form, kept}
use Rattle.tableau.specs.Form.{formula_formed, label_formed, node_formed, move_formed}
use Rattle.records.specs.declared.FormulaRecord.{FormulaRecord}
use Rattle.records.specs.declared.NodeRecord.{NodeRecord}
use Rattle.records.specs.declared.MoveRecord.{MoveRecord}
use Rattle.records.specs.Raw.{RawCard, entry_of, node_of, move_of, model}
use Rattle.card.proofs.Model.{model_formulas, model_moves, formula_some, label_some, node_some, move_some}
use Rattle.formed.specs.declared.form.Sizes.{Sizes}
use Rattle.formed.specs.Sizes.{HasSizes, sized}

module _ (spec : Spec) (c : RawCard) (sizes : Sizes) (h : HasSizes spec c sizes) (i : ℕ) where
  pub formula_tested : (f : FormulaRecord) → Some f ≡ slice_get c.formulas i
      → kept spec (model c) (formula_form i) ≡ formula_formed (sized sizes.variables) i (entry_of f)
  formula_tested f e = λ j. formula_formed (sized (record { environment = h.variables.0 j; system = h.variables.1 j })) i (formula_some c i f e j)

  pub label_tested : (l : ℕ) → Some l ≡ slice_get c.labels i → kept spec (model c) (label_form i) ≡ label_formed sizes.formulas l
  label_tested l e = λ j. label_formed ((model_formulas c ∙ sym h.formulas) j) (label_some c i l e j)

  pub node_tested : (x : NodeRecord) → Some x ≡ slice_get c.nodes i
      → kept spec (model c) (node_form i) ≡ node_formed sizes.labels sizes.moves (node_of x)
  node_tested x e = λ j. node_formed (sym h.labels j) ((model_moves c ∙ sym h.moves) j) (node_some c i x e j)

  pub move_tested : (m : MoveRecord) → Some m ≡ slice_get c.moves i
      → kept spec (model c) (move_form i) ≡ move_formed (sized sizes.variables) (move_of m)
  move_tested m e = λ j. move_formed (sized (record { environment = h.variables.0 j; system = h.variables.1 j })) (move_some c i m e j)
