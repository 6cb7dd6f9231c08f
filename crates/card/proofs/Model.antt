-- The card that a source's records stand for, by what the source answers.
use Rattle.std.proofs.Common.{◌≡◌, ℕ, length, Some, None, Option, unwrap_or, sym, ◌∙◌}
use lib.ListN.{length-map}
use Rattle.std.specs.List.{slice_get}
use Rattle.tableau.specs.Moves.{no_move}
use Rattle.tableau.specs.Card.{no_entry, no_node, formula_at, label_at, node_at, move_at}
use Rattle.records.specs.declared.FormulaRecord.{FormulaRecord}
use Rattle.records.specs.declared.NodeRecord.{NodeRecord}
use Rattle.records.specs.declared.MoveRecord.{MoveRecord}
use Rattle.records.specs.Raw.{RawCard, entry_of, node_of, move_of, model}
use Rattle.card.proofs.Walk.{get_d_some, get_or_none, entry_some, entry_none}

module _ (c : RawCard) where
  pub model_formulas : length (model c).formulas ≡ length c.formulas
  model_formulas = length-map c.formulas entry_of

  pub model_nodes : length (model c).nodes ≡ length c.nodes
  model_nodes = length-map c.nodes node_of

  pub model_moves : length (model c).moves ≡ length c.moves
  model_moves = length-map c.moves move_of

  module _ (i : ℕ) where
    pub formula_some : (f : FormulaRecord) → Some f ≡ slice_get c.formulas i → formula_at (model c) i ≡ entry_of f
    formula_some f e = get_d_some entry_of c.formulas i f no_entry e

    pub label_some : (l : ℕ) → Some l ≡ slice_get c.labels i → label_at (model c) i ≡ l
    label_some l e = entry_some c.labels i l 0 e

    pub label_none : None ≡ slice_get c.labels i → label_at (model c) i ≡ 0
    label_none e = entry_none c.labels i 0 e

    -- the entry that a source answers, or what stands past the end
    pub label_or : (o : Option ℕ) → o ≡ slice_get c.labels i → unwrap_or o 0 ≡ label_at (model c) i
    label_or (Some l) e = sym (label_some l e)
    label_or None e = sym (label_none e)

    pub node_some : (r : NodeRecord) → Some r ≡ slice_get c.nodes i → node_at (model c) i ≡ node_of r
    node_some r e = get_d_some node_of c.nodes i r no_node e

    pub node_none : None ≡ slice_get c.nodes i → node_at (model c) i ≡ no_node
    node_none e = get_or_none node_of c.nodes i no_node e

    pub node_or : (o : Option NodeRecord) (d : NodeRecord) → o ≡ slice_get c.nodes i → node_of d ≡ no_node → node_of (unwrap_or o d) ≡ node_at (model c) i
    node_or (Some r) d e z = sym (node_some r e)
    node_or None d e z = z ∙ sym (node_none e)

    pub move_some : (r : MoveRecord) → Some r ≡ slice_get c.moves i → move_at (model c) i ≡ move_of r
    move_some r e = get_d_some move_of c.moves i r no_move e

    pub move_none : None ≡ slice_get c.moves i → move_at (model c) i ≡ no_move
    move_none e = get_or_none move_of c.moves i no_move e

    pub move_or : (o : Option MoveRecord) (d : MoveRecord) → o ≡ slice_get c.moves i → move_of d ≡ no_move → move_of (unwrap_or o d) ≡ move_at (model c) i
    move_or (Some r) d e z = sym (move_some r e)
    move_or None d e z = z ∙ sym (move_none e)
