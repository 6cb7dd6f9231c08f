-- A card as its records say it, and the card without limits that they stand for.
use Rattle.std.specs.Prelude.{cond, List, map, ℕ, eqb}
use Rattle.tableau.specs.Moves.{Target, end, node, Move}
use Rattle.tableau.specs.Card.{Entry, Node, Card}
use Rattle.records.specs.declared.FormulaRecord.{FormulaRecord}
use Rattle.records.specs.declared.NodeRecord.{NodeRecord}
use Rattle.records.specs.declared.MoveRecord.{MoveRecord}

-- the records of a card, list by list
pub record RawCard : Type 0 where
  pub kind : ℕ
  pub formulas : List FormulaRecord
  pub labels : List ℕ
  pub nodes : List NodeRecord
  pub moves : List MoveRecord

abbrev pub entry_of : FormulaRecord → Entry
entry_of f = record { kind = f.kind; variable = f.variable; a = f.a; b = f.b; n = f.n; m = f.m }

abbrev pub node_of : NodeRecord → Node
node_of x = record {
  first_label = x.first_label;
  label_count = x.label_count;
  first_move = x.first_move;
  move_count = x.move_count;
}

-- the end is written 65,535
abbrev pub target_of : ℕ → Target
target_of t = cond (eqb t 65535) end (node t)

abbrev pub move_of : MoveRecord → Move
move_of x = record {
  env_mask = x.env_mask;
  env_values = x.env_values;
  sys_mask = x.sys_mask;
  sys_values = x.sys_values;
  target = target_of x.target;
}

-- the card that records stand for
abbrev pub model : RawCard → Card
model c = record {
  kind = c.kind;
  formulas = map entry_of c.formulas;
  labels = c.labels;
  nodes = map node_of c.nodes;
  moves = map move_of c.moves;
}
