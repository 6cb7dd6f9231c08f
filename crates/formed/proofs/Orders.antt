-- The conditions on the form of entries, list by list.
use Rattle.std.proofs.Common.{List, ◌++◌, map, length}
use Rattle.tableau.specs.Lists.{span}
use Rattle.tableau.specs.Card.{Card}
use Rattle.tableau.specs.Conditions.{Condition, formula_form, label_form, node_form, move_form}

abbrev pub formula_conditions : Card → List Condition
formula_conditions c = map formula_form (span (length c.formulas) 0)

abbrev pub label_conditions : Card → List Condition
label_conditions c = map label_form (span (length c.labels) 0)

abbrev pub node_conditions : Card → List Condition
node_conditions c = map node_form (span (length c.nodes) 0)

abbrev pub move_conditions : Card → List Condition
move_conditions c = map move_form (span (length c.moves) 0)

-- those behind the formulas, and behind the labels
abbrev pub from_nodes : Card → List Condition
from_nodes c = node_conditions c ++ move_conditions c

abbrev pub from_labels : Card → List Condition
from_labels c = label_conditions c ++ from_nodes c
