-- Kinds and targets of the code, as the definitions of cards name them.
use Rattle.std.specs.Prelude.{ℕ}
use Rattle.tableau.specs.Moves.{Target as CardTarget, end, node}
use Rattle.tableau.specs.Card.{CardKind, opened, closed}
use Rattle.card.specs.declared.entries.Kind.{Kind}
use Rattle.card.specs.declared.entries.Kind.TheVariants.{Open, Closed}
use Rattle.card.specs.declared.entries.Target.{Target}
use Rattle.card.specs.declared.entries.Target.TheVariants.{End, Node}

abbrev pub kind_named : Kind → CardKind
kind_named Open = opened
kind_named Closed = closed

abbrev pub kind_number : Kind → ℕ
kind_number Open = 1
kind_number Closed = 2

abbrev pub target_named : Target → CardTarget
target_named End = end
target_named (Node k) = node k
