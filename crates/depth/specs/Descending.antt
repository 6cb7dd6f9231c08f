-- When the depths of a card's nodes can be taken from the last node to the first.
use Rattle.std.specs.Prelude.{ℕ, ◌<◌, ◌≤◌, length}
use Rattle.tableau.specs.Card.{closed, move_at}
use Rattle.tableau.specs.Acceptable.{MoveOf, TargetKept}
use Rattle.records.specs.Raw.{RawCard, model}

-- not too many nodes, and every target of a node's moves is the end or a node above it
pub record Descending (c : RawCard) : Type 0 where
  pub few : length c.nodes ≤ 1024
  pub targets : (n m : ℕ) → n < length c.nodes → MoveOf (model c) n m
      → TargetKept closed (length c.nodes) n (move_at (model c) m).target
