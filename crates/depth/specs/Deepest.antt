-- Depths held in an array, and the deepest target of moves in a row.
use Rattle.std.specs.Prelude.{ℕ, List, map, slice_index}
use Rattle.tableau.specs.Lists.{span}
use Rattle.tableau.specs.Card.{Card, move_at}
use Rattle.tableau.specs.Judge.{deepest}

-- the depth held for node k; past the end of the array it is 0
abbrev pub held_depth : List ℕ → ℕ → ℕ
held_depth depths k = slice_index depths k

-- the largest depth of the targets of so many moves of a card, from the first on
abbrev pub deepest_from : Card → (ℕ → ℕ) → ℕ → ℕ → ℕ
deepest_from c d count first = deepest d (map (move_at c) (span count first))
