-- The limits of a card's counts and kind, and the first number that is outside its limits.
use Rattle.std.specs.Prelude.{ℕ, ◌≤◌, Bool, cond, ◌&&◌, length, Some, None, Option, nat_le}
use Rattle.records.specs.Raw.{RawCard}

abbrev pub within : ℕ → ℕ → ℕ → Bool
within least largest n = nat_le least n && nat_le n largest

abbrev pub formulas_right : ℕ → Bool
formulas_right n = within 2 1024 n

abbrev pub labels_right : ℕ → Bool
labels_right n = nat_le n 4096

abbrev pub nodes_right : ℕ → Bool
nodes_right n = within 1 1024 n

abbrev pub moves_right : ℕ → Bool
moves_right n = within 1 2048 n

-- 1 is an open card, 2 a closed one
abbrev pub kind_right : ℕ → Bool
kind_right k = within 1 2 k

-- the field's number, unless the test passes: then what the tests behind it say
abbrev pub unless : Bool → ℕ → Option ℕ → Option ℕ
unless right field behind = cond right behind (Some field)

-- the first count of a card, or else the kind, that is outside its limits, by the number of its field in the trailer of a file
abbrev pub wrong_count : RawCard → Option ℕ
wrong_count c =
    unless (formulas_right (length c.formulas)) 1
    (unless (labels_right (length c.labels)) 3
    (unless (nodes_right (length c.nodes)) 5
    (unless (moves_right (length c.moves)) 7
    (unless (kind_right c.kind) 8 None))))

-- no count is above the largest that is allowed
pub record Bounded (c : RawCard) : Type 0 where
  pub formulas : length c.formulas ≤ 1024
  pub labels : length c.labels ≤ 4096
  pub nodes : length c.nodes ≤ 1024
  pub moves : length c.moves ≤ 2048
