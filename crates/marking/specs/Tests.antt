-- Tests on single entries.
use Rattle.std.specs.Prelude.{ℕ, Bool, true, not, ◌==◌}
use Rattle.tableau.specs.Card.{CardKind, opened, closed}

-- a label entry by the number of its formula: in an open card it is not 0, which is false
abbrev pub label_number_kept : CardKind → ℕ → Bool
label_number_kept opened l = not (l == 0)
label_number_kept closed l = true
