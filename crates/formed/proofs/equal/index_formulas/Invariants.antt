use Rattle.std.proofs.Common.{◌≡◌, ◌≤◌, map, length, take}
use Rattle.temporal.specs.Game.{Spec}
use Rattle.tableau.specs.Card.{Card}
use Rattle.tableau.specs.Conditions.{new_formula}
use Rattle.index.specs.Keyed.{Indexed}
use Rattle.records.specs.Raw.{entry_of}
use Rattle.rested.specs.Listing.{key_of, key_code}
use Rattle.formed.proofs.Rows.{Left}
use Rattle.formed.proofs.equal.index_formulas.Given as goal

-- what is left gives the answer, and the slots index the records entered so far
abbrev pub invariant-loop-i : goal.invariant-loop-i
invariant-loop-i l =
    length l.records ≤ 1024 → 2048 ≤ length l.slots
    → ((spec : Spec) (c : Card) → c.formulas ≡ map entry_of l.records → Left new_formula (length l.records) l.i spec c)
    × Indexed key_code l.slots (map key_of (take l.i l.records))
