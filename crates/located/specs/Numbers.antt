-- The numbers that a specification's formulas have in a card's list.
use Rattle.std.specs.Prelude.{◌≡◌, ℕ, ◌<◌, ◌≤◌, true, false, List, length, Some, None, Option, slice_index, slice_index_or}
use Rattle.temporal.specs.Formula.{bot}
use Rattle.temporal.specs.Parts.{member}
use Rattle.formulas.specs.declared.Formula.{Formula}
use Rattle.formulas.specs.declared.Formula.TheVariants as entry
use Rattle.formulas.specs.Trees.{trees, ordered}
use Rattle.index.specs.declared.Slot.{Slot}
use Rattle.records.specs.declared.FormulaRecord.{FormulaRecord}
use Rattle.records.specs.Table.{formulas_of}
use Rattle.rested.specs.declared.key.FormulaKey.{FormulaKey}
use Rattle.rested.specs.Listing.{Ready}
use Rattle.rested.specs.Rests.{Placed}

-- an entry with its parts by the numbers that they have in a list
abbrev pub renumbered : List ℕ → Formula → Formula
renumbered numbers entry.False = entry.False
renumbered numbers entry.True = entry.True
renumbered numbers (entry.Variable v) = entry.Variable v
renumbered numbers (entry.Negated v) = entry.Negated v
renumbered numbers (entry.And a b) = entry.And (slice_index numbers a) (slice_index numbers b)
renumbered numbers (entry.Or a b) = entry.Or (slice_index numbers a) (slice_index numbers b)
renumbered numbers (entry.Next n a) = entry.Next n (slice_index numbers a)
renumbered numbers (entry.Always n m a) = entry.Always n m (slice_index numbers a)
renumbered numbers (entry.Eventually n m a) = entry.Eventually n m (slice_index numbers a)

-- the first n formulas of the entries have these numbers in the list of records
abbrev pub NumberedBelow : ℕ → List Formula → List FormulaRecord → List ℕ → Type 0
NumberedBelow n es rs numbers = (k : ℕ) → k < n → Placed (formulas_of rs) (slice_index_or (trees es) k bot) (Some (slice_index numbers k))

-- an answer gives the numbers of all formulas of the entries, or there is a formula that the list of records lacks
abbrev pub NumberedOrNot : List Formula → List FormulaRecord → Option (List ℕ) → Type 0
NumberedOrNot es rs None = (k : ℕ) × (k < length es) × (member (slice_index_or (trees es) k bot) (formulas_of rs) ≡ false)
NumberedOrNot es rs (Some numbers) = NumberedBelow (length es) es rs numbers

-- so it is of every list that the slots index, where parts come before wholes
abbrev pub Numbers : List Formula → List (Slot FormulaKey) → Option (List ℕ) → Type 0
Numbers es slots r = (rs : List FormulaRecord) → Ready rs slots → ordered es ≡ true → length es ≤ 256 → NumberedOrNot es rs r
