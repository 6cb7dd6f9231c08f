-- The list of a text's formulas in normal form.
use Rattle.std.specs.Prelude.{◌≡◌, ℕ, ◌-◌, ◌<◌, ◌≤◌, true, List, length, take, drop, replicate, Some, Ok, Err, Result, slice_index_or}
use Rattle.std.specs.List.{slice_get}
use Rattle.temporal.specs.Formula.{Formula as Tree}
use Rattle.temporal.specs.Written.{truth, normal}
use Rattle.temporal.specs.Parts.{parts_of}
use Rattle.nodes.specs.declared.syntax.Syntax.{Syntax}
use Rattle.nodes.specs.Trees.{trees_of}
use Rattle.formulas.specs.declared.Formula.{Formula}
use Rattle.formulas.specs.declared.Formula.TheVariants.{False}
use Rattle.formulas.specs.Entries.{entry_code}
use Rattle.formulas.specs.Trees.{trees}
use Rattle.index.specs.declared.Slot.{Slot}
use Rattle.index.specs.Keyed.{Indexed}
use Rattle.normal.specs.declared.table.Formulas.{Formulas}
use Rattle.normal.specs.declared.table.Refusal.{Refusal}
use Rattle.normal.specs.declared.table.Refusal.TheVariants.{Short, TooMany}

-- the normal form of node i
abbrev pub form_at : Syntax → ℕ → Tree
form_at s i = normal true (slice_index_or (trees_of (take s.count s.nodes)) i truth)

-- the normal forms of the two formulas
abbrev pub initial_of : Syntax → Tree
initial_of s = form_at s s.initial

abbrev pub safety_of : Syntax → Tree
safety_of s = form_at s s.safety

-- the two constants, and both formulas with all their parts, each once
abbrev pub parts_in : Syntax → List Tree
parts_in s = parts_of (initial_of s) (safety_of s)

-- f is the list of the formulas of s:
--   list      its entries stand for the parts, in their order
--   initial   the initial formula has the number that f says
--   safety    so has the safety formula
--   rest      what is past the count is False
pub record Lists (s : Syntax) (f : Formulas) : Type 0 where
  pub list : trees (take f.count f.table) ≡ parts_in s
  pub initial : slice_get (parts_in s) f.initial ≡ Some (initial_of s)
  pub safety : slice_get (parts_in s) f.safety ≡ Some (safety_of s)
  pub rest : drop f.count f.table ≡ replicate (256 - f.count) False

-- what comes of s with n slots: refused if there are fewer than 2,048 slots, else if there are more than 256 parts, else the list
abbrev pub Normalized : Syntax → ℕ → Result Formulas Refusal → Type 0
Normalized s n (Err Short) = n < 2048
Normalized s n (Err TooMany) = (2048 ≤ n) × (256 < length (parts_in s))
Normalized s n (Ok f) = (2048 ≤ n) × (length (parts_in s) ≤ 256) × Lists s f

-- what the slots hold then: what they held if they are too few, and an index of the list if there is one
abbrev pub Leaves : List (Slot Formula) → Result Formulas Refusal → List (Slot Formula) → Type 0
Leaves before (Err Short) after = after ≡ before
Leaves before (Err TooMany) after = length after ≡ length before
Leaves before (Ok f) after = Indexed entry_code after (take f.count f.table)
