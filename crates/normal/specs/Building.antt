-- The list of formulas as it is built: what it stands for, and what entering one more formula does to it.
-- This is what the steps inside the crate say of each other; `Normalized` says what comes out.
use Rattle.std.specs.Prelude.{◌≡◌, ℕ, ◌-◌, ◌<◌, ◌≤◌, Bool, true, false, ◌⊎◌, List, [], ◌∷◌, length, take, drop, replicate, Some, None, Option, MatchOption, slice_index_or}
use Rattle.std.specs.List.{slice_get}
use Rattle.temporal.specs.Formula.{Formula as Tree, bot, top}
use Rattle.temporal.specs.Parts.{put, enter, parts_of, Once, Closed}
use Rattle.nodes.specs.declared.node.Node.{Node}
use Rattle.formulas.specs.declared.Formula.{Formula}
use Rattle.formulas.specs.declared.Formula.TheVariants as entry
use Rattle.formulas.specs.Entries.{entry_code}
use Rattle.formulas.specs.Trees.{grow, trees, ordered}
use Rattle.index.specs.declared.Slot.{Slot}
use Rattle.index.specs.Keyed.{Indexed}
use Rattle.normal.specs.declared.builder.Builder.{Builder}
use Rattle.normal.specs.declared.operand.Operand.{Operand}
use Rattle.normal.specs.declared.table.Formulas.{Formulas}
use Rattle.normal.specs.Operands.{formula_of, operand, place_of}

-- ── the list ──
abbrev pub entries_of : Builder → List Formula
entries_of b = take b.count b.entries

-- the formulas listed so far
unfoldable pub listed : Builder → List Tree
listed b = trees (entries_of b)

-- the list is in order and without doubles, the slots are its index, and past its end stands False
pub record Sound (slots : List (Slot Formula)) (b : Builder) : Type 0 where
  pub few : b.count ≤ 256
  pub long : length b.entries ≡ 256
  pub ordered : ordered (entries_of b) ≡ true
  pub once : Once (listed b)
  pub indexed : Indexed entry_code slots (entries_of b)
  pub room : 2048 ≤ length slots
  pub rest : drop b.count b.entries ≡ replicate (256 - b.count) entry.False

-- ── the memory ──
-- the number that is remembered for node i (true) or its negation (false)
abbrev pub recalled : Builder → Bool → ℕ → Option ℕ
recalled b s i = slice_index_or b.numbers (place_of s i) None

-- after an entry e is added, its formula is listed at k
pub record Added (slots : List (Slot Formula)) (b : Builder) (e : Formula) (after : Builder) (k : ℕ) : Type 0 where
  pub sound : Sound slots after
  pub list : listed after ≡ put (listed b) (grow (listed b) e)
  pub here : slice_get (listed after) k ≡ Some (grow (listed b) e)
  pub memory : (s : Bool) (i : ℕ) → recalled after s i ≡ recalled b s i

-- the number k is remembered for an operand, and nothing else is changed
pub record Remembers (b : Builder) (o : Operand) (k : ℕ) (after : Builder) : Type 0 where
  pub kept : after ≡ record { entries = b.entries; count = b.count; numbers = after.numbers }
  pub memory : (s : Bool) (i j : ℕ) → recalled after s i ≡ Some j
      → ((s ≡ o.sign) × (i ≡ o.node) × (j ≡ k)) ⊎ (recalled b s i ≡ Some j)

-- ── entries ──
-- the number of a constant
abbrev pub number_of : Bool → ℕ
number_of true = 1
number_of false = 0

-- a variable or its negation
abbrev pub literal_of : Bool → ℕ → Formula
literal_of true v = entry.Variable v
literal_of false v = entry.Negated v

-- ── what is done ──
-- the list begins with the constants, has the parts of what it has, and the memory is right
pub record Ready (ns : List Node) (slots : List (Slot Formula)) (b : Builder) : Type 0 where
  pub sound : Sound slots b
  pub closed : Closed (listed b)
  pub first : slice_get (listed b) 0 ≡ Some bot
  pub second : slice_get (listed b) 1 ≡ Some top
  pub memory : (s : Bool) (i k : ℕ) → recalled b s i ≡ Some k → slice_get (listed b) k ≡ Some (formula_of ns (operand i s))

-- f was entered, and has the number k
pub record Entered (ns : List Node) (slots : List (Slot Formula)) (b : Builder) (f : Tree) (after : Builder) (k : ℕ) : Type 0 where
  pub ready : Ready ns slots after
  pub list : listed after ≡ enter (listed b) f
  pub here : slice_get (listed after) k ≡ Some f

-- f was entered, or the list with f and its parts has more than 256 formulas
abbrev pub Enters : List Node → List (Slot Formula) → Builder → Tree → Builder → Option ℕ → Type 0
Enters ns slots b f after r = MatchOption r (256 < length (enter (listed b) f)) (Entered ns slots b f after)

-- e was added, or the list with its formula has more than 256
abbrev pub Adds : List (Slot Formula) → Builder → Formula → Builder → Option ℕ → Type 0
Adds slots b e after r = MatchOption r (256 < length (put (listed b) (grow (listed b) e))) (Added slots b e after)

-- ── the whole ──
-- the list holds the constants alone, whatever the nodes are
pub record Begun (slots : List (Slot Formula)) (b : Builder) : Type 0 where
  pub ready : (ns : List Node) → Ready ns slots b
  pub list : listed b ≡ bot ∷ (top ∷ [])

-- a list as it is handed on, with the numbers i and j of its two formulas
pub record Finished (b : Builder) (i j : ℕ) (f : Formulas) : Type 0 where
  pub table : f.table ≡ b.entries
  pub count : f.count ≡ b.count
  pub initial : f.initial ≡ i
  pub safety : f.safety ≡ j

-- the two constants, and the formulas of two nodes with all their parts, each once
abbrev pub parts_for : List Node → ℕ → ℕ → List Tree
parts_for ns p q = parts_of (formula_of ns (operand p true)) (formula_of ns (operand q true))

-- the list of two nodes' formulas, as it is handed on
pub record Listed (ns : List Node) (p q : ℕ) (slots : List (Slot Formula)) (f : Formulas) : Type 0 where
  pub short : length (parts_for ns p q) ≤ 256
  pub list : trees (take f.count f.table) ≡ parts_for ns p q
  pub initial : slice_get (parts_for ns p q) f.initial ≡ Some (formula_of ns (operand p true))
  pub safety : slice_get (parts_for ns p q) f.safety ≡ Some (formula_of ns (operand q true))
  pub rest : drop f.count f.table ≡ replicate (256 - f.count) entry.False
  pub indexed : Indexed entry_code slots (take f.count f.table)

-- that list, or the parts are too many
abbrev pub ListedBy : List Node → ℕ → ℕ → List (Slot Formula) → Option Formulas → Type 0
ListedBy ns p q slots r = MatchOption r (256 < length (parts_for ns p q)) (Listed ns p q slots)
