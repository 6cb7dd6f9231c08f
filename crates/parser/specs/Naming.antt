-- The table of names: what it says of the list of names that it holds.
use Rattle.std.specs.Prelude.{◌≡◌, ℕ, ◌+◌, ◌-◌, ◌<◌, ◌≤◌, Bool, true, false, cond, List, [], ◌∷◌, length, take, drop, replicate, Some, None, Option, slice_index, slice_set}
use Rattle.std.specs.Bool.{beq}
use Rattle.std.specs.List.{slice_get}
use Rattle.index.specs.declared.Slot.{Slot}
use Rattle.index.specs.Keyed.{Indexed}
use Rattle.names.specs.declared.Name.{Name}
use Rattle.names.specs.Words.{name_code}
use Rattle.grammar.specs.Numbering.{environmental, rank, extended, variable_of}
use Rattle.parser.specs.declared.table.Names.{Names}

-- the names, in order of appearance
abbrev pub names_of : Names → List Name
names_of n = take n.count n.items

-- how many names are the environment's (true) or the system's (false)
abbrev pub of_kind : Bool → List Name → ℕ
of_kind b [] = 0
of_kind b (x ∷ xs) = cond (beq b (environmental x)) 1 0 + of_kind b xs

abbrev pub blank_name : Name
blank_name = record { bytes = replicate 15 0; length = 0 }

-- The table says of its names what they say themselves:
--   variables     beside each name stands its variable
--   few           each has fewer than 16 of its kind before it
--   environment   the environment's names are counted, and the system's
--   blank         nothing stands behind the names
pub record Numbered (n : Names) : Type 0 where
  pub variables : (i : ℕ) (x : Name) → slice_get (names_of n) i ≡ Some x → slice_index n.variables i ≡ variable_of x (names_of n)
  pub few : (i : ℕ) (x : Name) → slice_get (names_of n) i ≡ Some x → rank x (names_of n) < 16
  pub environment : n.environment ≡ of_kind true (names_of n)
  pub system : n.system ≡ of_kind false (names_of n)
  pub blank : drop n.count n.items ≡ replicate (32 - n.count) blank_name

-- the slots index the names of the table
pub record Known (slots : List (Slot Name)) (n : Names) : Type 0 where
  pub indexed : Indexed name_code slots (names_of n)
  pub roomy : 2048 ≤ length slots
  pub numbered : Numbered n

-- n' has one name more than n
pub record Appended (n : Names) (x : Name) (environment : Bool) (variable : ℕ) (n' : Names) : Type 0 where
  pub items : n'.items ≡ slice_set n.items n.count x
  pub variables : n'.variables ≡ slice_set n.variables n.count variable
  pub count : n'.count ≡ n.count + 1
  pub environments : n'.environment ≡ n.environment + cond environment 1 0
  pub systems : n'.system ≡ n.system + cond environment 0 1
  pub room : n.count < length n.items
  pub space : n.count < length n.variables

-- what declaring the name x answers: none if 16 others of its kind stand before it, else its variable, and the table has it
pub record Has (n : Names) (x : Name) (slots : List (Slot Name)) (n' : Names) (v : ℕ) : Type 0 where
  pub few : rank x (names_of n) < 16
  pub variable : v ≡ variable_of x (names_of n)
  pub names : names_of n' ≡ extended x (names_of n)
  pub known : Known slots n'

abbrev pub Declared : Names → Name → List (Slot Name) → Names → Option ℕ → Type 0
Declared n x slots n' None = 16 ≤ rank x (names_of n)
Declared n x slots n' (Some v) = Has n x slots n' v
