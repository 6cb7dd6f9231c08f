-- What parsing a text answers.
use Rattle.std.specs.Prelude.{◌≡◌, ℕ, true, false, List, [], length, take, Ok, Err, Result, nat_lt, slice_index_or}
use Rattle.faults.specs.declared.TextFault.{TextFault}
use Rattle.faults.specs.declared.Fault.{Fault}
use Rattle.faults.specs.declared.Fault.TheVariants as fault
use Rattle.faults.specs.declared.Buffer.TheVariants as buffer
use Rattle.index.specs.declared.Slot.{Slot}
use Rattle.index.specs.Keyed.{Indexed}
use Rattle.names.specs.declared.Name.{Name}
use Rattle.names.specs.Words.{name_code}
use Rattle.temporal.specs.Written.{Written, truth}
use Rattle.nodes.specs.declared.syntax.Syntax.{Syntax}
use Rattle.nodes.specs.Trees.{trees_of}
use Rattle.grammar.specs.Sections.{Contents, Form, formed, refused, form_of}
use Rattle.parser.specs.declared.parsed.Parsed.{Parsed}
use Rattle.parser.specs.declared.reader.Reader.{Reader}
use Rattle.parser.specs.declared.reader.Roots.{Roots}
use Rattle.parser.specs.Naming.{names_of, Numbered}

-- the formula at a place of the list of nodes
abbrev pub formula_at : Syntax → ℕ → Written
formula_at s i = slice_index_or (trees_of (take s.count s.nodes)) i truth

-- p holds what a text has: its names in order of appearance, each with its variable, and both formulas as written
pub record Holds (c : Contents) (p : Parsed) : Type 0 where
  pub names : names_of p.names ≡ c.names
  pub numbered : Numbered p.names
  pub initial : formula_at p.syntax p.syntax.initial ≡ c.initial
  pub safety : formula_at p.syntax p.syntax.safety ≡ c.safety

abbrev pub Given : Contents → Result Parsed Fault → Type 0
Given c (Ok p) = Holds c p
Given c (Err f) = ⊥

-- the answer to a text of this form
abbrev pub Answers : Form → Result Parsed Fault → Type 0
Answers (formed c) r = Given c r
Answers (refused f) r = r ≡ Err (fault.Text f)

-- with fewer than 2,048 slots nothing is read; otherwise the answer is what the form of the text says
abbrev pub Parses : List ℕ → ℕ → Result Parsed Fault → Type 0
Parses text slots r = elim (nat_lt slots 2048) [ true ↦ r ≡ Err (fault.Short buffer.Index) | false ↦ Answers (form_of text) r ]

-- the slots afterwards: as they were if they are too few, else all free
abbrev pub Freed : List (Slot Name) → List (Slot Name) → Type 0
Freed before after = elim (nat_lt (length before) 2048) [ true ↦ after ≡ before | false ↦ Indexed name_code after [] ]

-- the same, of a text alone
abbrev pub Forms : Form → Result Parsed TextFault → Type 0
Forms o (Ok p) = (c : Contents) × (o ≡ formed c) × Holds c p
Forms o (Err f) = o ≡ refused f

-- p has the nodes and names of the reader
pub record Kept (s : Reader) (r : Roots) (p : Parsed) : Type 0 where
  pub nodes : p.syntax.nodes ≡ s.nodes
  pub count : p.syntax.count ≡ s.count
  pub initial : p.syntax.initial ≡ r.initial
  pub safety : p.syntax.safety ≡ r.safety
  pub names : p.names ≡ s.names
