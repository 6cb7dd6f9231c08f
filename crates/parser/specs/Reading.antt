-- What a reader holds, and what it did when it read a formula.
use Rattle.std.specs.Prelude.{◌≡◌, ℕ, suc, ◌+◌, ◌<◌, ◌≤◌, List, [], length, take, Ok, Err, Result, slice_index_or}
use Rattle.faults.specs.declared.Reason.TheVariants as reason
use Rattle.faults.specs.declared.TextFault.{TextFault}
use Rattle.lexer.specs.declared.token.Lexeme.{Lexeme}
use Rattle.lexer.specs.Tokens.{fault_of}
use Rattle.index.specs.declared.Slot.{Slot}
use Rattle.names.specs.declared.Name.{Name}
use Rattle.temporal.specs.Written.{Written, truth}
use Rattle.nodes.specs.declared.node.Connective.{Connective}
use Rattle.nodes.specs.declared.node.Node.{Node}
use Rattle.nodes.specs.Trees.{grow, trees_of}
use Rattle.grammar.specs.Grammar.{State, Out, Parser, good, stop, named, word_name, unary_by, operand_by, chain_of, arrow_of, inside}
use Rattle.grammar.specs.Sections.{Form, formed, refused}
use Rattle.parser.specs.declared.reader.Cursor.{Cursor}
use Rattle.parser.specs.declared.reader.Reader.{Reader}
use Rattle.parser.specs.declared.reader.Part.{Part}
use Rattle.parser.specs.declared.reader.Roots.{Roots}
use Rattle.parser.specs.Naming.{Known, Numbered, names_of}

-- the nodes so far, and the formula at a place among them
abbrev pub listed : Reader → List Node
listed s = take s.count s.nodes

abbrev pub tree_at : Reader → ℕ → Written
tree_at s i = slice_index_or (trees_of (listed s)) i truth

-- the reader's state to the grammar
abbrev pub state_at : Reader → ℕ → State
state_at s at = record { at = at; names = names_of s.names }

-- A reader may read on at `at`: each node so far took a byte, and the names are indexed.
pub record Ready (slots : List (Slot Name)) (s : Reader) (at : ℕ) : Type 0 where
  pub few : s.count ≤ at
  pub known : Known slots s.names

-- the token x has bytes, and stands in the text at `at` or after it
pub record Ahead (text : List ℕ) (at : ℕ) (x : Lexeme) : Type 0 where
  pub after : at ≤ x.from
  pub bytes : x.from < x.next
  pub in_text : x.next ≤ length text

-- The reader s read a part from `at` on and is now s': it went on in the text, each new node took a byte, and `spare` bytes are left
-- over; the formulas that it had stay as they were.
pub record Went (spare : ℕ) (text : List ℕ) (at : ℕ) (s s' : Reader) (slots : List (Slot Name)) (p : Part) : Type 0 where
  pub onward : at ≤ p.next
  pub in_text : p.next ≤ length text
  pub few : s'.count + at + spare ≤ p.next + s.count
  pub root : p.root < s'.count
  pub grown : s.count ≤ s'.count
  pub kept : (i : ℕ) → i < s.count → tree_at s' i ≡ tree_at s i
  pub known : Known slots s'.names

-- What a reader answers is the outcome o: the formula stands at the part's root, or the refusal is the same.
abbrev pub Reads : ℕ → Out → List ℕ → ℕ → Reader → Reader → List (Slot Name) → Result Part TextFault → Type 0
Reads spare o text at s s' slots (Ok p) =
    (o ≡ good (tree_at s' p.root) (state_at s' p.next)) × Went spare text at s s' slots p
Reads spare o text at s s' slots (Err f) = o ≡ stop f

-- what the parser `by` makes of the text from the cursor c and the reader's state on
abbrev pub ReadsBy : ℕ → (List ℕ → Parser) → Cursor → Reader → Reader → List (Slot Name) → Result Part TextFault → Type 0
ReadsBy spare by c s s' slots r = Reads spare (by c.text.now (state_at s c.at)) c.text.now c.at s s' slots r

-- the nesting left behind the opener x where n is left before it: one less, or a refusal where there is none
abbrev pub Deeper : ℕ → Lexeme → Result ℕ TextFault → Type 0
Deeper n x (Ok m) = n ≡ suc m
Deeper n x (Err f) = (n ≡ 0) × (f ≡ fault_of reason.Nesting x)

-- the grammar's parsers with nesting left for n
abbrev pub unary_with : ℕ → List ℕ → Parser
unary_with n text = unary_by text (inside text n)

abbrev pub operand_with : ℕ → Connective → List ℕ → Parser
operand_with n c text = operand_by text (inside text n) c

abbrev pub chain_with : ℕ → Connective → List ℕ → Parser
chain_with n c text = chain_of text (inside text n) c

abbrev pub arrow_with : ℕ → Connective → List ℕ → Parser
arrow_with n c text = arrow_of text (inside text n) c

-- the variable that the word x names
abbrev pub variable_with : Lexeme → List ℕ → Parser
variable_with x text s = named (word_name text x) x s

-- s' has one node more than s, and p is its part of the text, which goes on at n
pub record Pushed (s : Reader) (x : Node) (n : ℕ) (s' : Reader) (p : Part) : Type 0 where
  pub root : p.root ≡ s.count
  pub next : p.next ≡ n
  pub count : s'.count ≡ s.count + 1
  pub names : s'.names ≡ s.names
  pub kept : (i : ℕ) → i < s.count → tree_at s' i ≡ tree_at s i
  pub top : tree_at s' p.root ≡ grow (trees_of (listed s)) x

-- a reader that has read nothing
pub record Begun (s : Reader) : Type 0 where
  pub none : s.count ≡ 0
  pub names : names_of s.names ≡ []
  pub numbered : Numbered s.names

-- both formulas are among the nodes
pub record Rooted (s : Reader) (r : Roots) : Type 0 where
  pub initial : r.initial < s.count
  pub safety : r.safety < s.count

-- The form o of a text is what the reader holds: the names, and the formulas at the two roots.
abbrev pub Sectioned : Form → Reader → Result Roots TextFault → Type 0
Sectioned o s (Ok r) =
    (o ≡ formed (record { names = names_of s.names; initial = tree_at s r.initial; safety = tree_at s r.safety }))
    × Rooted s r × Numbered s.names
Sectioned o s (Err f) = o ≡ refused f
