-- The grammar in its own words: which part of a text shows which formula.
use Rattle.std.specs.Prelude.{◌≡◌, ℕ, zero, suc, ◌<◌, ◌≤◌, Bool, true, false, List, [], ◌∷◌, length, Some, codes}
use Rattle.lexer.specs.declared.token.Operator.TheVariants as temporal
use Rattle.lexer.specs.declared.token.Symbol.{Symbol}
use Rattle.lexer.specs.declared.token.Symbol.TheVariants as symbol
use Rattle.lexer.specs.Lexer.{look_at}
use Rattle.lexer.specs.Tokens.{is_line, is_end, is_symbol, number_of}
use Rattle.names.specs.declared.Name.{Name}
use Rattle.temporal.specs.Written.{Written, variable, conjunction, WrittenFine}
use Rattle.nodes.specs.declared.node.Connective.{Connective}
use Rattle.nodes.specs.declared.node.Connective.TheVariants as connective
use Rattle.grammar.specs.declared.head.Head.TheVariants as head
use Rattle.grammar.specs.declared.head.Unary.{Unary}
use Rattle.grammar.specs.declared.head.Unary.TheVariants as operator
use Rattle.nodes.specs.declared.node.Prefix.{Prefix}
use Rattle.nodes.specs.declared.node.Prefix.TheVariants as prefix
use Rattle.grammar.specs.Numbering.{rank, extended, variable_of, environment_names, system_names, Distinct}
use Rattle.nodes.specs.Trees.{constant_of, apply, join}
use Rattle.grammar.specs.Grammar.{State, moved, head_of, word_name}
use Rattle.grammar.specs.Sections.{is_this, is_true, Contents, formed, form_of}

-- the place behind k tokens
abbrev pub skip : List ℕ → ℕ → ℕ → ℕ
skip text zero a = a
skip text (suc k) a = skip text k (look_at text a).next

abbrev pub Sign : List ℕ → Symbol → ℕ → Type 0
Sign text s a = is_symbol s (look_at text a).token ≡ true

abbrev pub Numeral : List ℕ → ℕ → ℕ → Type 0
Numeral text n a = number_of (look_at text a).token ≡ Some n

-- from a to b stands `[n]`, with 1 ≤ n ≤ 4,095
pub record OneBound (text : List ℕ) (a b n : ℕ) : Type 0 where
  pub left : Sign text symbol.Left a
  pub value : Numeral text n (skip text 1 a)
  pub right : Sign text symbol.Right (skip text 2 a)
  pub end : b ≡ skip text 3 a
  pub least : 1 ≤ n
  pub most : n ≤ 4095

-- from a to b stands `[n,m]`, with n ≤ m ≤ 4,095
pub record TwoBounds (text : List ℕ) (a b n m : ℕ) : Type 0 where
  pub left : Sign text symbol.Left a
  pub low : Numeral text n (skip text 1 a)
  pub comma : Sign text symbol.Comma (skip text 2 a)
  pub high : Numeral text m (skip text 3 a)
  pub right : Sign text symbol.Right (skip text 4 a)
  pub end : b ≡ skip text 5 a
  pub ordered : n ≤ m
  pub most : m ≤ 4095

-- from a to b stand the bounds of a unary operator: none behind `-`, none (which is 1) or one behind X, two behind G and F
pub data Bounds (text : List ℕ) : Unary → ℕ → ℕ → Prefix → Type 0 where
  not_bounds : {a : ℕ} → Bounds text operator.Not a a prefix.Not
  next_alone : {a : ℕ} → is_symbol symbol.Left (look_at text a).token ≡ false → Bounds text (operator.Temporal temporal.Next) a a (prefix.Next 1)
  next_bound : {a b n : ℕ} → OneBound text a b n → Bounds text (operator.Temporal temporal.Next) a b (prefix.Next n)
  always_bounds : {a b n m : ℕ} → TwoBounds text a b n m → Bounds text (operator.Temporal temporal.Always) a b (prefix.Always n m)
  eventually_bounds : {a b n m : ℕ} → TwoBounds text a b n m
      → Bounds text (operator.Temporal temporal.Eventually) a b (prefix.Eventually n m)

-- how loosely a formula may be joined: up to unary operators, or up to a binary one
pub data Level : Type 0 where
  unary : Level
  up_to : Connective → Level

-- each binary operator has operands of the next tighter level
abbrev pub operand_level : Connective → Level
operand_level connective.And = unary
operand_level connective.Or = up_to connective.And
operand_level connective.Implies = up_to connective.Or
operand_level connective.Equivalent = up_to connective.Implies

-- from state a to state b the text shows the formula t at a level, with nesting for at most n. `&` and `|` group from the left,
-- `->` from the right, `<->` does not chain; parentheses, unary operators and the right sides of arrows take nesting
pub data Shows (text : List ℕ) : Level → ℕ → State → State → Written → Type 0 where
  shows_constant : {n : ℕ} {a : State} (b : Bool) → head_of (look_at text a.at).token ≡ Some (head.Constant b)
      → Shows text unary n a (moved a (look_at text a.at).next) (constant_of b)
  shows_variable : {n : ℕ} {a : State} (x : Name) → head_of (look_at text a.at).token ≡ Some head.Variable
      → x ≡ word_name text (look_at text a.at) → rank x a.names < 16
      → Shows text unary n a (record { at = (look_at text a.at).next; names = extended x a.names }) (variable (variable_of x a.names))
  shows_unary : {n : ℕ} {a b : State} {t : Written} (u : Unary) (next : ℕ) (p : Prefix) → head_of (look_at text a.at).token ≡ Some (head.Prefix u)
      → Bounds text u (look_at text a.at).next next p → Shows text unary n (moved a next) b t
      → Shows text unary (suc n) a b (apply p t)
  shows_group : {n : ℕ} {a b : State} {t : Written} → head_of (look_at text a.at).token ≡ Some head.Group
      → Shows text (up_to connective.Equivalent) n (moved a (look_at text a.at).next) b t
      → is_symbol symbol.Close (look_at text b.at).token ≡ true → Shows text unary (suc n) a (moved b (look_at text b.at).next) t
  shows_operand : {n : ℕ} {a b : State} {t : Written} (c : Connective) → Shows text (operand_level c) n a b t → Shows text (up_to c) n a b t
  shows_and : {n : ℕ} {a b c : State} {t u : Written} → Shows text (up_to connective.And) n a b t
      → is_symbol symbol.And (look_at text b.at).token ≡ true
      → Shows text unary n (moved b (look_at text b.at).next) c u
      → Shows text (up_to connective.And) n a c (join connective.And t u)
  shows_or : {n : ℕ} {a b c : State} {t u : Written} → Shows text (up_to connective.Or) n a b t
      → is_symbol symbol.Or (look_at text b.at).token ≡ true
      → Shows text (up_to connective.And) n (moved b (look_at text b.at).next) c u
      → Shows text (up_to connective.Or) n a c (join connective.Or t u)
  shows_implies : {n : ℕ} {a b c : State} {t u : Written} → Shows text (up_to connective.Or) (suc n) a b t
      → is_symbol symbol.Implies (look_at text b.at).token ≡ true
      → Shows text (up_to connective.Implies) n (moved b (look_at text b.at).next) c u
      → Shows text (up_to connective.Implies) (suc n) a c (join connective.Implies t u)
  shows_equivalent : {n : ℕ} {a b c : State} {t u : Written} → Shows text (up_to connective.Implies) (suc n) a b t
      → is_symbol symbol.Equivalent (look_at text b.at).token ≡ true
      → Shows text (up_to connective.Implies) n (moved b (look_at text b.at).next) c u
      → Shows text (up_to connective.Equivalent) (suc n) a c (join connective.Equivalent t u)

-- from a to b there are line ends only
pub data Blank (text : List ℕ) : ℕ → ℕ → Type 0 where
  none : {a : ℕ} → Blank text a a
  line : {a b : ℕ} → is_line (look_at text a).token ≡ true → Blank text (look_at text a).next b → Blank text a b

-- from a to b stand these words
pub data Words (text : List ℕ) : List (List ℕ) → ℕ → ℕ → Type 0 where
  done : {a : ℕ} → Words text [] a a
  word : {a b : ℕ} {w : List ℕ} {ws : List (List ℕ)} → is_this text w (look_at text a) ≡ true → Words text ws (look_at text a).next b
      → Words text (w ∷ ws) a b

-- a line of these words, behind blank lines
pub record Header (text : List ℕ) (ws : List (List ℕ)) (a b : ℕ) : Type 0 where
  pub begin : ℕ
  pub end : ℕ
  pub blank : Blank text a begin
  pub words : Words text ws begin end
  pub line_end : is_line (look_at text end).token ≡ true
  pub next : b ≡ (look_at text end).next

-- a formula on a line of its own, behind blank lines
pub record Line (text : List ℕ) (a b : State) (t : Written) : Type 0 where
  pub begin : ℕ
  pub end : State
  pub blank : Blank text a.at begin
  pub shows : Shows text (up_to connective.Equivalent) 32 (moved a begin) end t
  pub line_end : is_line (look_at text end.at).token ≡ true
  pub next : b ≡ moved end (look_at text end.at).next

-- one or more such lines, joined by `&` from the left
pub data Lines (text : List ℕ) : State → State → Written → Type 0 where
  first : {a b : State} {t : Written} → Line text a b t → Lines text a b t
  further : {a b c : State} {t u : Written} → Lines text a b t → Line text b c u → Lines text a c (conjunction t u)

-- the third section, up to the end of the text
pub record Third (text : List ℕ) (a : ℕ) : Type 0 where
  pub header : ℕ
  pub begin : ℕ
  pub end : ℕ
  pub title : Header text (codes "Environment" ∷ codes "Global" ∷ codes "Constraints" ∷ []) a header
  pub blank : Blank text header begin
  pub true_line : is_true (look_at text begin).token ≡ true
  pub blanks : Blank text (look_at text begin).next end
  pub ended : is_end (look_at text end).token ≡ true

-- the text derives its contents: at most 1,024 bytes, three sections in their order
pub record Derives (text : List ℕ) (c : Contents) : Type 0 where
  pub short : length text ≤ 1024
  pub initial_begin : ℕ
  pub initial_end : State
  pub safety_begin : ℕ
  pub safety_end : State
  pub initial_header : Header text (codes "Initial" ∷ codes "Formula" ∷ []) 0 initial_begin
  pub initial_line : Line text (record { at = initial_begin; names = [] }) initial_end c.initial
  pub safety_header : Header text (codes "Safety" ∷ codes "Formula" ∷ []) initial_end.at safety_begin
  pub safety_lines : Lines text (record { at = safety_begin; names = initial_end.names }) safety_end c.safety
  pub third : Third text safety_end.at
  pub names : c.names ≡ safety_end.names

-- the reader's form of a text is exactly what the grammar derives
abbrev pub ReadsWhatIsDerived : Type 0
ReadsWhatIsDerived = (text : List ℕ) (c : Contents) → (form_of text ≡ formed c → Derives text c) × (Derives text c → form_of text ≡ formed c)

-- a text derives one contents at most
abbrev pub DerivationIsUnique : Type 0
DerivationIsUnique = (text : List ℕ) (c d : Contents) → Derives text c → Derives text d → c ≡ d

-- contents as they are meant to be: no name twice, at most 16 of each kind, each variable one of them,
-- bounds in order and at most 4,095, at least 1 in X
pub record FineContents (c : Contents) : Type 0 where
  pub distinct : Distinct c.names
  pub environment : length (environment_names c.names) ≤ 16
  pub system : length (system_names c.names) ≤ 16
  pub initial : WrittenFine (length (environment_names c.names)) (length (system_names c.names)) c.initial
  pub safety : WrittenFine (length (environment_names c.names)) (length (system_names c.names)) c.safety

abbrev pub DerivedFormulasAreFine : Type 0
DerivedFormulasAreFine = (text : List ℕ) (c : Contents) → form_of text ≡ formed c → FineContents c
