-- The formula that a text holds from a place on, by recursive descent.
use Rattle.std.specs.Prelude.{ℕ, zero, suc, ◌-◌, true, false, cond, List, length, Some, None, Ok, Err, Option, Result, nat_lt}
use Rattle.faults.specs.declared.Reason.{Reason}
use Rattle.faults.specs.declared.Reason.TheVariants as reason
use Rattle.faults.specs.declared.TextFault.{TextFault}
use Rattle.lexer.specs.declared.token.Lexeme.{Lexeme}
use Rattle.lexer.specs.declared.token.Operator.TheVariants as operator
use Rattle.lexer.specs.declared.token.Symbol.{Symbol}
use Rattle.lexer.specs.declared.token.Symbol.TheVariants as symbol
use Rattle.lexer.specs.declared.token.Token.{Token}
use Rattle.lexer.specs.declared.token.Token.TheVariants as token
use Rattle.lexer.specs.Lexer.{look_at, part}
use Rattle.lexer.specs.Tokens.{is_symbol, refusal_of}
use Rattle.lexer.specs.declared.bounds.Bound.{Bound}
use Rattle.lexer.specs.declared.bounds.Range.{Range}
use Rattle.lexer.specs.Bounds.{bound_in, range_in}
use Rattle.names.specs.declared.Name.{Name}
use Rattle.names.specs.Words.{name_of}
use Rattle.temporal.specs.Written.{Written, variable}
use Rattle.nodes.specs.declared.node.Connective.{Connective}
use Rattle.nodes.specs.declared.node.Connective.TheVariants as connective
use Rattle.grammar.specs.declared.head.Head.{Head}
use Rattle.grammar.specs.declared.head.Head.TheVariants as head
use Rattle.grammar.specs.declared.head.Unary.{Unary}
use Rattle.grammar.specs.declared.head.Unary.TheVariants as unary
use Rattle.nodes.specs.declared.node.Prefix.{Prefix}
use Rattle.nodes.specs.declared.node.Prefix.TheVariants as prefix
use Rattle.grammar.specs.declared.head.Prefixed.{Prefixed}
use Rattle.grammar.specs.Numbering.{rank, extended, variable_of}
use Rattle.nodes.specs.Trees.{constant_of, apply, join}

-- how a formula may begin
abbrev pub symbol_head : Symbol → Option Head
symbol_head symbol.Not = Some (head.Prefix unary.Not)
symbol_head symbol.And = None
symbol_head symbol.Or = None
symbol_head symbol.Implies = None
symbol_head symbol.Equivalent = None
symbol_head symbol.Open = Some head.Group
symbol_head symbol.Close = None
symbol_head symbol.Left = None
symbol_head symbol.Right = None
symbol_head symbol.Comma = None

abbrev pub head_of : Token → Option Head
head_of token.End = None
head_of token.Line = None
head_of token.Unknown = None
head_of token.Word = Some head.Variable
head_of (token.Constant b) = Some (head.Constant b)
head_of (token.Temporal o) = Some (head.Prefix (unary.Temporal o))
head_of (token.Number n) = None
head_of (token.Symbol s) = symbol_head s

abbrev pub symbol_of : Connective → Symbol
symbol_of connective.And = symbol.And
symbol_of connective.Or = symbol.Or
symbol_of connective.Implies = symbol.Implies
symbol_of connective.Equivalent = symbol.Equivalent

-- a place in the text, and the names of the variables met before it, in order of appearance
pub record State : Type 0 where
  pub at : ℕ
  pub names : List Name

abbrev pub moved : State → ℕ → State
moved s next = record { at = next; names = s.names }

-- a formula and the state behind it, or the refusal
pub data Out : Type 0 where
  good : Written → State → Out
  stop : TextFault → Out

abbrev pub Parser : Type 0
Parser = State → Out

abbrev pub and_then : Out → (Written → State → Out) → Out
and_then (good t s) k = k t s
and_then (stop f) k = stop f

abbrev pub refuse : Reason → ℕ → Out
refuse r place = stop (record { reason = r; place = place })

abbrev pub misplaced : Lexeme → Out
misplaced x = refuse (refusal_of x.token) x.from

-- what may stand inside a parenthesis, behind a unary operator or behind an arrow, if nesting is left:
-- a formula up to unary operators, one up to `->`, and any
pub data Inside : Type 0 where
  full : Inside
  room : Parser → Parser → Parser → Inside

-- what stands at s behind the opener at `place`
abbrev pub implication_in : Inside → ℕ → Parser
implication_in full place s = refuse reason.Nesting place
implication_in (room unary implication whole) place s = implication s

abbrev pub whole_in : Inside → ℕ → Parser
whole_in full place s = refuse reason.Nesting place
whole_in (room unary implication whole) place s = whole s

-- the bounds behind a unary operator: none, `[n]` or `[n,m]`
abbrev pub next_prefix : Result Bound TextFault → Result Prefixed TextFault
next_prefix (Ok b) = Ok (record { prefix = prefix.Next b.value; next = b.next })
next_prefix (Err f) = Err f

abbrev pub range_prefix : (ℕ → ℕ → Prefix) → Result Range TextFault → Result Prefixed TextFault
range_prefix make (Ok r) = Ok (record { prefix = make r.low r.high; next = r.next })
range_prefix make (Err f) = Err f

abbrev pub prefix_in : List ℕ → Unary → ℕ → Result Prefixed TextFault
prefix_in text unary.Not at = Ok (record { prefix = prefix.Not; next = at })
prefix_in text (unary.Temporal operator.Next) at = next_prefix (bound_in text at)
prefix_in text (unary.Temporal operator.Always) at = range_prefix (λ n m. prefix.Always n m) (range_in text at)
prefix_in text (unary.Temporal operator.Eventually) at = range_prefix (λ n m. prefix.Eventually n m) (range_in text at)

-- a unary operator before a formula
abbrev pub prefixed : Result Prefixed TextFault → Parser → State → Out
prefixed (Ok p) unary s = and_then (unary (moved s p.next)) (λ t s'. good (apply p.prefix t) s')
prefixed (Err f) unary s = stop f

abbrev pub behind : List ℕ → Inside → Unary → Lexeme → State → Out
behind text full u x s = refuse reason.Nesting x.from
behind text (room unary implication whole) u x s = prefixed (prefix_in text u x.next) unary s

-- the variable of a word: its name, and the names met so far with it
abbrev pub word_name : List ℕ → Lexeme → Name
word_name text x = name_of (part text x.from (x.next - x.from))

abbrev pub named : Name → Lexeme → State → Out
named n x s =
    cond (nat_lt (rank n s.names) 16)
    (good (variable (variable_of n s.names)) (record { at = x.next; names = extended n s.names }))
    (refuse reason.Variables x.from)

-- t, if a closing parenthesis follows
abbrev pub closed : Written → State → Lexeme → Out
closed t s x = elim (is_symbol symbol.Close x.token) [ true ↦ good t (moved s x.next) | false ↦ misplaced x ]

-- what stands at s, by how the token x begins it
abbrev pub begun : List ℕ → Inside → Lexeme → State → Option Head → Out
begun text d x s None = misplaced x
begun text d x s (Some (head.Constant b)) = good (constant_of b) (moved s x.next)
begun text d x s (Some head.Variable) = named (word_name text x) x s
begun text d x s (Some (head.Prefix u)) = behind text d u x s
begun text d x s (Some head.Group) = and_then (whole_in d x.from (moved s x.next)) (λ t s'. closed t s' (look_at text s'.at))

-- a formula up to unary operators
unfoldable pub unary_by : List ℕ → Inside → Parser
unary_by text d s = begun text d (look_at text s.at) s (head_of (look_at text s.at).token)

-- t and what further `&`, or further `|`, join to it from the left; a text has fewer of them than bytes
unfoldable pub more : List ℕ → Connective → Parser → ℕ → Written → State → Out
more text c operand zero t s = good t s
more text c operand (suc n) t s =
    elim (is_symbol (symbol_of c) (look_at text s.at).token) [
      | true ↦ and_then (operand (moved s (look_at text s.at).next)) (λ u s'. more text c operand n (join c t u) s')
      | false ↦ good t s
    ]

unfoldable pub chain_by : List ℕ → Connective → Parser → Parser
chain_by text c operand s = and_then (operand s) (more text c operand (length text))

-- t, or t and what the arrow x joins to it from the right
abbrev pub arrowed : Connective → Inside → Written → State → Lexeme → Out
arrowed c d t s x =
    elim (is_symbol (symbol_of c) x.token) [
      | true ↦ and_then (implication_in d x.from (moved s x.next)) (λ u s'. good (join c t u) s')
      | false ↦ good t s
    ]

unfoldable pub arrow_by : List ℕ → Connective → Inside → Parser → Parser
arrow_by text c d operand s = and_then (operand s) (λ t s'. arrowed c d t s' (look_at text s'.at))

-- what stands beside a binary operator: each has the next tighter one
unfoldable pub operand_by : List ℕ → Inside → Connective → Parser
operand_by text d connective.And = unary_by text d
operand_by text d connective.Or = chain_by text connective.And (unary_by text d)
operand_by text d connective.Implies = chain_by text connective.Or (chain_by text connective.And (unary_by text d))
operand_by text d connective.Equivalent =
    arrow_by text connective.Implies d (chain_by text connective.Or (chain_by text connective.And (unary_by text d)))

-- formulas up to `&` or `|`, and up to `->` or `<->`
abbrev pub chain_of : List ℕ → Inside → Connective → Parser
chain_of text d c = chain_by text c (operand_by text d c)

abbrev pub arrow_of : List ℕ → Inside → Connective → Parser
arrow_of text d c = arrow_by text c d (operand_by text d c)

-- what may stand inside, with nesting left for n
unfoldable pub inside : List ℕ → ℕ → Inside
inside text zero = full
inside text (suc n) =
    room (unary_by text (inside text n)) (arrow_of text (inside text n) connective.Implies) (arrow_of text (inside text n) connective.Equivalent)

-- any formula, with nesting left for n
abbrev pub whole_at : List ℕ → ℕ → Parser
whole_at text n = arrow_of text (inside text n) connective.Equivalent
