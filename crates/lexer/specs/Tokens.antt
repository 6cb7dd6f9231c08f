-- What a token is to the grammar.
use Rattle.std.specs.Prelude.{ℕ, Bool, true, false, Some, None, Option, ◌==◌}
use Rattle.faults.specs.declared.Reason.{Reason}
use Rattle.faults.specs.declared.Reason.TheVariants as reason
use Rattle.faults.specs.declared.TextFault.{TextFault}
use Rattle.lexer.specs.declared.token.Lexeme.{Lexeme}
use Rattle.lexer.specs.declared.token.Symbol.{Symbol}
use Rattle.lexer.specs.declared.token.Symbol.TheVariants as symbol
use Rattle.lexer.specs.declared.token.Token.{Token}
use Rattle.lexer.specs.declared.token.Token.TheVariants as token

abbrev pub symbol_number : Symbol → ℕ
symbol_number symbol.Not = 0
symbol_number symbol.And = 1
symbol_number symbol.Or = 2
symbol_number symbol.Implies = 3
symbol_number symbol.Equivalent = 4
symbol_number symbol.Open = 5
symbol_number symbol.Close = 6
symbol_number symbol.Left = 7
symbol_number symbol.Right = 8
symbol_number symbol.Comma = 9

-- the token is this symbol
abbrev pub is_symbol : Symbol → Token → Bool
is_symbol s token.End = false
is_symbol s token.Line = false
is_symbol s token.Unknown = false
is_symbol s token.Word = false
is_symbol s (token.Constant b) = false
is_symbol s (token.Temporal o) = false
is_symbol s (token.Number n) = false
is_symbol s (token.Symbol own) = symbol_number own == symbol_number s

abbrev pub is_line : Token → Bool
is_line token.End = false
is_line token.Line = true
is_line token.Unknown = false
is_line token.Word = false
is_line (token.Constant b) = false
is_line (token.Temporal o) = false
is_line (token.Number n) = false
is_line (token.Symbol s) = false

abbrev pub is_end : Token → Bool
is_end token.End = true
is_end token.Line = false
is_end token.Unknown = false
is_end token.Word = false
is_end (token.Constant b) = false
is_end (token.Temporal o) = false
is_end (token.Number n) = false
is_end (token.Symbol s) = false

-- why a token is refused where it may not stand
abbrev pub refusal_of : Token → Reason
refusal_of token.End = reason.Misplaced
refusal_of token.Line = reason.Misplaced
refusal_of token.Unknown = reason.Unknown
refusal_of token.Word = reason.Misplaced
refusal_of (token.Constant b) = reason.Misplaced
refusal_of (token.Temporal o) = reason.Misplaced
refusal_of (token.Number n) = reason.Misplaced
refusal_of (token.Symbol s) = reason.Misplaced

-- the refusal for a reason at the place where the token x begins
abbrev pub fault_of : Reason → Lexeme → TextFault
fault_of r x = record { reason = r; place = x.from }

abbrev pub number_of : Token → Option ℕ
number_of token.End = None
number_of token.Line = None
number_of token.Unknown = None
number_of token.Word = None
number_of (token.Constant b) = None
number_of (token.Temporal o) = None
number_of (token.Number n) = Some n
number_of (token.Symbol s) = None
