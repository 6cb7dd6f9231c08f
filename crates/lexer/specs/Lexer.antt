-- The tokens of a text, by longest match.
use Rattle.std.specs.Prelude.{◌≡◌, ℕ, ◌+◌, ◌-◌, ◌*◌, ◌<◌, ◌≤◌, min, Bool, true, false, cond, ◌&&◌, ◌||◌, ◌⊎◌, List, length, take, drop, codes, fold, ◌==◌, nat_le, nat_lt, slice_index}
use Rattle.std.specs.Char.{is_ascii_digit, is_ascii_alphabetic, is_ascii_alphanumeric}
use Rattle.std.specs.List.{prefix_len}
use Rattle.std.specs.Str.{bytes_eq}
use Rattle.lexer.specs.declared.look.Class.{Class}
use Rattle.lexer.specs.declared.look.Class.TheVariants.{Space, Digit, Letter}
use Rattle.lexer.specs.declared.token.Lexeme.{Lexeme}
use Rattle.lexer.specs.declared.token.Operator.TheVariants as operator
use Rattle.lexer.specs.declared.token.Symbol.{Symbol}
use Rattle.lexer.specs.declared.token.Symbol.TheVariants as symbol
use Rattle.lexer.specs.declared.token.Token.{Token}
use Rattle.lexer.specs.declared.token.Token.TheVariants as token
use Rattle.lexer.specs.Tokens.{is_end}

-- the space is byte 32 alone; words have letters, digits and underscores
abbrev pub is_in : Class → ℕ → Bool
is_in Space b = b == 32
is_in Digit b = is_ascii_digit b
is_in Letter b = is_ascii_alphanumeric b || b == 95

-- how many bytes of one class stand from `from` on
abbrev pub run : Class → List ℕ → ℕ → ℕ
run k text from = prefix_len (is_in k) (drop from text)

-- the n bytes from `from` on
abbrev pub part : List ℕ → ℕ → ℕ → List ℕ
part text from n = take n (drop from text)

-- a number in decimal digits; all above 4,095 count as 4,096
abbrev pub numeral : List ℕ → ℕ
numeral ds = fold (λ v d. min (v * 10 + (d - 48)) 4096) 0 ds

-- a word is too long past 15 bytes, reserved, or any other word
abbrev pub word_token : List ℕ → Token
word_token w =
    cond (nat_lt 15 (length w)) token.Unknown
    (cond (bytes_eq w (codes "True")) (token.Constant true)
    (cond (bytes_eq w (codes "False")) (token.Constant false)
    (cond (bytes_eq w (codes "X")) (token.Temporal operator.Next)
    (cond (bytes_eq w (codes "F")) (token.Temporal operator.Eventually)
    (cond (bytes_eq w (codes "G")) (token.Temporal operator.Always) token.Word)))))

-- a sign that begins with the byte a, before b and c
abbrev pub symbol_token : ℕ → ℕ → ℕ → Token
symbol_token a b c =
    cond (a == 10) token.Line
    (cond (a == 38) (token.Symbol symbol.And)
    (cond (a == 124) (token.Symbol symbol.Or)
    (cond (a == 40) (token.Symbol symbol.Open)
    (cond (a == 41) (token.Symbol symbol.Close)
    (cond (a == 91) (token.Symbol symbol.Left)
    (cond (a == 93) (token.Symbol symbol.Right)
    (cond (a == 44) (token.Symbol symbol.Comma)
    (cond (a == 45) (cond (b == 62) (token.Symbol symbol.Implies) (token.Symbol symbol.Not))
    (cond (a == 60) (cond (b == 45 && c == 62) (token.Symbol symbol.Equivalent) token.Unknown) token.Unknown)))))))))

-- `->` has two bytes, `<->` three, every other sign one
abbrev pub symbol_bytes : Symbol → ℕ
symbol_bytes symbol.Not = 1
symbol_bytes symbol.And = 1
symbol_bytes symbol.Or = 1
symbol_bytes symbol.Implies = 2
symbol_bytes symbol.Equivalent = 3
symbol_bytes symbol.Open = 1
symbol_bytes symbol.Close = 1
symbol_bytes symbol.Left = 1
symbol_bytes symbol.Right = 1
symbol_bytes symbol.Comma = 1

abbrev pub symbol_length : Token → ℕ
symbol_length token.End = 1
symbol_length token.Line = 1
symbol_length token.Unknown = 1
symbol_length token.Word = 1
symbol_length (token.Constant b) = 1
symbol_length (token.Temporal o) = 1
symbol_length (token.Number n) = 1
symbol_length (token.Symbol s) = symbol_bytes s

abbrev pub lexeme : Token → ℕ → ℕ → Lexeme
lexeme t from n = record { token = t; from = from; next = from + n }

abbrev pub word_at : List ℕ → ℕ → Lexeme
word_at text from = lexeme (word_token (part text from (run Letter text from))) from (run Letter text from)

abbrev pub number_at : List ℕ → ℕ → Lexeme
number_at text from = lexeme (token.Number (numeral (part text from (run Digit text from)))) from (run Digit text from)

abbrev pub signed : Token → ℕ → Lexeme
signed t from = lexeme t from (symbol_length t)

abbrev pub sign_at : List ℕ → ℕ → Lexeme
sign_at text from = signed (symbol_token (slice_index text from) (slice_index text (from + 1)) (slice_index text (from + 2))) from

-- the token that begins right at `from`; from the text's length on it is the end
unfoldable pub token_at : List ℕ → ℕ → Lexeme
token_at text from =
    cond (nat_le (length text) from) (record { token = token.End; from = from; next = from })
    (cond (is_ascii_alphabetic (slice_index text from)) (word_at text from)
    (cond (is_ascii_digit (slice_index text from)) (number_at text from) (sign_at text from)))

-- the token at `at` or after the spaces there
unfoldable pub look_at : List ℕ → ℕ → Lexeme
look_at text at = token_at text (at + run Space text at)

-- what a look at a text tells: the token there, which begins at the place or after it, lies in the text if the place does,
-- and, but for the end, has bytes
pub record Sees (text : List ℕ) (at : ℕ) (x : Lexeme) : Type 0 where
  pub value : x ≡ look_at text at
  pub after : at ≤ x.from
  pub in_text : at ≤ length text → x.next ≤ length text
  pub more : (is_end x.token ≡ true) ⊎ (x.from < x.next)
