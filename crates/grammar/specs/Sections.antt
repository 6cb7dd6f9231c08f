-- The form of a whole text: three sections of lines.
use Rattle.std.specs.Prelude.{ℕ, zero, suc, ◌-◌, Bool, true, false, cond, ◌&&◌, ◌||◌, List, [], length, Ok, Err, codes, Result, nat_lt}
use Rattle.std.specs.Str.{bytes_eq}
use Rattle.faults.specs.declared.Reason.TheVariants as reason
use Rattle.faults.specs.declared.TextFault.{TextFault}
use Rattle.lexer.specs.declared.token.Lexeme.{Lexeme}
use Rattle.lexer.specs.declared.token.Token.{Token}
use Rattle.lexer.specs.declared.token.Token.TheVariants as token
use Rattle.lexer.specs.Lexer.{look_at, part}
use Rattle.lexer.specs.Bounds.{expected, then_ok}
use Rattle.lexer.specs.Tokens.{is_line, is_end}
use Rattle.names.specs.declared.Name.{Name}
use Rattle.temporal.specs.Written.{Written, conjunction}
use Rattle.grammar.specs.Grammar.{State, Out, good, stop, and_then, whole_at}

abbrev pub is_word : Token → Bool
is_word token.End = false
is_word token.Line = false
is_word token.Unknown = false
is_word token.Word = true
is_word (token.Constant b) = false
is_word (token.Temporal o) = false
is_word (token.Number n) = false
is_word (token.Symbol s) = false

abbrev pub is_true : Token → Bool
is_true token.End = false
is_true token.Line = false
is_true token.Unknown = false
is_true token.Word = false
is_true (token.Constant b) = b
is_true (token.Temporal o) = false
is_true (token.Number n) = false
is_true (token.Symbol s) = false

-- the token is the word w
abbrev pub is_this : List ℕ → List ℕ → Lexeme → Bool
is_this text w x = is_word x.token && bytes_eq (part text x.from (x.next - x.from)) w

-- past line ends: blank lines mean nothing, and a text has fewer of them than bytes
unfoldable pub past_lines : List ℕ → ℕ → ℕ → ℕ
past_lines text zero at = at
past_lines text (suc n) at = elim (is_line (look_at text at).token) [ true ↦ past_lines text n (look_at text at).next | false ↦ at ]

unfoldable pub blanks : List ℕ → ℕ → ℕ
blanks text at = past_lines text (length text) at

unfoldable pub word_in : List ℕ → List ℕ → ℕ → Result ℕ TextFault
word_in text w at = expected (is_this text w (look_at text at)) (look_at text at)

unfoldable pub line_in : List ℕ → ℕ → Result ℕ TextFault
line_in text at = expected (is_line (look_at text at).token) (look_at text at)

unfoldable pub true_in : List ℕ → ℕ → Result ℕ TextFault
true_in text at = expected (is_true (look_at text at).token) (look_at text at)

-- the last line's end may be missing
unfoldable pub last_in : List ℕ → ℕ → Result ℕ TextFault
last_in text at = expected (is_line (look_at text at).token || is_end (look_at text at).token) (look_at text at)

unfoldable pub end_in : List ℕ → ℕ → Result ℕ TextFault
end_in text at = expected (is_end (look_at text at).token) (look_at text at)

-- a header of two words on a line of its own
abbrev pub header_in : List ℕ → List ℕ → List ℕ → ℕ → Result ℕ TextFault
header_in text v w at = then_ok (word_in text v (blanks text at)) (λ a. then_ok (word_in text w a) (λ b. line_in text b))

-- the third section: its header of three words, the line `True`, and nothing but blank lines behind it
abbrev pub third_in : List ℕ → ℕ → Result ℕ TextFault
third_in text at =
    then_ok (word_in text (codes "Environment") at) (λ a.
    then_ok (word_in text (codes "Global") a) (λ b.
    then_ok (word_in text (codes "Constraints") b) (λ c.
    then_ok (line_in text c) (λ d.
    then_ok (true_in text (blanks text d)) (λ e.
    then_ok (last_in text e) (λ f. end_in text (blanks text f)))))))

-- behind the first safety line the third section begins where `Environment` is followed by `Global`
unfoldable pub third_begins : List ℕ → ℕ → Bool
third_begins text at =
    is_this text (codes "Environment") (look_at text at) && is_this text (codes "Global") (look_at text (look_at text at).next)

-- t, if a line end follows
abbrev pub ended : Written → State → Result ℕ TextFault → Out
ended t s (Ok next) = good t (record { at = next; names = s.names })
ended t s (Err f) = stop f

-- a formula on a line of its own, behind blank lines; nesting goes 32 deep
unfoldable pub formula_in : List ℕ → State → Out
formula_in text s =
    and_then (whole_at text 32 (record { at = blanks text s.at; names = s.names })) (λ t s'. ended t s' (line_in text s'.at))

-- t and what further safety lines join to it from the left
unfoldable pub lines_in : List ℕ → ℕ → Written → State → Out
lines_in text zero t s = good t s
lines_in text (suc n) t s =
    elim (third_begins text (blanks text s.at)) [
      | true ↦ good t s
      | false ↦ and_then (formula_in text s) (λ u s'. lines_in text n (conjunction t u) s')
    ]

unfoldable pub safety_in : List ℕ → State → Out
safety_in text s = and_then (formula_in text s) (lines_in text (length text))

-- what a text has: its names in order of appearance, the initial and the safety formula as written
pub record Contents : Type 0 where
  pub names : List Name
  pub initial : Written
  pub safety : Written

pub data Form : Type 0 where
  formed : Contents → Form
  refused : TextFault → Form

abbrev pub or_refused : Result ℕ TextFault → (ℕ → Form) → Form
or_refused (Ok at) k = k at
or_refused (Err f) k = refused f

abbrev pub out_or_refused : Out → (Written → State → Form) → Form
out_or_refused (good t s) k = k t s
out_or_refused (stop f) k = refused f

-- a text of at most 1,024 bytes
unfoldable pub sections_of : List ℕ → Form
sections_of text =
    or_refused (header_in text (codes "Initial") (codes "Formula") 0) (λ a.
    out_or_refused (formula_in text (record { at = a; names = [] })) (λ α s.
    or_refused (header_in text (codes "Safety") (codes "Formula") s.at) (λ b.
    out_or_refused (safety_in text (record { at = b; names = s.names })) (λ ψ s'.
    or_refused (third_in text (blanks text s'.at)) (λ c.
    formed (record { names = s'.names; initial = α; safety = ψ }))))))

unfoldable pub form_of : List ℕ → Form
form_of text = cond (nat_lt 1024 (length text)) (refused (record { reason = reason.TooLong; place = 1024 })) (sections_of text)
