-- The bounds of temporal operators, as they stand in a text.
use Rattle.std.specs.Prelude.{ℕ, ◌≤◌, Bool, cond, ◌||◌, List, length, Some, None, Ok, Err, Option, Result, nat_lt}
use Rattle.faults.specs.declared.Reason.{Reason}
use Rattle.faults.specs.declared.Reason.TheVariants as reason
use Rattle.faults.specs.declared.TextFault.{TextFault}
use Rattle.lexer.specs.declared.bounds.Bound.{Bound}
use Rattle.lexer.specs.declared.bounds.Range.{Range}
use Rattle.lexer.specs.declared.token.Lexeme.{Lexeme}
use Rattle.lexer.specs.declared.token.Symbol.{Symbol}
use Rattle.lexer.specs.declared.token.Symbol.TheVariants as symbol
use Rattle.lexer.specs.Lexer.{look_at}
use Rattle.lexer.specs.Tokens.{fault_of, is_symbol, refusal_of, number_of}

-- a refusal for a reason at a place
abbrev pub refused : {X : Type 0} → Reason → ℕ → Result X TextFault
refused r p = Err (record { reason = r; place = p })

-- the token may not stand here
abbrev pub misplaced : {X : Type 0} → Lexeme → Result X TextFault
misplaced x = Err (fault_of (refusal_of x.token) x)

-- the first refusal, or what comes next
abbrev pub then_ok : {X Y : Type 0} → Result X TextFault → (X → Result Y TextFault) → Result Y TextFault
then_ok (Ok x) k = k x
then_ok (Err f) k = Err f

-- where the text goes on behind the token x, if it passes a test
abbrev pub expected : Bool → Lexeme → Result ℕ TextFault
expected passes x = cond passes (Ok x.next) (misplaced x)

abbrev pub sign_of : Symbol → Lexeme → Result ℕ TextFault
sign_of s x = expected (is_symbol s x.token) x

-- where the text goes on behind a symbol that has to stand at `at`
unfoldable pub sign_in : List ℕ → Symbol → ℕ → Result ℕ TextFault
sign_in text s at = sign_of s (look_at text at)

-- a bound lies between `least` and 4,095
abbrev pub outside : ℕ → ℕ → Bool
outside least n = nat_lt n least || nat_lt 4095 n

abbrev pub bounded : ℕ → Lexeme → Option ℕ → Result Bound TextFault
bounded least x None = misplaced x
bounded least x (Some n) = cond (outside least n) (refused reason.Bounds x.from) (Ok (record { value = n; next = x.next }))

-- a number from `least` to 4,095 that has to stand at `at`
unfoldable pub number_in : List ℕ → ℕ → ℕ → Result Bound TextFault
number_in text least at = bounded least (look_at text at) (number_of (look_at text at).token)

-- n] with 1 ≤ n, what follows the bracket
abbrev pub bound_after : List ℕ → ℕ → Result Bound TextFault
bound_after text begin =
    then_ok (number_in text 1 begin) (λ n.
    then_ok (sign_in text symbol.Right n.next) (λ end.
    Ok (record { value = n.value; next = end })))

abbrev pub bound_from : List ℕ → ℕ → Lexeme → Result Bound TextFault
bound_from text at x = cond (is_symbol symbol.Left x.token) (bound_after text x.next) (Ok (record { value = 1; next = at }))

-- the bound behind X: [n] with 1 ≤ n, or 1 if no bracket follows
unfoldable pub bound_in : List ℕ → ℕ → Result Bound TextFault
bound_in text at = bound_from text at (look_at text at)

-- [n,m] with n ≤ m, by its parts
abbrev pub range_from : List ℕ → ℕ → Result Range TextFault
range_from text at =
    then_ok (sign_in text symbol.Left at) (λ begin.
    then_ok (number_in text 0 begin) (λ low.
    then_ok (sign_in text symbol.Comma low.next) (λ comma.
    then_ok (number_in text low.value comma) (λ high.
    then_ok (sign_in text symbol.Right high.next) (λ end.
    Ok (record { low = low.value; high = high.value; next = end }))))))

-- the bounds behind G or F
unfoldable pub range_in : List ℕ → ℕ → Result Range TextFault
range_in text at = range_from text at

-- a bound that was read at `at`
pub record GoodBound (text : List ℕ) (at : ℕ) (b : Bound) : Type 0 where
  pub after : at ≤ b.next
  pub in_text : at ≤ length text → b.next ≤ length text
  pub least : 1 ≤ b.value
  pub most : b.value ≤ 4095

-- bounds that were read at `at`
pub record GoodRange (text : List ℕ) (at : ℕ) (b : Range) : Type 0 where
  pub after : at ≤ b.next
  pub in_text : at ≤ length text → b.next ≤ length text
  pub ordered : b.low ≤ b.high
  pub most : b.high ≤ 4095
