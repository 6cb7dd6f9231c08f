-- What a token that is one thing is not.
use Rattle.std.proofs.Common.{◌≡◌, ℕ, ◌<◌, ◌≤◌, true, false, List, length, Some, sym, refl, ap, ◌∙◌, rules}
use Rattle.std.proofs.lemmas.Bool.{false≢true, eqb-true, ne_eqb}
use Rattle.lexer.specs.declared.token.Symbol.{Symbol}
use Rattle.lexer.specs.declared.token.Token.{Token}
use Rattle.lexer.specs.declared.token.Token.TheVariants as token
use Rattle.lexer.specs.Lexer.{look_at}
use Rattle.lexer.specs.Tokens.{symbol_number, is_symbol, is_line, is_end}
use Rattle.lexer.proofs.Looks.{look_forward, look_past}
use Rattle.grammar.specs.declared.head.Head.{Head}
use Rattle.grammar.specs.declared.head.Head.TheVariants as head
use Rattle.grammar.specs.Grammar.{head_of}
use Rattle.grammar.specs.Sections.{is_word, is_true}

-- a symbol is neither the end nor a word nor another symbol

pub symbol_not_end : (s : Symbol) (k : Token) → is_symbol s k ≡ true → is_end k ≡ false
symbol_not_end s k e = search rules

pub symbol_not_word : (s : Symbol) (k : Token) → is_symbol s k ≡ true → is_word k ≡ false
symbol_not_word s k e = search rules

pub one_symbol : (s r : Symbol) (k : Token) → (symbol_number s ≡ symbol_number r → ⊥) → is_symbol s k ≡ true → is_symbol r k ≡ false
one_symbol s r token.End ne e = refl
one_symbol s r token.Line ne e = refl
one_symbol s r token.Unknown ne e = refl
one_symbol s r token.Word ne e = refl
one_symbol s r (token.Constant b) ne e = refl
one_symbol s r (token.Temporal o) ne e = refl
one_symbol s r (token.Number n) ne e = refl
one_symbol s r (token.Symbol own) ne e = ne_eqb _ _ (λ h. ne (sym (eqb-true _ _ e) ∙ h))

-- a line end is no symbol and no word, and nothing begins with it

pub line_not_symbol : (s : Symbol) (k : Token) → is_line k ≡ true → is_symbol s k ≡ false
line_not_symbol s k e = search rules

pub line_not_word : (k : Token) → is_line k ≡ true → is_word k ≡ false
line_not_word k e = search rules

pub line_not_end : (k : Token) → is_line k ≡ true → is_end k ≡ false
line_not_end k e = search rules

pub end_not_line : (k : Token) → is_end k ≡ true → is_line k ≡ false
end_not_line k e = search rules

-- words, constants and what a formula begins with are no line ends

pub word_not_line : (k : Token) → is_word k ≡ true → is_line k ≡ false
word_not_line k e = search rules

pub word_begins : (k : Token) → is_word k ≡ true → head_of k ≡ Some head.Variable
word_begins k e = search rules

pub true_not_line : (k : Token) → is_true k ≡ true → is_line k ≡ false
true_not_line k e = search rules

pub head_not_line : (k : Token) (h : Head) → head_of k ≡ Some h → is_line k ≡ false
head_not_line k h e = search rules

pub head_not_end : (k : Token) (h : Head) → head_of k ≡ Some h → is_end k ≡ false
head_not_end k h e = search rules

module _ (text : List ℕ) (at : ℕ) where
  -- a symbol or a line end has bytes
  pub symbol_forward : (s : Symbol) → is_symbol s (look_at text at).token ≡ true → at < (look_at text at).next
  symbol_forward s e = look_forward text at (symbol_not_end s (look_at text at).token e)

  pub line_forward : is_line (look_at text at).token ≡ true → at < (look_at text at).next
  line_forward e = look_forward text at (line_not_end (look_at text at).token e)

  -- and stands before the text's end
  past_end : length text ≤ at → is_end (look_at text at).token ≡ true
  past_end h = ap (λ x. is_end x.token) (sym (look_past text at h))

  pub no_symbol_past : (s : Symbol) → length text ≤ at → is_symbol s (look_at text at).token ≡ true → ⊥
  no_symbol_past s h e = false≢true (sym (symbol_not_end s (look_at text at).token e) ∙ past_end h)

  pub no_line_past : length text ≤ at → is_line (look_at text at).token ≡ true → ⊥
  no_line_past h e = false≢true (sym (line_not_end (look_at text at).token e) ∙ past_end h)
