-- What a look gives, by the kind of the first byte, and what every look tells.
use Rattle.std.proofs.Common.{◌≡◌, ℕ, ◌+◌, ◌-◌, ◌<◌, ◌≤◌, Bool, true, false, ◌⊎◌, List, length, get_or, take, drop, sym, refl, ap, ◌∙◌, subst, inl, inr, ⊎_elim, arith, length-drop, rules}
use Rattle.std.proofs.lemmas.List.{get_or_past}
use Rattle.std.proofs.lemmas.List.Sums.{prefix_len-drop_yes, prefix_len-drop_all, prefix_len-le-length}
use Rattle.std.proofs.lemmas.Bool.{le-leb, lt-leb, cond-true, cond-false, cases_lt, cases_Bool}
use Rattle.std.proofs.lemmas.Bool.Decides.{nat_tests}
use Rattle.std.specs.List.{prefix_len}
use Rattle.std.specs.Char.{is_ascii_digit, is_ascii_alphabetic}
use Rattle.lexer.specs.declared.look.Class.TheVariants.{Space, Digit, Letter}
use Rattle.lexer.specs.declared.token.Lexeme.{Lexeme}
use Rattle.lexer.specs.declared.token.Token.{Token}
use Rattle.lexer.specs.declared.token.Token.TheVariants as token
use Rattle.lexer.specs.Lexer.{is_in, run, word_token, numeral, symbol_token, symbol_length, word_at, number_at, sign_at, token_at, look_at, Sees}
use Rattle.lexer.specs.Tokens.{is_end}

-- the token that begins at `from`, after the spaces at `at`
module _ (text : List ℕ) (at from : ℕ) (e : from ≡ at + run Space text at) where
  looked : (l : Lexeme) → l ≡ token_at text from → l ≡ look_at text at
  unfolding look_at
  looked l h = h ∙ ap (token_at text) e

  pub ended : length text ≤ from → record { token = token.End; from = from; next = from } ≡ look_at text at
  unfolding token_at
  ended h = looked _ (sym (cond-true _ _ _ (le-leb _ _ h)))

  pub worded :
      from < length text → is_ascii_alphabetic (get_or text from 0) ≡ true → (next : ℕ) (t : Token) → next ≡ from + run Letter text from →
      t ≡ word_token (take (next - from) (drop from text)) → record { token = t; from = from; next = next } ≡ look_at text at
  unfolding token_at
  worded lt is next t n w =
      let k : next - from ≡ run Letter text from = omega arith in
      let same : record { token = t; from = from; next = next } ≡ word_at text from =
      λ i. record { token = (w ∙ ap (λ m. word_token (take m (drop from text))) k) i; from = from; next = n i } in
      looked _ (same ∙ sym (cond-true _ _ _ is) ∙ sym (cond-false _ _ _ (lt-leb _ _ lt)))

  pub numbered :
      from < length text → is_ascii_alphabetic (get_or text from 0) ≡ false → is_ascii_digit (get_or text from 0) ≡ true → (next v : ℕ) →
      next ≡ from + run Digit text from → v ≡ numeral (take (next - from) (drop from text)) →
      record { token = token.Number v; from = from; next = next } ≡ look_at text at
  unfolding token_at
  numbered lt non is next v n w =
      let k : next - from ≡ run Digit text from = omega arith in
      let same : record { token = token.Number v; from = from; next = next } ≡ number_at text from =
      λ i. record { token = token.Number ((w ∙ ap (λ m. numeral (take m (drop from text))) k) i); from = from; next = n i } in
      looked _ (same ∙ sym (cond-true _ _ _ is) ∙ sym (cond-false _ _ _ non) ∙ sym (cond-false _ _ _ (lt-leb _ _ lt)))

  pub signed_is :
      from < length text → is_ascii_alphabetic (get_or text from 0) ≡ false → is_ascii_digit (get_or text from 0) ≡ false → (t : Token) (n b c : ℕ) →
      b ≡ get_or text (from + 1) 0 → c ≡ get_or text (from + 2) 0 → t ≡ symbol_token (get_or text from 0) b c → n ≡ symbol_length t →
      record { token = t; from = from; next = from + n } ≡ look_at text at
  unfolding token_at
  signed_is lt non nor t n b c eb ec w len =
      let a = get_or text from 0 in
      let q = w ∙ ap (λ x. symbol_token a x c) eb ∙ ap (λ x. symbol_token a (get_or text (from + 1) 0) x) ec in
      let same : record { token = t; from = from; next = from + n } ≡ sign_at text from =
      λ i. record { token = q i; from = from; next = from + (len ∙ ap symbol_length q) i } in
      looked _ (same ∙ sym (cond-false _ _ _ nor) ∙ sym (cond-false _ _ _ non) ∙ sym (cond-false _ _ _ (lt-leb _ _ lt)))

letter_in_word : (b : ℕ) → is_ascii_alphabetic b ≡ true → is_in Letter b ≡ true
letter_in_word b h = grind (arith, nat_tests)

pub word_runs : (text : List ℕ) (from : ℕ) → from < length text → is_ascii_alphabetic (get_or text from 0) ≡ true → 0 < run Letter text from
word_runs text from lt is = omega (arith, prefix_len-drop_yes (is_in Letter) text from 0 lt (letter_in_word (get_or text from 0) is))

pub number_runs : (text : List ℕ) (from : ℕ) → from < length text → is_ascii_digit (get_or text from 0) ≡ true → 0 < run Digit text from
number_runs text from lt is = omega (arith, prefix_len-drop_yes (is_in Digit) text from 0 lt is)

pub symbol_long : (t : Token) → 0 < symbol_length t
symbol_long t = search rules

-- a symbol's later bytes are not 0, as what is read past the end of a text is
symbol_short : (a b c n : ℕ) → 1 ≤ n → (0 < b → 2 ≤ n) → (0 < c → 3 ≤ n) → symbol_length (symbol_token a b c) ≤ n
symbol_short a b c n one two three = grind (arith, nat_tests)

some_byte : (text : List ℕ) (i : ℕ) → 0 < get_or text i 0 → i < length text
some_byte text i h = ⊎_elim (λ lt. lt) (λ past. absurd (omega (arith, get_or_past text i 0 past))) (cases_lt i (length text))

pub symbol_fits :
    (text : List ℕ) (from b c : ℕ) (t : Token) → from < length text → b ≡ get_or text (from + 1) 0 → c ≡ get_or text (from + 2) 0 →
    t ≡ symbol_token (get_or text from 0) b c → from + symbol_length t ≤ length text
symbol_fits text from b c t lt eb ec e =
    let short = symbol_short (get_or text from 0) b c (length text - from) (omega arith)
    (λ h. omega (arith, some_byte text (from + 1) (omega arith))) (λ h. omega (arith, some_byte text (from + 2) (omega arith))) in
    omega (arith, ap symbol_length e, short)

run_fits : (text : List ℕ) (p : ℕ → Bool) (i : ℕ) → i ≤ length text → i + prefix_len p (drop i text) ≤ length text
run_fits text p i h = omega (arith, prefix_len-le-length p (drop i text), length-drop i text)

-- what a look tells, of any text and any place
module _ (text : List ℕ) (at : ℕ) where
  abbrev Fine : Lexeme → Type 0
  Fine x =
      (at ≤ x.from) × (x.from ≤ x.next) × (at ≤ length text → x.next ≤ length text)
      × ((is_end x.token ≡ true) ⊎ (x.from < x.next))

  told : Fine (look_at text at)
  told =
      let from = at + run Space text at in
      ⊎_elim
      (λ lt.
      ⊎_elim
      (λ is.
      subst Fine (worded text at from refl lt is (from + run Letter text from) _ refl refl)
      (omega arith, omega arith, λ _. run_fits text (is_in Letter) from (omega arith), inr (omega (arith, word_runs text from lt is))))
      (λ non.
      ⊎_elim
      (λ is.
      subst Fine (numbered text at from refl lt non is (from + run Digit text from) _ refl refl)
      (omega arith, omega arith, λ _. run_fits text (is_in Digit) from (omega arith), inr (omega (arith, number_runs text from lt is))))
      (λ nor.
      let t = symbol_token (get_or text from 0) (get_or text (from + 1) 0) (get_or text (from + 2) 0) in
      subst Fine (signed_is text at from refl lt non nor _ _ _ _ refl refl refl refl)
      (omega arith, omega arith, λ _. symbol_fits text from _ _ _ lt refl refl refl, inr (omega (arith, symbol_long t))))
      (cases_Bool (is_ascii_digit (get_or text from 0))))
      (cases_Bool (is_ascii_alphabetic (get_or text from 0))))
      (λ past. subst Fine (ended text at from refl past) (omega arith, omega arith, λ le. run_fits text (is_in Space) at le, inl refl))
      (cases_lt from (length text))

  -- a token begins at the place looked at or after it
  pub look_after : at ≤ (look_at text at).from
  look_after = told.0

  pub look_from_next : (look_at text at).from ≤ (look_at text at).next
  look_from_next = told.1

  -- and ends within the text if the place is there
  pub look_in_text : at ≤ length text → (look_at text at).next ≤ length text
  look_in_text = told.2

  -- every token but the end has bytes
  pub look_more : (is_end (look_at text at).token ≡ true) ⊎ ((look_at text at).from < (look_at text at).next)
  look_more = told.3

  pub look_longer : is_end (look_at text at).token ≡ false → (look_at text at).from < (look_at text at).next
  look_longer h = ⊎_elim (λ e. cc) (λ lt. lt) look_more

  -- so a look never goes back, and goes forward but at the end
  pub look_next : at ≤ (look_at text at).next
  look_next = omega (arith, look_after, look_from_next)

  pub look_forward : is_end (look_at text at).token ≡ false → at < (look_at text at).next
  look_forward h = omega (arith, look_after, look_longer h)

  -- past the text there is only the end
  pub look_past : length text ≤ at → record { token = token.End; from = at; next = at } ≡ look_at text at
  look_past h = ended text at at (omega (arith, prefix_len-drop_all (is_in Space) text at h)) h

  pub sees : Sees text at (look_at text at)
  sees = record { value = refl; after = look_after; in_text = look_in_text; more = look_more }
