-- Two texts with the same bytes up to the end of a token have the same tokens up to and with it.
use Rattle.std.proofs.Common.{◌≡◌, ℕ, zero, suc, ◌+◌, ◌-◌, ◌<◌, ◌≤◌, Bool, true, false, cond, ◌&&◌, eqb, leb, List, [], ◌∷◌, length, get_or, take, drop, sym, refl, ap, ◌∙◌, subst, ⊎_elim, arith, take_all}
use Rattle.std.specs.Char.{is_ascii_digit, is_ascii_alphabetic}
use Rattle.std.specs.List.{prefix_len}
use Rattle.std.proofs.lemmas.List.{take-take, drop-take, drop-drop, get_or-take}
use Rattle.std.proofs.lemmas.List.Sums.{prefix_len-drop_no}
use Rattle.std.proofs.lemmas.Bool.{false≢true, cond-true, cond-false, cond_both, lt-leb, eqb-true, and_left, and_right, cases_lt, cases_Bool}
use Rattle.lexer.specs.declared.look.Class.{Class}
use Rattle.lexer.specs.declared.look.Class.TheVariants.{Space, Digit, Letter}
use Rattle.lexer.specs.declared.token.Lexeme.{Lexeme}
use Rattle.lexer.specs.declared.token.Symbol.TheVariants as symbol
use Rattle.lexer.specs.declared.token.Token.{Token}
use Rattle.lexer.specs.declared.token.Token.TheVariants as token
use Rattle.lexer.specs.Lexer.{is_in, run, part, word_token, numeral, symbol_token, lexeme, word_at, number_at, signed, sign_at, token_at, look_at}
use Rattle.lexer.specs.Tokens.{is_end}
use Rattle.lexer.proofs.Looks.{look_after, look_from_next, look_longer, look_past, look_in_text, symbol_long, signed_is}
use Rattle.grammar.specs.Refusals.{SameUpTo}
use Rattle.grammar.proofs.Blanks.{look_ends}

-- the token that the other text has from `at` on is the same, at the same place and of the same bytes
pub record SameToken (text other : List ℕ) (at : ℕ) : Type 0 where
  pub token : look_at other at ≡ look_at text at
  pub bytes :
      part other (look_at text at).from ((look_at text at).next - (look_at text at).from)
      ≡ part text (look_at text at).from ((look_at text at).next - (look_at text at).from)

-- the other text has all the tokens that end before `place`, and the token that begins there
pub record SameTokens (text other : List ℕ) (place : ℕ) : Type 0 where
  pub before : (at : ℕ) → (look_at text at).next ≤ place → SameToken text other at
  pub there : (at : ℕ) → (look_at text at).from ≡ place → SameToken text other at

-- ── runs of bytes ──
module _ (p : ℕ → Bool) where
  lead_yes : (y : ℕ) (ys : List ℕ) → p y ≡ true → prefix_len p (y ∷ ys) ≡ 1 + prefix_len p ys
  lead_yes y ys e = cond-true (p y) _ _ e

  lead_no : (y : ℕ) (ys : List ℕ) → p y ≡ false → prefix_len p (y ∷ ys) ≡ 0
  lead_no y ys e = cond-false (p y) _ _ e

  -- a run that ends in the front part of a list is that part's
  lead_front : (k : ℕ) (ys : List ℕ) → prefix_len p (take (suc k) ys) ≤ k → prefix_len p ys ≡ prefix_len p (take (suc k) ys)
  lead_front k [] h = refl
  lead_front zero (y ∷ ys) h =
      ⊎_elim
      (λ e. absurd (omega (arith, lead_yes y (take zero ys) e)))
      (λ e. lead_no y ys e ∙ sym (lead_no y (take zero ys) e))
      (cases_Bool (p y))
  lead_front (suc k) (y ∷ ys) h =
      ⊎_elim
      (λ e.
      let less : prefix_len p (take (suc k) ys) ≤ k = omega (arith, lead_yes y (take (suc k) ys) e) in
      lead_yes y ys e ∙ ap (λ n. 1 + n) (lead_front k ys less) ∙ sym (lead_yes y (take (suc k) ys) e))
      (λ e. lead_no y ys e ∙ sym (lead_no y (take (suc k) ys) e))
      (cases_Bool (p y))

  lead_take : (k : ℕ) (ys : List ℕ) → prefix_len p (take k ys) ≤ prefix_len p ys
  lead_take zero ys = omega arith
  lead_take (suc k) [] = omega arith
  lead_take (suc k) (y ∷ ys) =
      ⊎_elim
      (λ e. omega (arith, lead_yes y ys e, lead_yes y (take k ys) e, lead_take k ys))
      (λ e. omega (arith, lead_no y (take k ys) e))
      (cases_Bool (p y))

  lead_same : (xs ys : List ℕ) → take (suc (prefix_len p xs)) ys ≡ take (suc (prefix_len p xs)) xs → prefix_len p ys ≡ prefix_len p xs
  lead_same xs ys e =
      let n = prefix_len p xs in
      let same : prefix_len p (take (suc n) ys) ≡ prefix_len p (take (suc n) xs) = ap (prefix_len p) e in
      let less = lead_take (suc n) xs in
      lead_front n ys (omega (arith, same, less)) ∙ same ∙ sym (lead_front n xs less)

  -- behind a run there is none
  lead_over : (ys : List ℕ) → prefix_len p (drop (prefix_len p ys) ys) ≡ 0
  lead_over [] = refl
  lead_over (y ∷ ys) =
      ⊎_elim
      (λ e. ap (λ n. prefix_len p (drop n (y ∷ ys))) (lead_yes y ys e ∙ one_more (prefix_len p ys)) ∙ lead_over ys)
      (λ e. ap (λ n. prefix_len p (drop n (y ∷ ys))) (lead_no y ys e) ∙ lead_no y ys e)
      (cases_Bool (p y))
    where
      one_more : (n : ℕ) → 1 + n ≡ suc n
      one_more n = omega arith

-- ── the second byte of `->` ──
-- a token that begins with `-` and has one byte is not `->`
not_arrow :
    (words : List ℕ) (p : ℕ) → p < length words → get_or words p 0 ≡ 45 → (look_at words p).next ≡ p + 1 → eqb (get_or words (p + 1) 0) 62 ≡ false
not_arrow words p lt minus short =
    ⊎_elim
    (λ e.
    let space : is_in Space (get_or words p 0) ≡ false = ap (is_in Space) minus in
    let none : p ≡ p + run Space words p = omega (arith, prefix_len-drop_no (is_in Space) words p 0 lt space) in
    let more = eqb-true (get_or words (p + 1) 0) 62 e in
    let arrow : token.Symbol symbol.Implies ≡ symbol_token (get_or words p 0) (get_or words (p + 1) 0) (get_or words (p + 2) 0) =
    λ i. symbol_token (sym minus i) (sym more i) (get_or words (p + 2) 0) in
    let seen =
    signed_is words p p none lt (ap is_ascii_alphabetic minus) (ap is_ascii_digit minus) (token.Symbol symbol.Implies) 2 _ _ refl refl arrow refl in
    absurd (omega (arith, ap (λ x. x.next) seen, short)))
    (λ e. e)
    (cases_Bool (eqb (get_or words (p + 1) 0) 62))

-- the signs, by the test for `<->`
abbrev sign_by : ℕ → ℕ → Bool → Token
sign_by a b t =
    cond (eqb a 10) token.Line
    (cond (eqb a 38) (token.Symbol symbol.And)
    (cond (eqb a 124) (token.Symbol symbol.Or)
    (cond (eqb a 40) (token.Symbol symbol.Open)
    (cond (eqb a 41) (token.Symbol symbol.Close)
    (cond (eqb a 91) (token.Symbol symbol.Left)
    (cond (eqb a 93) (token.Symbol symbol.Right)
    (cond (eqb a 44) (token.Symbol symbol.Comma)
    (cond (eqb a 45) (cond (eqb b 62) (token.Symbol symbol.Implies) (token.Symbol symbol.Not))
    (cond (eqb a 60) (cond t (token.Symbol symbol.Equivalent) token.Unknown) token.Unknown)))))))))

third_byte : (a b c d : ℕ) → (eqb b 45 && eqb c 62) ≡ (eqb b 45 && eqb d 62) → symbol_token a b c ≡ symbol_token a b d
third_byte a b c d e = ap (sign_by a b) e

token_from : (words : List ℕ) (s : ℕ) → (token_at words s).from ≡ s
unfolding token_at
token_from words s =
    let P : Lexeme → Type 0 = λ x. x.from ≡ s in
    cond_both (leb (length words) s) _ _ P (λ _. refl) (λ _.
    cond_both (is_ascii_alphabetic (get_or words s 0)) _ _ P (λ _. refl) (λ _. cond_both (is_ascii_digit (get_or words s 0)) _ _ P (λ _. refl) (λ _. refl)))

-- which token begins at s
is_word : (words : List ℕ) (s : ℕ) → s < length words → is_ascii_alphabetic (get_or words s 0) ≡ true → token_at words s ≡ word_at words s
unfolding token_at
is_word words s lt letter = cond-false _ _ _ (lt-leb _ _ lt) ∙ cond-true _ _ _ letter

is_number :
    (words : List ℕ) (s : ℕ) → s < length words → is_ascii_alphabetic (get_or words s 0) ≡ false → is_ascii_digit (get_or words s 0) ≡ true →
    token_at words s ≡ number_at words s
unfolding token_at
is_number words s lt non digit = cond-false _ _ _ (lt-leb _ _ lt) ∙ cond-false _ _ _ non ∙ cond-true _ _ _ digit

is_sign :
    (words : List ℕ) (s : ℕ) → s < length words → is_ascii_alphabetic (get_or words s 0) ≡ false → is_ascii_digit (get_or words s 0) ≡ false →
    token_at words s ≡ sign_at words s
unfolding token_at
is_sign words s lt non nor = cond-false _ _ _ (lt-leb _ _ lt) ∙ cond-false _ _ _ non ∙ cond-false _ _ _ nor

-- ── the same bytes up to `end` ──
module _ (text other : List ℕ) (end : ℕ) (same : take end other ≡ take end text) where
  front_same : (k : ℕ) → k ≤ end → take k other ≡ take k text
  front_same k le = sym (take-take k end other le) ∙ ap (take k) same ∙ take-take k end text le

  part_same : (s n : ℕ) → s + n ≤ end → part other s n ≡ part text s n
  part_same s n le = sym (drop-take s n other) ∙ ap (drop s) (front_same (s + n) le) ∙ drop-take s n text

  byte_same : (i : ℕ) → i < end → get_or other i 0 ≡ get_or text i 0
  byte_same i lt = sym (get_or-take end other i 0 lt) ∙ ap (λ l. get_or l i 0) same ∙ get_or-take end text i 0 lt

  run_same : (k : Class) (s : ℕ) → s + run k text s < end → run k other s ≡ run k text s
  run_same k s lt = lead_same (is_in k) (drop s text) (drop s other) (part_same s (suc (run k text s)) (omega arith))

  start_same : (at : ℕ) → at + run Space text at < end → look_at other at ≡ token_at other (at + run Space text at)
  unfolding look_at
  start_same at lt = ap (λ n. token_at other (at + n)) (run_same Space at lt)

  module _ (long : end ≤ length text) (long' : end ≤ length other) where
    -- a word, a number or a sign that ends before `end`
    word_same : (s : ℕ) → s + run Letter text s < end → word_at other s ≡ word_at text s
    word_same s lt =
        let n = run Letter text s in
        ap (λ k. lexeme (word_token (part other s k)) s k) (run_same Letter s lt)
        ∙ ap (λ w. lexeme (word_token w) s n) (part_same s n (omega arith))

    number_same : (s : ℕ) → s + run Digit text s < end → number_at other s ≡ number_at text s
    number_same s lt =
        let n = run Digit text s in
        ap (λ k. lexeme (token.Number (numeral (part other s k))) s k) (run_same Digit s lt)
        ∙ ap (λ w. lexeme (token.Number (numeral w)) s n) (part_same s n (omega arith))

    -- behind it a token begins that ends at `end` in both texts
    module _ (place : ℕ) (behind : place < end) (ends : (look_at text place).next ≡ end) (ends' : (look_at other place).next ≡ end) where
      sign_same : (s : ℕ) → s + 1 ≤ place → sign_at other s ≡ sign_at text s
      sign_same s le =
          let a = get_or text s 0 in
          let b = get_or text (s + 1) 0 in
          let d = get_or other (s + 2) 0 in
          let e = get_or text (s + 2) 0 in
          let second = byte_same (s + 1) (omega arith) in
          let first : sign_at other s ≡ signed (symbol_token a b d) s =
          λ i. signed (symbol_token (byte_same s (omega arith) i) (second i) d) s in
          let two : (s + 1) + 1 ≡ s + 2 = omega arith in
          first
          ∙ ap (λ t. signed t s)
          (⊎_elim
          (λ in_front. ap (symbol_token a b) (byte_same (s + 2) in_front))
          (λ past.
          let next : s + 1 ≡ place = omega arith in
          let last : end ≡ (s + 1) + 1 = omega arith in
          let one = ap (λ p. (look_at text p).next) next ∙ ends ∙ last in
          let one' = ap (λ p. (look_at other p).next) next ∙ ends' ∙ last in
          third_byte a b d e
          (⊎_elim
          (λ minus.
          let is = eqb-true b 45 minus in
          let none = not_arrow text (s + 1) (omega arith) is one in
          let none' = not_arrow other (s + 1) (omega arith) (second ∙ is) one' in
          let no_e : eqb e 62 ≡ false = ap (λ i. eqb (get_or text i 0) 62) (sym two) ∙ none in
          let no_d : eqb d 62 ≡ false = ap (λ i. eqb (get_or other i 0) 62) (sym two) ∙ none' in
          and_right (eqb b 45) (eqb d 62) no_d ∙ sym (and_right (eqb b 45) (eqb e 62) no_e))
          (λ no_minus. and_left (eqb b 45) (eqb d 62) no_minus ∙ sym (and_left (eqb b 45) (eqb e 62) no_minus))
          (cases_Bool (eqb b 45))))
          (cases_lt (s + 2) end))

      token_same : (s : ℕ) → s < end → (token_at text s).next ≤ place → token_at other s ≡ token_at text s
      token_same s lt before =
          let byte = byte_same s lt in
          let here : s < length text = omega arith in
          let there : s < length other = omega arith in
          ⊎_elim
          (λ letter.
          let is = is_word text s here letter in
          is_word other s there (ap is_ascii_alphabetic byte ∙ letter) ∙ word_same s (omega (arith, ap (λ x. x.next) is, before)) ∙ sym is)
          (λ non.
          ⊎_elim
          (λ digit.
          let is = is_number text s here non digit in
          is_number other s there (ap is_ascii_alphabetic byte ∙ non) (ap is_ascii_digit byte ∙ digit)
          ∙ number_same s (omega (arith, ap (λ x. x.next) is, before)) ∙ sym is)
          (λ nor.
          let is = is_sign text s here non nor in
          let size = symbol_long (symbol_token (get_or text s 0) (get_or text (s + 1) 0) (get_or text (s + 2) 0)) in
          is_sign other s there (ap is_ascii_alphabetic byte ∙ non) (ap is_ascii_digit byte ∙ nor)
          ∙ sign_same s (omega (arith, ap (λ x. x.next) is, before, size)) ∙ sym is)
          (cases_Bool (is_ascii_digit (get_or text s 0))))
          (cases_Bool (is_ascii_alphabetic (get_or text s 0)))

-- ── the same token at the place ──
module _ (text other : List ℕ) (place : ℕ) (bytes : take (look_at text place).next other ≡ take (look_at text place).next text)
    (token_there : look_at other place ≡ look_at text place) where
  look_is : (words : List ℕ) (at : ℕ) → look_at words at ≡ token_at words (at + run Space words at)
  unfolding look_at
  look_is words at = refl

  look_from : (words : List ℕ) (at : ℕ) → (look_at words at).from ≡ at + run Space words at
  look_from words at = ap (λ x. x.from) (look_is words at) ∙ token_from words (at + run Space words at)

  -- at the end of a text both texts are the same
  same_text : is_end (look_at text place).token ≡ true → text ≡ other
  same_text e =
      let le = look_ends text place e in
      let le' = look_ends other place (ap (λ x. is_end x.token) token_there ∙ e) in
      sym (take_all (look_at text place).next text le) ∙ sym bytes
      ∙ take_all (look_at text place).next other (omega (arith, le', ap (λ x. x.next) token_there))

  all_same : is_end (look_at text place).token ≡ true → (at : ℕ) → SameToken text other at
  all_same e at = subst (λ o. SameToken text o at) (same_text e) (record { token = refl; bytes = refl })

  module _ (more : is_end (look_at text place).token ≡ false) where
    inside_text : (words : List ℕ) → is_end (look_at words place).token ≡ false → (look_at words place).next ≤ length words
    inside_text words e =
        ⊎_elim
        (λ lt. look_in_text words place (omega arith))
        (λ past. absurd (false≢true (sym e ∙ ap (λ x. is_end x.token) (sym (look_past words place past)))))
        (cases_lt place (length words))

    long : (look_at text place).next ≤ length text
    long = inside_text text more

    long' : (look_at text place).next ≤ length other
    long' =
        omega (arith, inside_text other (ap (λ x. is_end x.token) token_there ∙ more), ap (λ x. x.next) token_there)

    behind : place < (look_at text place).next
    behind = omega (arith, look_after text place, look_longer text place more)

    start_is : (at : ℕ) → at + run Space text at < (look_at text place).next → look_at other at ≡ token_at other (at + run Space text at)
    start_is at lt = start_same text other (look_at text place).next bytes at lt

    before_same : (at : ℕ) → (look_at text at).next ≤ place → SameToken text other at
    before_same at le =
        let s = at + run Space text at in
        let from = look_from text at in
        let onward = look_from_next text at in
        let in_front : s < (look_at text place).next = omega (arith, from, onward, behind, le) in
        let is = look_is text at in
        let ended : (token_at text s).next ≤ place = omega (arith, ap (λ x. x.next) is, le) in
        record {
          token =
              start_is at in_front
              ∙ token_same text other (look_at text place).next bytes long long' place behind refl (ap (λ x. x.next) token_there) s in_front ended
              ∙ sym is;
          bytes =
              part_same text other (look_at text place).next bytes (look_at text at).from ((look_at text at).next - (look_at text at).from)
              (omega (arith, onward, behind, le));
        }

    -- a token that begins at the place is what a look there sees
    seen_there : (at : ℕ) → at + run Space text at ≡ place → run Space text place ≡ 0
    seen_there at e =
        ap (run Space text) (sym e) ∙ ap (prefix_len (is_in Space)) (sym (drop-drop (run Space text at) at text)) ∙ lead_over (is_in Space) (drop at text)

    there_same : (at : ℕ) → (look_at text at).from ≡ place → SameToken text other at
    there_same at e =
        let start : at + run Space text at ≡ place = sym (look_from text at) ∙ e in
        let none = seen_there at start in
        let zero_run : place + run Space text place ≡ place = omega (arith, none) in
        let here : look_at text at ≡ look_at text place =
        look_is text at ∙ ap (token_at text) (start ∙ sym zero_run) ∙ sym (look_is text place) in
        let there : look_at other at ≡ look_at other place =
        start_is at (omega (arith, start, behind)) ∙ ap (token_at other) (start ∙ sym zero_run)
        ∙ sym (start_is place (omega (arith, none, behind))) in
        record {
          token = there ∙ token_there ∙ sym here;
          bytes =
              part_same text other (look_at text place).next bytes (look_at text at).from ((look_at text at).next - (look_at text at).from)
              (omega (arith, look_from_next text at, ap (λ x. x.next) here));
        }

  tokens_same : SameTokens text other place
  tokens_same =
      ⊎_elim
      (λ e. record { before = λ at _. all_same e at; there = λ at _. all_same e at })
      (λ more. record { before = before_same more; there = there_same more })
      (cases_Bool (is_end (look_at text place).token))

-- the same bytes up to the end of a token, and there the same token: the same tokens up to and with it
pub same_tokens : (text other : List ℕ) (place : ℕ) → SameUpTo text other place → SameTokens text other place
same_tokens text other place s = tokens_same text other place s.bytes s.token
