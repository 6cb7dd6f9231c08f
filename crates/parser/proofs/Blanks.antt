-- Blank lines, line ends and headers.
use Rattle.std.proofs.Common.{◌≡◌, ℕ, zero, suc, ◌-◌, ◌<◌, Bool, true, false, List, length, Ok, Err, Result, sym, refl, ap, ◌∙◌, subst, ⊎_elim, arith}
use Rattle.std.specs.Result.{IfOk}
use Rattle.std.proofs.lemmas.Bool.{cases_Bool}
use Rattle.faults.specs.declared.TextFault.{TextFault}
use Rattle.lexer.specs.declared.token.Lexeme.{Lexeme}
use Rattle.lexer.specs.Lexer.{look_at}
use Rattle.lexer.specs.Tokens.{is_line}
use Rattle.lexer.specs.Bounds.{expected, then_ok}
use Rattle.lexer.proofs.Limits.{On, both_on, when_ok}
use Rattle.lexer.proofs.Looks.{look_next, look_in_text, look_forward}
use Rattle.grammar.specs.Sections.{is_this, past_lines, blanks, word_in, line_in, header_in}
use Rattle.grammar.proofs.Tokens.{line_not_end}

-- past blank lines

module _ (text : List ℕ) where
  abbrev past_of : Bool → ℕ → ℕ → Lexeme → ℕ
  past_of b n at x = elim b [ true ↦ past_lines text n x.next | false ↦ at ]

  past_is :
      (n at : ℕ) (x : Lexeme) → x ≡ look_at text at → (b : Bool) → b ≡ is_line x.token → past_lines text (suc n) at ≡ past_of b n at x
  unfolding past_lines
  past_is n at x is b e = sym (ap (λ v. past_of v n at x) e ∙ ap (λ y. past_of (is_line y.token) n at y) is)

  pub past_none : (n at : ℕ) → n ≡ 0 → past_lines text n at ≡ at
  unfolding past_lines
  past_none zero at e = refl
  past_none (suc n) at e = absurd (omega arith)

  pub past_end : (n at : ℕ) (x : Lexeme) → x ≡ look_at text at → false ≡ is_line x.token → past_lines text n at ≡ at
  past_end zero at x is e = past_none zero at refl
  past_end (suc n) at x is e = past_is n at x is false e

  pub past_more :
      (n at : ℕ) (x : Lexeme) → x ≡ look_at text at → true ≡ is_line x.token → 0 < n → past_lines text n at
      ≡ past_lines text (n - 1) x.next
  past_more zero at x is e lt = absurd (omega arith)
  past_more (suc n) at x is e lt =
      let k : n ≡ suc n - 1 = omega arith in past_is n at x is true e ∙ ap (λ m. past_lines text m x.next) k

  -- it goes on, and not past the end
  look_on : (at : ℕ) → On text at (look_at text at).next
  look_on at = record { after = look_next text at; in_text = look_in_text text at }

  past_on : (n at : ℕ) → On text at (past_lines text n at)
  past_on zero at = subst (On text at) (sym (past_none zero at refl)) (record { after = omega arith; in_text = λ h. h })
  past_on (suc n) at =
      ⊎_elim
      (λ t. subst (On text at) (sym (past_is n at (look_at text at) refl true (sym t)))
      (both_on text at _ _ (look_on at) (past_on n (look_at text at).next)))
      (λ f. subst (On text at) (sym (past_is n at (look_at text at) refl false (sym f))) (record { after = omega arith; in_text = λ h. h }))
      (cases_Bool (is_line (look_at text at).token))

  pub blanks_on : (at : ℕ) → On text at (blanks text at)
  unfolding blanks
  blanks_on at = past_on (length text) at

-- behind a word, a line's end, a header

module _ (text : List ℕ) where
  expected_on : (b : Bool) (at : ℕ) → IfOk (expected b (look_at text at)) (On text at)
  expected_on true at = look_on text at
  expected_on false at = tt

  word_on : (w : List ℕ) (at : ℕ) → IfOk (word_in text w at) (On text at)
  unfolding word_in
  word_on w at = expected_on (is_this text w (look_at text at)) at

  line_on : (at : ℕ) → IfOk (line_in text at) (On text at)
  unfolding line_in
  line_on at = expected_on (is_line (look_at text at).token) at

  then_on :
      (at : ℕ) (r : Result ℕ TextFault) (k : ℕ → Result ℕ TextFault) → IfOk r (On text at) → ((n : ℕ) → IfOk (k n) (On text n)) →
      IfOk (then_ok r k) (On text at)
  then_on at (Ok n) k h f = on_from at n (k n) h (f n)
    where
      on_from : (a n : ℕ) (r : Result ℕ TextFault) → On text a n → IfOk r (On text n) → IfOk r (On text a)
      on_from a n (Ok m) h k = both_on text a n m h k
      on_from a n (Err e) h k = tt
  then_on at (Err e) k h f = tt

  from_blanks : (at : ℕ) (r : Result ℕ TextFault) → IfOk r (On text (blanks text at)) → IfOk r (On text at)
  from_blanks at (Ok n) h = both_on text at (blanks text at) n (blanks_on text at) h
  from_blanks at (Err e) h = tt

  header_on : (v w : List ℕ) (at : ℕ) → IfOk (header_in text v w at) (On text at)
  header_on v w at =
      from_blanks at (header_in text v w at)
      (then_on (blanks text at) (word_in text v (blanks text at)) _ (word_on v (blanks text at))
      (λ a. then_on a (word_in text w a) _ (word_on w a) (λ b. line_on b)))

  pub header_ok : (v w : List ℕ) (at n : ℕ) → Ok n ≡ header_in text v w at → On text at n
  header_ok v w at n e = when_ok (On text at) (header_in text v w at) n (header_on v w at) (sym e)

  -- a line's end has a byte
  line_of : (b : Bool) (at n : ℕ) → b ≡ is_line (look_at text at).token → Ok n ≡ expected b (look_at text at) → at < n
  line_of true at n e h =
      let k : n ≡ (look_at text at).next = cc in
      omega (arith, look_forward text at (line_not_end (look_at text at).token (sym e)))
  line_of false at n e h = absurd cc

  pub line_reads : (at n : ℕ) → Ok n ≡ line_in text at → at < n
  unfolding line_in
  line_reads at n h = line_of (is_line (look_at text at).token) at n refl h

  pub line_ok : (at n : ℕ) → Ok n ≡ line_in text at → On text at n
  line_ok at n e = when_ok (On text at) (line_in text at) n (line_on at) (sym e)
