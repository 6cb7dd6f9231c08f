-- What bounds that were read keep: they move on, stay in the text, and lie in their ranges.
use Rattle.std.proofs.Common.{◌≡◌, ℕ, ◌≤◌, false, List, length, Some, None, Ok, Err, Option, Result, subst, arith}
use Rattle.std.specs.Result.{IfOk}
use Rattle.std.proofs.lemmas.Bool.{cond_both}
use Rattle.std.proofs.lemmas.Bool.Decides.{nat_tests}
use Rattle.faults.specs.declared.TextFault.{TextFault}
use Rattle.lexer.specs.declared.bounds.Bound.{Bound}
use Rattle.lexer.specs.declared.bounds.Range.{Range}
use Rattle.lexer.specs.declared.token.Lexeme.{Lexeme}
use Rattle.lexer.specs.declared.token.Symbol.{Symbol}
use Rattle.lexer.specs.declared.token.Symbol.TheVariants as symbol
use Rattle.lexer.specs.Bounds.{outside, bounded, then_ok, sign_in, number_in, bound_after, bound_in, range_in, GoodBound, GoodRange}
use Rattle.lexer.specs.Lexer.{look_at}
use Rattle.lexer.specs.Tokens.{is_symbol, number_of}
use Rattle.lexer.proofs.Looks.{look_next, look_in_text}

-- what holds of each Ok of a part, and then of the rest, holds of the whole
pub then_ok_lem :
    {X Y : Type 0} (r : Result X TextFault) (k : X → Result Y TextFault) (P : X → Type 0) (Q : Y → Type 0) →
    IfOk r P → ((x : X) → P x → IfOk (k x) Q) → IfOk (then_ok r k) Q
then_ok_lem (Ok x) k P Q h f = f x h
then_ok_lem (Err e) k P Q h f = tt

-- of an Ok in hand
pub when_ok : {X : Type 0} (P : X → Type 0) (r : Result X TextFault) (x : X) → IfOk r P → r ≡ Ok x → P x
when_ok P r x h e = subst (λ z. IfOk z P) e h

inside_least : (least n : ℕ) → outside least n ≡ false → least ≤ n
inside_least least n h = grind (arith, nat_tests)

inside_most : (least n : ℕ) → outside least n ≡ false → n ≤ 4095
inside_most least n h = grind (arith, nat_tests)

module _ (text : List ℕ) where
  -- the text goes on at n or later, and not past its end
  pub record On (at n : ℕ) : Type 0 where
    pub after : at ≤ n
    pub in_text : at ≤ length text → n ≤ length text

  pub record Numbered (floor at : ℕ) (b : Bound) : Type 0 where
    pub on : On at b.next
    pub least : floor ≤ b.value
    pub most : b.value ≤ 4095

  look_on : (at : ℕ) → On at (look_at text at).next
  look_on at = record { after = look_next text at; in_text = look_in_text text at }

  pub both_on : (a b c : ℕ) → On a b → On b c → On a c
  both_on a b c p q = record { after = omega (arith, p.after, q.after); in_text = λ h. q.in_text (p.in_text h) }

  pub sign_on : (s : Symbol) (at : ℕ) → IfOk (sign_in text s at) (On at)
  unfolding sign_in
  sign_on s at = cond_both (is_symbol s (look_at text at).token) _ _ (λ (r : Result ℕ TextFault). IfOk r (On at)) (λ _. look_on at) (λ _. tt)

  bounded_on : (least at : ℕ) (x : Lexeme) (o : Option ℕ) → On at x.next → IfOk (bounded least x o) (Numbered least at)
  bounded_on least at x None h = tt
  bounded_on least at x (Some n) h =
      cond_both (outside least n) _ _ (λ (r : Result Bound TextFault). IfOk r (Numbered least at)) (λ _. tt)
      (λ e. record { on = h; least = inside_least least n e; most = inside_most least n e })

  pub number_on : (least at : ℕ) → IfOk (number_in text least at) (Numbered least at)
  unfolding number_in
  number_on least at = bounded_on least at (look_at text at) (number_of (look_at text at).token) (look_on at)

  after_good : (at begin : ℕ) → On at begin → IfOk (bound_after text begin) (GoodBound text at)
  after_good at begin o =
      then_ok_lem (number_in text 1 begin) _ (Numbered 1 begin) (GoodBound text at) (number_on 1 begin) (λ n h.
      then_ok_lem (sign_in text symbol.Right n.next) _ (On n.next) (GoodBound text at) (sign_on symbol.Right n.next) (λ end e.
      let all = both_on at n.next end (both_on at begin n.next o h.on) e in
      record { after = all.after; in_text = all.in_text; least = h.least; most = h.most }))

  pub bracket_good : (at : ℕ) → IfOk (bound_after text (look_at text at).next) (GoodBound text at)
  bracket_good at = after_good at (look_at text at).next (look_on at)

  pub bound_good : (at : ℕ) → IfOk (bound_in text at) (GoodBound text at)
  unfolding bound_in
  bound_good at =
      cond_both (is_symbol symbol.Left (look_at text at).token) _ _ (λ (r : Result Bound TextFault). IfOk r (GoodBound text at))
      (λ _. bracket_good at)
      (λ _. record { after = omega arith; in_text = λ h. h; least = omega arith; most = omega arith })

  pub range_good : (at : ℕ) → IfOk (range_in text at) (GoodRange text at)
  unfolding range_in
  range_good at =
      let good = GoodRange text at in
      then_ok_lem (sign_in text symbol.Left at) _ (On at) good (sign_on symbol.Left at) (λ begin a.
      then_ok_lem (number_in text 0 begin) _ (Numbered 0 begin) good (number_on 0 begin) (λ low b.
      then_ok_lem (sign_in text symbol.Comma low.next) _ (On low.next) good (sign_on symbol.Comma low.next) (λ comma c.
      then_ok_lem (number_in text low.value comma) _ (Numbered low.value comma) good (number_on low.value comma) (λ high d.
      then_ok_lem (sign_in text symbol.Right high.next) _ (On high.next) good (sign_on symbol.Right high.next) (λ end e.
      let to_low = both_on at begin low.next a b.on in
      let to_comma = both_on at low.next comma to_low c in
      let to_high = both_on at comma high.next to_comma d.on in
      let all = both_on at high.next end to_high e in
      record { after = all.after; in_text = all.in_text; ordered = d.least; most = d.most })))))

  -- the same of a bound or a range in hand
  pub bound_ok : (at : ℕ) (b : Bound) → bound_in text at ≡ Ok b → GoodBound text at b
  bound_ok at b e = when_ok (GoodBound text at) (bound_in text at) b (bound_good at) e

  pub range_ok : (at : ℕ) (b : Range) → range_in text at ≡ Ok b → GoodRange text at b
  range_ok at b e = when_ok (GoodRange text at) (range_in text at) b (range_good at) e
