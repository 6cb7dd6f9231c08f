use Rattle.std.proofs.Common.{sym, refl, ap, ◌∙◌, inl, inr, arith}
use Rattle.std.specs.Char.{is_ascii_digit, is_ascii_alphabetic}
use Rattle.lexer.specs.Lexer.{symbol_token}
use Rattle.lexer.proofs.Looks.{ended, worded, numbered, signed_is, word_runs, number_runs, symbol_long, symbol_fits}
use Rattle.lexer.proofs.look.look.Goals as goal

pub returns-in_default : goal.returns-in_default
returns-in_default c = record {
  value = ended _ _ _ c.run_end-from.ensures.value c.in_default.ensures.lookup.3;
  after = c.run_end-from.ensures.bound.1;
  in_text = c.run_end-from.ensures.bound.0;
  more = inl refl;
}

pub returns-then-is_ascii_alphabetic : goal.returns-then-is_ascii_alphabetic
returns-then-is_ascii_alphabetic c =
    let first = c.in-Some.ensures.lookup.3 in
    let is = sym (c.if-is_ascii_alphabetic.ensures.value ∙ ap is_ascii_alphabetic (first.1 0)) in
    let next = c.run_end-next.ensures in
    record {
      value = worded _ _ _ c.run_end-from.ensures.value first.0 is _ _ next.value c.word-token.ensures;
      after = c.run_end-from.ensures.bound.1;
      in_text = λ _. next.bound.0 (omega (arith, first.0));
      more = inr (omega (arith, next.value, word_runs _ _ first.0 is));
    }

pub returns-then-is_ascii_digit : goal.returns-then-is_ascii_digit
returns-then-is_ascii_digit c =
    let first = c.in-Some.ensures.lookup.3 in
    let non = sym (c.if-is_ascii_alphabetic.ensures.value ∙ ap is_ascii_alphabetic (first.1 0)) in
    let is = sym (c.if-is_ascii_digit.ensures.value ∙ ap is_ascii_digit (first.1 0)) in
    let next = c.run_end-next-then-is_ascii_digit.ensures in
    record {
      value = numbered _ _ _ c.run_end-from.ensures.value first.0 non is _ _ next.value c.number.ensures;
      after = c.run_end-from.ensures.bound.1;
      in_text = λ _. next.bound.0 (omega (arith, first.0));
      more = inr (omega (arith, next.value, number_runs _ _ first.0 is));
    }

pub returns-else-is_ascii_digit : goal.returns-else-is_ascii_digit
returns-else-is_ascii_digit c =
    let from = c.run_end-from.ensures in
    let first = c.in-Some.ensures.lookup.3 in
    let non = sym (c.if-is_ascii_alphabetic.ensures.value ∙ ap is_ascii_alphabetic (first.1 0)) in
    let nor = sym (c.if-is_ascii_digit.ensures.value ∙ ap is_ascii_digit (first.1 0)) in
    let second = c.byte_at.ensures in
    let third = c.byte_at-else-is_ascii_digit.ensures in
    let token = c.symbol-token.ensures ∙ ap (λ a. symbol_token a c.byte_at.result c.byte_at-else-is_ascii_digit.result) (first.1 0) in
    let len = c.symbol_len.ensures in
    record {
      value = signed_is _ _ _ from.value first.0 non nor _ _ _ _ second third token len;
      after = from.bound.1;
      in_text = λ _. omega (arith, len, symbol_fits _ _ _ _ _ first.0 second third token);
      more = inr (omega (arith, len, symbol_long c.symbol-token.result));
    }
