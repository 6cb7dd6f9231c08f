use Rattle.std.proofs.Common.{ℕ, Result, codes, ap, ◌∙◌}
use Rattle.faults.specs.declared.TextFault.{TextFault}
use Rattle.lexer.specs.Bounds.{then_ok}
use Rattle.grammar.specs.Sections.{word_in}
use Rattle.parser.proofs.lines.third_words.Goals as goal

pub returns : goal.returns
returns c =
    let text = c.args.text.now in
    let third : ℕ → Result ℕ TextFault = λ b. word_in text (codes "Constraints") b in
    c.expect_word-3.ensures ∙ ap (λ r. then_ok r third) c.in_ok-second.ensures
    ∙ ap (λ r. then_ok r (λ a. then_ok (word_in text (codes "Global") a) third)) c.in_ok-first.ensures
