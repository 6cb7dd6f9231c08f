-- A worked text: what it is read as, by computation.
use Rattle.std.proofs.Common.{◌≡◌, ℕ, List, [], ◌∷◌, ◌++◌, codes, refl}
use Rattle.faults.specs.declared.Reason.TheVariants as reason
use Rattle.names.specs.Words.{name_of}
use Rattle.temporal.specs.Written.{variable, negation, later, within, conjunction, implication}
use Rattle.lexer.specs.Lexer.{look_at, token_at}
use Rattle.lexer.specs.Bounds.{bound_in, range_in, sign_in, number_in}
use Rattle.grammar.specs.Grammar.{unary_by, more, chain_by, arrow_by, operand_by, inside}
use Rattle.grammar.specs.Sections.{formed, refused, form_of, sections_of, past_lines, blanks, word_in, line_in, true_in, last_in, end_in, third_begins, formula_in, lines_in, safety_in}

gate : List ℕ
gate =
    codes "Initial Formula" ++ (10 ∷ codes "-open") ++ (10 ∷ codes "Safety Formula") ++ (10 ∷ codes "ticket_e -> F[0,3] open")
    ++ (10 ∷ codes "-ticket_e -> X -open") ++ (10 ∷ codes "Environment Global Constraints") ++ (10 ∷ codes "True") ++ (10 ∷ [])

-- `ticket_e` is environment variable 0 and `open` system variable 0, which is 16; the two safety lines are joined
gate_is_read :
    form_of gate
    ≡ formed (record {
      names = name_of (codes "open") ∷ name_of (codes "ticket_e") ∷ [];
      initial = negation (variable 16);
      safety =
          conjunction (implication (variable 0) (within 0 3 (variable 16))) (implication (negation (variable 0)) (later 1 (negation (variable 16))));
    })
unfolding gate form_of sections_of past_lines blanks word_in line_in true_in last_in end_in third_begins formula_in lines_in safety_in unary_by more chain_by arrow_by operand_by inside look_at token_at bound_in range_in sign_in number_in
gate_is_read = refl

unclosed : List ℕ
unclosed = codes "Initial Formula" ++ (10 ∷ codes "(a & b") ++ (10 ∷ [])

-- the line end at byte 22 stands where `)` has to
unclosed_is_refused : form_of unclosed ≡ refused (record { reason = reason.Misplaced; place = 22 })
unfolding unclosed form_of sections_of past_lines blanks word_in line_in formula_in unary_by more chain_by arrow_by operand_by inside look_at token_at
unclosed_is_refused = refl
