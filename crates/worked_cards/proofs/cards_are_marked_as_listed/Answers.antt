use Rattle.std.proofs.Common.{refl}
use Rattle.lexer.specs.Lexer.{look_at, token_at}
use Rattle.lexer.specs.Bounds.{bound_in, range_in, sign_in, number_in}
use Rattle.grammar.specs.Grammar.{unary_by, more, chain_by, arrow_by, operand_by, inside}
use Rattle.grammar.specs.Sections.{form_of, sections_of, past_lines, blanks, word_in, line_in, true_in, last_in, end_in, third_begins, formula_in, lines_in, safety_in}
use Rattle.worked_cards.specs.Worked.{MarkedAsListed, worked}
use Rattle.worked_cards.specs.Wrong.{wrong_false, wrong_copy, wrong_twice, wrong_lists}
use Rattle.worked_cards.proofs.cards_are_marked_as_listed.Goals as goal

worked_are : MarkedAsListed worked
unfolding form_of sections_of past_lines blanks word_in line_in true_in last_in end_in third_begins formula_in lines_in safety_in unary_by more chain_by arrow_by operand_by inside look_at token_at bound_in range_in sign_in number_in
worked_are = refl

false_are : MarkedAsListed wrong_false
unfolding form_of sections_of past_lines blanks word_in line_in true_in last_in end_in third_begins formula_in lines_in safety_in unary_by more chain_by arrow_by operand_by inside look_at token_at bound_in range_in sign_in number_in
false_are = refl

copy_are : MarkedAsListed wrong_copy
unfolding form_of sections_of past_lines blanks word_in line_in true_in last_in end_in third_begins formula_in lines_in safety_in unary_by more chain_by arrow_by operand_by inside look_at token_at bound_in range_in sign_in number_in
copy_are = refl

twice_are : MarkedAsListed wrong_twice
unfolding form_of sections_of past_lines blanks word_in line_in true_in last_in end_in third_begins formula_in lines_in safety_in unary_by more chain_by arrow_by operand_by inside look_at token_at bound_in range_in sign_in number_in
twice_are = refl

lists_are : MarkedAsListed wrong_lists
unfolding form_of sections_of past_lines blanks word_in line_in true_in last_in end_in third_begins formula_in lines_in safety_in unary_by more chain_by arrow_by operand_by inside look_at token_at bound_in range_in sign_in number_in
lists_are = refl

pub returns : goal.returns
returns c = record { worked = worked_are; entries = false_are; conditions = copy_are; order = twice_are; lists = lists_are }
