-- Wrong cards: every fault with its place, and which fault comes first where two meet.
use Rattle.std.specs.Prelude.{false, List, [], ◌∷◌}
use Rattle.temporal.specs.Formula.{bot, top, lit, conj, disj, next, always, eventually}
use Rattle.tableau.specs.Moves.{end, node}
use Rattle.tableau.specs.Samples.{Sample, sample, refused, AsListed, entry, false_entry, true_entry, var_entry, not_entry}
use Rattle.tableau.specs.Samples.{and_entry, or_entry, next_entry, always_entry, eventually_entry, node_entry, move, many, p}
use Rattle.tableau.specs.Samples.{s, starting, safety, only, never, copied, constants, copy_formulas}

-- ── counts and kind ──

-- one formula
abbrev pub one_formula : Sample
one_formula = sample never (refused 8 4 1) 2 (false_entry ∷ []) [] (node_entry 0 0 0 1 ∷ []) (move 0 0 0 0 end ∷ [])

-- no node
abbrev pub no_node : Sample
no_node = sample never (refused 8 4 5) 2 constants [] [] (move 0 0 0 0 end ∷ [])

-- no move
abbrev pub no_move : Sample
no_move = sample never (refused 8 4 7) 2 constants [] (node_entry 0 0 0 1 ∷ []) []

-- kind 0
abbrev pub kind_zero : Sample
kind_zero = sample never (refused 8 4 8) 0 constants [] (node_entry 0 0 0 1 ∷ []) (move 0 0 0 0 end ∷ [])

-- kind 3
abbrev pub kind_three : Sample
kind_three = sample never (refused 8 4 8) 3 constants [] (node_entry 0 0 0 1 ∷ []) (move 0 0 0 0 end ∷ [])

-- nothing at all
abbrev pub empty_card : Sample
empty_card = sample never (refused 8 4 1) 2 [] [] [] []

-- 1,025 formulas
abbrev pub too_many_formulas : Sample
too_many_formulas = sample never (refused 8 4 1) 2 (many false_entry 1025) [] (node_entry 0 0 0 1 ∷ []) (move 0 0 0 0 end ∷ [])

-- 4,097 labels
abbrev pub too_many_labels : Sample
too_many_labels = sample never (refused 8 4 3) 2 constants (many 0 4097) (node_entry 0 0 0 1 ∷ []) (move 0 0 0 0 end ∷ [])

-- 1,025 nodes
abbrev pub too_many_nodes : Sample
too_many_nodes = sample never (refused 8 4 5) 2 constants [] (many (node_entry 0 0 0 1) 1025) (move 0 0 0 0 end ∷ [])

-- 2,049 moves
abbrev pub too_many_moves : Sample
too_many_moves = sample never (refused 8 4 7) 2 constants [] (node_entry 0 0 0 1 ∷ []) (many (move 0 0 0 0 end) 2049)

-- one formula, and 4,097 labels
abbrev pub formula_count_before_label_count : Sample
formula_count_before_label_count =
    sample never (refused 8 4 1) 2 (false_entry ∷ []) (many 0 4097) (node_entry 0 0 0 1 ∷ []) (move 0 0 0 0 end ∷ [])

-- 4,097 labels and no node
abbrev pub label_count_before_node_count : Sample
label_count_before_node_count = sample never (refused 8 4 3) 2 constants (many 0 4097) [] (move 0 0 0 0 end ∷ [])

-- no node and no move
abbrev pub node_count_before_move_count : Sample
node_count_before_move_count = sample never (refused 8 4 5) 2 constants [] [] []

-- no move, and kind 3
abbrev pub move_count_before_kind : Sample
move_count_before_kind = sample never (refused 8 4 7) 3 constants [] (node_entry 0 0 0 1 ∷ []) []

-- kind 3, and entry 0 is true
abbrev pub kind_before_form : Sample
kind_before_form = sample never (refused 8 4 8) 3 (true_entry ∷ true_entry ∷ []) [] (node_entry 0 0 0 1 ∷ []) (move 0 0 0 0 end ∷ [])

-- ── the form of formulas ──

-- entry 0 is true
abbrev pub entry_0_true : Sample
entry_0_true = sample (safety bot) (refused 9 0 0) 2 (true_entry ∷ false_entry ∷ []) [] (node_entry 0 0 0 1 ∷ []) (move 0 0 0 0 end ∷ [])

-- entry 1 is false
abbrev pub entry_1_false : Sample
entry_1_false = sample (safety bot) (refused 9 0 1) 2 (false_entry ∷ false_entry ∷ []) [] (node_entry 0 0 0 1 ∷ []) (move 0 0 0 0 end ∷ [])

-- true with a variable
abbrev pub constant_with_a_field : Sample
constant_with_a_field =
    sample (safety bot) (refused 9 0 1) 2 (false_entry ∷ entry 1 1 0 0 0 0 ∷ []) [] (node_entry 0 0 0 1 ∷ []) (move 0 0 0 0 end ∷ [])

-- false again, with a bound: bad form comes before an equal
abbrev pub later_constant_with_a_field : Sample
later_constant_with_a_field =
    sample (safety bot) (refused 9 0 2) 2 (false_entry ∷ true_entry ∷ entry 0 0 0 0 0 1 ∷ []) [] (node_entry 0 0 0 1 ∷ [])
    (move 0 0 0 0 end ∷ [])

-- kind 9
abbrev pub kind_of_formula_unknown : Sample
kind_of_formula_unknown =
    sample (safety bot) (refused 9 0 2) 2 (false_entry ∷ true_entry ∷ entry 9 0 0 0 0 0 ∷ []) [] (node_entry 0 0 0 1 ∷ [])
    (move 0 0 0 0 end ∷ [])

-- environment variable 1 of one
abbrev pub environment_variable_unknown : Sample
environment_variable_unknown =
    sample (safety bot) (refused 9 0 2) 2 (false_entry ∷ true_entry ∷ var_entry 1 ∷ []) [] (node_entry 0 0 0 1 ∷ []) (move 0 0 0 0 end ∷ [])

-- system variable 17 of one
abbrev pub system_variable_unknown : Sample
system_variable_unknown =
    sample (safety bot) (refused 9 0 2) 2 (false_entry ∷ true_entry ∷ not_entry 17 ∷ []) [] (node_entry 0 0 0 1 ∷ []) (move 0 0 0 0 end ∷ [])

-- a variable with a part
abbrev pub literal_with_a_part : Sample
literal_with_a_part =
    sample (safety bot) (refused 9 0 2) 2 (false_entry ∷ true_entry ∷ entry 2 16 2 0 0 0 ∷ []) [] (node_entry 0 0 0 1 ∷ [])
    (move 0 0 0 0 end ∷ [])

-- a negated variable with a bound
abbrev pub literal_with_a_bound : Sample
literal_with_a_bound =
    sample (safety bot) (refused 9 0 2) 2 (false_entry ∷ true_entry ∷ entry 3 16 0 0 1 0 ∷ []) [] (node_entry 0 0 0 1 ∷ [])
    (move 0 0 0 0 end ∷ [])

-- true as a part
abbrev pub constant_as_part : Sample
constant_as_part =
    sample (safety bot) (refused 9 0 3) 2 (false_entry ∷ true_entry ∷ var_entry 16 ∷ and_entry 1 2 ∷ []) [] (node_entry 0 0 0 1 ∷ [])
    (move 0 0 0 0 end ∷ [])

-- an entry that is its own part
abbrev pub own_number_as_part : Sample
own_number_as_part =
    sample (safety bot) (refused 9 0 3) 2 (false_entry ∷ true_entry ∷ var_entry 16 ∷ or_entry 2 3 ∷ []) [] (node_entry 0 0 0 1 ∷ [])
    (move 0 0 0 0 end ∷ [])

-- a part behind the whole
abbrev pub later_part : Sample
later_part =
    sample (safety bot) (refused 9 0 2) 2 (false_entry ∷ true_entry ∷ next_entry 1 3 ∷ var_entry 16 ∷ []) [] (node_entry 0 0 0 1 ∷ [])
    (move 0 0 0 0 end ∷ [])

-- a conjunction with a bound
abbrev pub pair_with_a_bound : Sample
pair_with_a_bound =
    sample (safety bot) (refused 9 0 3) 2 (false_entry ∷ true_entry ∷ var_entry 16 ∷ entry 4 0 2 2 0 1 ∷ []) [] (node_entry 0 0 0 1 ∷ [])
    (move 0 0 0 0 end ∷ [])

-- a disjunction with a variable
abbrev pub pair_with_a_variable : Sample
pair_with_a_variable =
    sample (safety bot) (refused 9 0 3) 2 (false_entry ∷ true_entry ∷ var_entry 16 ∷ entry 5 16 2 2 0 0 ∷ []) [] (node_entry 0 0 0 1 ∷ [])
    (move 0 0 0 0 end ∷ [])

-- X[0]
abbrev pub next_zero : Sample
next_zero =
    sample (safety bot) (refused 9 0 3) 2 (false_entry ∷ true_entry ∷ var_entry 16 ∷ next_entry 0 2 ∷ []) [] (node_entry 0 0 0 1 ∷ [])
    (move 0 0 0 0 end ∷ [])

-- X[4096]
abbrev pub next_too_far : Sample
next_too_far =
    sample (safety bot) (refused 9 0 3) 2 (false_entry ∷ true_entry ∷ var_entry 16 ∷ next_entry 4096 2 ∷ []) [] (node_entry 0 0 0 1 ∷ [])
    (move 0 0 0 0 end ∷ [])

-- X with a second part
abbrev pub next_with_a_second_part : Sample
next_with_a_second_part =
    sample (safety bot) (refused 9 0 3) 2 (false_entry ∷ true_entry ∷ var_entry 16 ∷ entry 6 0 2 2 1 0 ∷ []) [] (node_entry 0 0 0 1 ∷ [])
    (move 0 0 0 0 end ∷ [])

-- X with a second bound
abbrev pub next_with_a_second_bound : Sample
next_with_a_second_bound =
    sample (safety bot) (refused 9 0 3) 2 (false_entry ∷ true_entry ∷ var_entry 16 ∷ entry 6 0 2 0 1 1 ∷ []) [] (node_entry 0 0 0 1 ∷ [])
    (move 0 0 0 0 end ∷ [])

-- G[3,2]
abbrev pub range_backwards : Sample
range_backwards =
    sample (safety bot) (refused 9 0 3) 2 (false_entry ∷ true_entry ∷ var_entry 16 ∷ always_entry 3 2 2 ∷ []) [] (node_entry 0 0 0 1 ∷ [])
    (move 0 0 0 0 end ∷ [])

-- F[0,4096]
abbrev pub range_too_far : Sample
range_too_far =
    sample (safety bot) (refused 9 0 3) 2 (false_entry ∷ true_entry ∷ var_entry 16 ∷ eventually_entry 0 4096 2 ∷ []) []
    (node_entry 0 0 0 1 ∷ []) (move 0 0 0 0 end ∷ [])

-- G with a second part
abbrev pub range_with_a_second_part : Sample
range_with_a_second_part =
    sample (safety bot) (refused 9 0 3) 2 (false_entry ∷ true_entry ∷ var_entry 16 ∷ entry 7 0 2 2 0 1 ∷ []) [] (node_entry 0 0 0 1 ∷ [])
    (move 0 0 0 0 end ∷ [])

-- two bad formulas: the lower one is named
abbrev pub lower_of_two_bad_formulas : Sample
lower_of_two_bad_formulas =
    sample (safety bot) (refused 9 0 2) 2 (false_entry ∷ true_entry ∷ var_entry 1 ∷ var_entry 2 ∷ []) [] (node_entry 0 0 0 1 ∷ [])
    (move 0 0 0 0 end ∷ [])

-- ── the form of labels, nodes and moves ──

-- a label entry that no node has is judged too
abbrev pub label_beyond_the_formulas : Sample
label_beyond_the_formulas = sample never (refused 9 1 0) 2 constants (2 ∷ []) (node_entry 0 0 0 1 ∷ []) (move 0 0 0 0 end ∷ [])

-- no label, but the first is past the list
abbrev pub no_label_past_the_list : Sample
no_label_past_the_list = sample never (refused 9 2 0) 2 constants [] (node_entry 1 0 0 1 ∷ []) (move 0 0 0 0 end ∷ [])

-- two labels of a list of one
abbrev pub label_past_the_list : Sample
label_past_the_list = sample never (refused 9 2 0) 2 constants (1 ∷ []) (node_entry 0 2 0 1 ∷ []) (move 0 0 0 0 end ∷ [])

-- a move past the list
abbrev pub move_past_the_list : Sample
move_past_the_list = sample never (refused 9 2 0) 2 constants [] (node_entry 0 0 1 1 ∷ []) (move 0 0 0 0 end ∷ [])

-- a node without a move
abbrev pub node_without_move : Sample
node_without_move = sample never (refused 9 2 1) 2 constants [] (node_entry 0 0 0 1 ∷ node_entry 0 0 0 0 ∷ []) (move 0 0 0 0 end ∷ [])

-- an input value outside the mask
abbrev pub input_value_outside_mask : Sample
input_value_outside_mask = sample (safety bot) (refused 9 3 0) 2 constants [] (node_entry 0 0 0 1 ∷ []) (move 0 1 0 0 end ∷ [])

-- a reply value outside the mask
abbrev pub reply_value_outside_mask : Sample
reply_value_outside_mask = sample (safety bot) (refused 9 3 0) 2 constants [] (node_entry 0 0 0 1 ∷ []) (move 0 0 0 1 end ∷ [])

-- an input mask beyond the one variable
abbrev pub input_mask_too_wide : Sample
input_mask_too_wide = sample (safety bot) (refused 9 3 0) 2 constants [] (node_entry 0 0 0 1 ∷ []) (move 2 0 0 0 end ∷ [])

-- a reply mask beyond the one variable, at a move that no node has
abbrev pub reply_mask_too_wide : Sample
reply_mask_too_wide =
    sample (safety bot) (refused 9 3 1) 2 constants [] (node_entry 0 0 0 1 ∷ []) (move 0 0 0 0 end ∷ move 0 0 2 0 end ∷ [])

-- a bad formula and a bad label
abbrev pub formula_form_before_label_form : Sample
formula_form_before_label_form =
    sample never (refused 9 0 2) 2 (false_entry ∷ true_entry ∷ var_entry 0 ∷ []) (3 ∷ []) (node_entry 0 0 0 1 ∷ []) (move 0 0 0 0 end ∷ [])

-- a bad label and a bad node
abbrev pub label_form_before_node_form : Sample
label_form_before_node_form = sample never (refused 9 1 0) 2 constants (2 ∷ []) (node_entry 0 0 0 0 ∷ []) (move 0 0 0 0 end ∷ [])

-- a bad node and a bad move
abbrev pub node_form_before_move_form : Sample
node_form_before_move_form = sample never (refused 9 2 0) 2 constants [] (node_entry 0 0 0 0 ∷ []) (move 1 0 0 0 end ∷ [])

-- a bad move and an equal formula
abbrev pub form_before_equal_formulas : Sample
form_before_equal_formulas =
    sample never (refused 9 3 0) 2 (false_entry ∷ true_entry ∷ false_entry ∷ []) [] (node_entry 0 0 0 1 ∷ []) (move 1 0 0 0 end ∷ [])

-- ── equal formulas, and those of the specification ──

-- true again at a later entry
abbrev pub constant_again : Sample
constant_again =
    sample never (refused 10 0 2) 2 (false_entry ∷ true_entry ∷ true_entry ∷ []) [] (node_entry 0 0 0 1 ∷ []) (move 0 0 0 0 end ∷ [])

-- a formula again: the later one is named
abbrev pub formula_again : Sample
formula_again =
    sample (safety bot) (refused 10 0 4) 2 (false_entry ∷ true_entry ∷ var_entry 16 ∷ not_entry 16 ∷ var_entry 16 ∷ []) []
    (node_entry 0 0 0 1 ∷ []) (move 0 0 0 0 end ∷ [])

-- the safety formula is not listed
abbrev pub safety_formula_missing : Sample
safety_formula_missing = sample (safety s) (refused 11 0 0) 1 constants [] (node_entry 0 0 0 1 ∷ []) (move 0 0 1 1 (node 0) ∷ [])

-- the initial formula is not listed
abbrev pub initial_formula_missing : Sample
initial_formula_missing = sample (starting s top) (refused 11 0 0) 1 constants [] (node_entry 0 0 0 1 ∷ []) (move 0 0 1 1 (node 0) ∷ [])

-- an equal formula, and the safety formula is not listed
abbrev pub equal_formulas_before_specification : Sample
equal_formulas_before_specification =
    sample (safety s) (refused 10 0 2) 1 (false_entry ∷ true_entry ∷ true_entry ∷ []) [] (node_entry 0 0 0 1 ∷ [])
    (move 0 0 1 1 (node 0) ∷ [])

-- ── the root ──

-- open: the root label does not cover the initial formula
abbrev pub root_label_does_not_cover_initial : Sample
root_label_does_not_cover_initial =
    sample (starting s top) (refused 12 2 0) 1 (false_entry ∷ true_entry ∷ var_entry 16 ∷ []) [] (node_entry 0 0 0 1 ∷ [])
    (move 0 0 1 1 (node 0) ∷ [])

-- closed: the root label is not covered by the initial formula
abbrev pub root_label_not_covered_by_initial : Sample
root_label_not_covered_by_initial =
    sample (safety bot) (refused 12 2 0) 2 (false_entry ∷ true_entry ∷ var_entry 16 ∷ []) (2 ∷ []) (node_entry 0 1 0 1 ∷ [])
    (move 0 0 0 0 end ∷ [])

-- the safety formula is not listed, and the root is wrong
abbrev pub specification_before_root : Sample
specification_before_root =
    sample (starting s p) (refused 11 0 0) 1 (false_entry ∷ true_entry ∷ var_entry 16 ∷ []) [] (node_entry 0 0 0 1 ∷ [])
    (move 0 0 1 1 (node 0) ∷ [])

-- ── labels, covering, targets ──

-- open: false in a label
abbrev pub false_in_open_label : Sample
false_in_open_label =
    sample (safety copied) (refused 13 1 0) 1 copy_formulas (0 ∷ []) (node_entry 0 1 0 2 ∷ [])
    (move 1 0 1 0 (node 0) ∷ move 1 1 1 1 (node 0) ∷ [])

-- open: false at the second place
abbrev pub false_at_second_place : Sample
false_at_second_place =
    sample (safety copied) (refused 13 1 1) 1 copy_formulas (1 ∷ 0 ∷ []) (node_entry 0 2 0 2 ∷ [])
    (move 1 0 1 0 (node 0) ∷ move 1 1 1 1 (node 0) ∷ [])

-- open: false twice: the lower place is named
abbrev pub lower_of_two_false_labels : Sample
lower_of_two_false_labels =
    sample (safety copied) (refused 13 1 0) 1 copy_formulas (0 ∷ 0 ∷ []) (node_entry 0 2 0 2 ∷ [])
    (move 1 0 1 0 (node 0) ∷ move 1 1 1 1 (node 0) ∷ [])

-- the root label does not cover the initial formula; node 1 has false
abbrev pub root_before_labels : Sample
root_before_labels =
    sample (starting s top) (refused 12 2 0) 1 (false_entry ∷ true_entry ∷ var_entry 16 ∷ []) (0 ∷ [])
    (node_entry 0 0 0 1 ∷ node_entry 0 1 0 1 ∷ []) (move 0 0 1 1 (node 0) ∷ [])

-- open: an input fits no move
abbrev pub input_without_move : Sample
input_without_move =
    sample (safety copied) (refused 14 2 0) 1 copy_formulas [] (node_entry 0 0 0 1 ∷ [])
    (move 1 0 1 0 (node 0) ∷ move 1 1 1 1 (node 0) ∷ [])

-- open: an input fits two moves
abbrev pub input_with_two_moves : Sample
input_with_two_moves =
    sample (safety copied) (refused 14 2 0) 1 copy_formulas [] (node_entry 0 0 0 3 ∷ [])
    (move 1 0 1 0 (node 0) ∷ move 1 1 1 1 (node 0) ∷ move 1 1 1 1 (node 0) ∷ [])

-- closed: moves with different input masks
abbrev pub closed_inputs_with_other_mask : Sample
closed_inputs_with_other_mask =
    sample (safety bot) (refused 14 2 0) 2 constants [] (node_entry 0 0 0 2 ∷ []) (move 1 0 1 0 end ∷ move 0 0 1 1 end ∷ [])

-- closed: moves with different input values
abbrev pub closed_inputs_with_other_values : Sample
closed_inputs_with_other_values =
    sample (safety bot) (refused 14 2 0) 2 constants [] (node_entry 0 0 0 2 ∷ []) (move 1 0 1 0 end ∷ move 1 1 1 1 end ∷ [])

-- closed: a reply fits no move
abbrev pub reply_without_move : Sample
reply_without_move = sample (safety bot) (refused 14 2 0) 2 constants [] (node_entry 0 0 0 1 ∷ []) (move 0 0 1 0 end ∷ [])

-- closed: a reply fits two moves
abbrev pub reply_with_two_moves : Sample
reply_with_two_moves =
    sample (safety bot) (refused 14 2 0) 2 constants [] (node_entry 0 0 0 2 ∷ []) (move 0 0 0 0 end ∷ move 0 0 1 1 end ∷ [])

-- closed: the input that the moves give is not permitted
abbrev pub served_input_not_permitted : Sample
served_input_not_permitted = sample (only p bot) (refused 14 2 0) 2 constants [] (node_entry 0 0 0 1 ∷ []) (move 0 0 0 0 end ∷ [])

-- open: a permitted input fits no move
abbrev pub permitted_input_without_move : Sample
permitted_input_without_move = sample (only p top) (refused 14 2 0) 1 constants [] (node_entry 0 0 0 1 ∷ []) (move 1 0 0 0 (node 0) ∷ [])

-- two nodes with an input that fits no move: the lower one is named
abbrev pub lower_of_two_uncovered_nodes : Sample
lower_of_two_uncovered_nodes =
    sample (safety copied) (refused 14 2 0) 1 copy_formulas [] (node_entry 0 0 1 1 ∷ node_entry 0 0 0 1 ∷ [])
    (move 1 0 1 0 (node 0) ∷ move 1 1 1 1 (node 0) ∷ [])

-- false in the label, and an input fits no move
abbrev pub labels_before_covering : Sample
labels_before_covering =
    sample (safety copied) (refused 13 1 0) 1 copy_formulas (0 ∷ []) (node_entry 0 1 0 1 ∷ [])
    (move 1 0 1 0 (node 0) ∷ move 1 1 1 1 (node 0) ∷ [])

-- open: a move to the end
abbrev pub open_move_to_the_end : Sample
open_move_to_the_end =
    sample (safety copied) (refused 15 3 1) 1 copy_formulas [] (node_entry 0 0 0 2 ∷ []) (move 1 0 1 0 (node 0) ∷ move 1 1 1 1 end ∷ [])

-- open: a move to a node that is not there
abbrev pub open_move_to_no_node : Sample
open_move_to_no_node =
    sample (safety copied) (refused 15 3 1) 1 copy_formulas [] (node_entry 0 0 0 2 ∷ [])
    (move 1 0 1 0 (node 0) ∷ move 1 1 1 1 (node 1) ∷ [])

-- closed: a move back to its own node
abbrev pub closed_move_to_itself : Sample
closed_move_to_itself = sample never (refused 15 3 0) 2 constants [] (node_entry 0 0 0 1 ∷ []) (move 0 0 0 0 (node 0) ∷ [])

-- closed: a move to an earlier node
abbrev pub closed_move_back : Sample
closed_move_back =
    sample never (refused 15 3 1) 2 constants [] (node_entry 0 0 0 1 ∷ node_entry 0 0 1 1 ∷ [])
    (move 0 0 0 0 end ∷ move 0 0 0 0 (node 0) ∷ [])

-- closed: a move to a node that is not there
abbrev pub closed_move_to_no_node : Sample
closed_move_to_no_node = sample never (refused 15 3 0) 2 constants [] (node_entry 0 0 0 1 ∷ []) (move 0 0 0 0 (node 1) ∷ [])

-- two targets that are not there: the lower move is named
abbrev pub lower_of_two_wrong_targets : Sample
lower_of_two_wrong_targets =
    sample (safety copied) (refused 15 3 0) 1 copy_formulas [] (node_entry 0 0 0 2 ∷ [])
    (move 1 0 1 0 (node 8) ∷ move 1 1 1 1 (node 7) ∷ [])

-- an input fits no move, and a move goes to the end
abbrev pub covering_before_targets : Sample
covering_before_targets = sample (safety copied) (refused 14 2 0) 1 copy_formulas [] (node_entry 0 0 0 1 ∷ []) (move 1 0 1 0 end ∷ [])

-- ── rests and steps ──

-- a target that is not there at move 1 comes before a wrong step at move 0
abbrev pub targets_of_all_moves_first : Sample
targets_of_all_moves_first =
    sample (safety copied) (refused 15 3 1) 1 copy_formulas [] (node_entry 0 0 0 2 ∷ [])
    (move 1 0 1 1 (node 0) ∷ move 1 1 1 1 (node 7) ∷ [])

-- a target that is not there comes before a rest that is not listed
abbrev pub targets_before_rests : Sample
targets_before_rests =
    sample (safety (next 2 s)) (refused 15 3 0) 1 (false_entry ∷ true_entry ∷ var_entry 16 ∷ next_entry 2 2 ∷ []) [] (node_entry 0 0 0 1 ∷ [])
    (move 0 0 0 0 (node 7) ∷ [])

-- a rest that is not listed comes before the wrong step of its move
abbrev pub rests_before_step : Sample
rests_before_step =
    sample (safety (next 2 s)) (refused 11 3 0) 1 (false_entry ∷ true_entry ∷ var_entry 16 ∷ next_entry 2 2 ∷ []) [] (node_entry 0 0 0 1 ∷ [])
    (move 0 0 0 0 (node 0) ∷ [])

-- a wrong step at move 0 comes before a rest that is not listed at move 1
abbrev pub step_before_rests_of_next_move : Sample
step_before_rests_of_next_move =
    sample (safety (disj (conj s p) (next 2 s))) (refused 16 3 0) 1
    (false_entry ∷ true_entry ∷ var_entry 16 ∷ var_entry 0 ∷ and_entry 2 3 ∷ next_entry 2 2 ∷ or_entry 4 5 ∷ next_entry 1 2 ∷ []) []
    (node_entry 0 0 0 2 ∷ []) (move 1 0 0 0 (node 0) ∷ move 1 1 0 0 (node 0) ∷ [])

-- a wrong step at node 0 comes before false in the label of node 1
abbrev pub step_before_labels_of_next_node : Sample
step_before_labels_of_next_node =
    sample (safety s) (refused 16 3 0) 1 (false_entry ∷ true_entry ∷ var_entry 16 ∷ []) (0 ∷ []) (node_entry 0 0 0 1 ∷ node_entry 0 1 1 1 ∷ [])
    (move 0 0 1 0 (node 0) ∷ move 0 0 1 1 (node 0) ∷ [])

-- two wrong steps: the lower move is named
abbrev pub lower_of_two_wrong_steps : Sample
lower_of_two_wrong_steps =
    sample (safety copied) (refused 16 3 0) 1 copy_formulas [] (node_entry 0 0 0 2 ∷ [])
    (move 1 0 1 1 (node 0) ∷ move 1 1 1 0 (node 0) ∷ [])

-- a node that is never reached is judged too
abbrev pub node_never_reached : Sample
node_never_reached =
    sample (safety s) (refused 16 3 1) 1 (false_entry ∷ true_entry ∷ var_entry 16 ∷ []) [] (node_entry 0 0 0 1 ∷ node_entry 0 0 1 1 ∷ [])
    (move 0 0 1 1 (node 0) ∷ move 0 0 1 0 (node 0) ∷ [])

-- open: the reply breaks the safety formula
abbrev pub safety_formula_not_kept : Sample
safety_formula_not_kept =
    sample (safety copied) (refused 16 3 1) 1 copy_formulas [] (node_entry 0 0 0 2 ∷ [])
    (move 1 0 1 0 (node 0) ∷ move 1 1 1 0 (node 0) ∷ [])

-- open: a free variable does not make the safety formula true
abbrev pub free_variable_not_taken_for_true : Sample
free_variable_not_taken_for_true =
    sample (safety s) (refused 16 3 0) 1 (false_entry ∷ true_entry ∷ var_entry 16 ∷ []) [] (node_entry 0 0 0 1 ∷ [])
    (move 0 0 0 0 (node 0) ∷ [])

-- closed: a free variable does not make the safety formula false
abbrev pub free_variable_not_taken_for_false : Sample
free_variable_not_taken_for_false =
    sample (safety s) (refused 16 3 0) 2 (false_entry ∷ true_entry ∷ var_entry 16 ∷ []) [] (node_entry 0 0 0 1 ∷ []) (move 0 0 0 0 end ∷ [])

-- closed: the end, and the rests do not hold false
abbrev pub end_without_false : Sample
end_without_false = sample (safety top) (refused 16 3 0) 2 constants [] (node_entry 0 0 0 1 ∷ []) (move 0 0 0 0 end ∷ [])

-- closed: the rests do not cover the label of the target
abbrev pub label_not_covered_by_rests : Sample
label_not_covered_by_rests =
    sample (safety top) (refused 16 3 0) 2 (false_entry ∷ true_entry ∷ var_entry 16 ∷ not_entry 16 ∷ []) (2 ∷ [])
    (node_entry 0 0 0 1 ∷ node_entry 0 1 1 2 ∷ []) (move 0 0 0 0 (node 1) ∷ move 0 0 1 0 end ∷ move 0 0 1 1 end ∷ [])

-- F[0,5] does not cover F[0,3]
abbrev pub shorter_eventually_not_covered : Sample
shorter_eventually_not_covered =
    sample (safety (eventually 0 4 (lit false 16))) (refused 16 3 0) 1
    (false_entry ∷ true_entry ∷ not_entry 16 ∷ eventually_entry 0 4 2 ∷ eventually_entry 0 5 2 ∷ eventually_entry 0 3 2 ∷ []) (4 ∷ [])
    (node_entry 0 1 0 1 ∷ []) (move 0 0 1 1 (node 0) ∷ [])

-- the shorter G has to be listed, also beside a false rest of the body
abbrev pub shorter_always_listed_beside_false : Sample
shorter_always_listed_beside_false =
    sample (safety (disj (lit false 16) (always 0 1 s))) (refused 11 3 0) 1
    (false_entry ∷ true_entry ∷ var_entry 16 ∷ not_entry 16 ∷ always_entry 0 1 2 ∷ or_entry 3 4 ∷ []) [] (node_entry 0 0 0 1 ∷ [])
    (move 0 0 1 0 (node 0) ∷ [])

-- the shorter F has to be listed, also beside a true rest of the body
abbrev pub shorter_eventually_listed_beside_true : Sample
shorter_eventually_listed_beside_true =
    sample (safety (disj s (eventually 0 1 s))) (refused 11 3 0) 1
    (false_entry ∷ true_entry ∷ var_entry 16 ∷ eventually_entry 0 1 2 ∷ or_entry 2 3 ∷ []) [] (node_entry 0 0 0 1 ∷ [])
    (move 0 0 1 1 (node 0) ∷ [])

-- the rest of the other part has to be listed beside a true one
abbrev pub other_part_listed_beside_true : Sample
other_part_listed_beside_true =
    sample (safety (disj s (next 2 s))) (refused 11 3 0) 1 (false_entry ∷ true_entry ∷ var_entry 16 ∷ next_entry 2 2 ∷ or_entry 2 3 ∷ []) []
    (node_entry 0 0 0 1 ∷ []) (move 0 0 1 1 (node 0) ∷ [])

-- and beside a false one, here the second part
abbrev pub other_part_listed_beside_false : Sample
other_part_listed_beside_false =
    sample (safety (conj (next 2 s) (conj s (lit false 16)))) (refused 11 3 0) 2
    (false_entry ∷ true_entry ∷ var_entry 16 ∷ not_entry 16 ∷ and_entry 2 3 ∷ next_entry 2 2 ∷ and_entry 5 4 ∷ []) [] (node_entry 0 0 0 2 ∷ [])
    (move 0 0 1 0 end ∷ move 0 0 1 1 end ∷ [])

-- the rest of a label formula has to be listed too
abbrev pub label_rest_not_listed : Sample
label_rest_not_listed =
    sample (safety top) (refused 11 3 0) 1 (false_entry ∷ true_entry ∷ var_entry 16 ∷ next_entry 2 2 ∷ []) (3 ∷ []) (node_entry 0 1 0 1 ∷ [])
    (move 0 0 0 0 (node 0) ∷ [])

-- all of them
abbrev pub wrong_cards : List Sample
wrong_cards =
    one_formula ∷ no_node ∷ no_move ∷ kind_zero ∷ kind_three ∷ empty_card ∷ too_many_formulas ∷ too_many_labels ∷
    too_many_nodes ∷ too_many_moves ∷ formula_count_before_label_count ∷ label_count_before_node_count ∷
    node_count_before_move_count ∷ move_count_before_kind ∷ kind_before_form ∷ entry_0_true ∷ entry_1_false ∷
    constant_with_a_field ∷ later_constant_with_a_field ∷ kind_of_formula_unknown ∷ environment_variable_unknown ∷
    system_variable_unknown ∷ literal_with_a_part ∷ literal_with_a_bound ∷ constant_as_part ∷ own_number_as_part ∷ later_part ∷
    pair_with_a_bound ∷ pair_with_a_variable ∷ next_zero ∷ next_too_far ∷ next_with_a_second_part ∷ next_with_a_second_bound ∷
    range_backwards ∷ range_too_far ∷ range_with_a_second_part ∷ lower_of_two_bad_formulas ∷ label_beyond_the_formulas ∷
    no_label_past_the_list ∷ label_past_the_list ∷ move_past_the_list ∷ node_without_move ∷ input_value_outside_mask ∷
    reply_value_outside_mask ∷ input_mask_too_wide ∷ reply_mask_too_wide ∷ formula_form_before_label_form ∷
    label_form_before_node_form ∷ node_form_before_move_form ∷ form_before_equal_formulas ∷ constant_again ∷ formula_again ∷
    safety_formula_missing ∷ initial_formula_missing ∷ equal_formulas_before_specification ∷ root_label_does_not_cover_initial ∷
    root_label_not_covered_by_initial ∷ specification_before_root ∷ false_in_open_label ∷ false_at_second_place ∷
    lower_of_two_false_labels ∷ root_before_labels ∷ input_without_move ∷ input_with_two_moves ∷ closed_inputs_with_other_mask ∷
    closed_inputs_with_other_values ∷ reply_without_move ∷ reply_with_two_moves ∷ served_input_not_permitted ∷
    permitted_input_without_move ∷ lower_of_two_uncovered_nodes ∷ labels_before_covering ∷ open_move_to_the_end ∷
    open_move_to_no_node ∷ closed_move_to_itself ∷ closed_move_back ∷ closed_move_to_no_node ∷ lower_of_two_wrong_targets ∷
    covering_before_targets ∷ targets_of_all_moves_first ∷ targets_before_rests ∷ rests_before_step ∷
    step_before_rests_of_next_move ∷ step_before_labels_of_next_node ∷ lower_of_two_wrong_steps ∷ node_never_reached ∷
    safety_formula_not_kept ∷ free_variable_not_taken_for_true ∷ free_variable_not_taken_for_false ∷ end_without_false ∷
    label_not_covered_by_rests ∷ shorter_eventually_not_covered ∷ shorter_always_listed_beside_false ∷
    shorter_eventually_listed_beside_true ∷ other_part_listed_beside_true ∷ other_part_listed_beside_false ∷
    label_rest_not_listed ∷ []

abbrev pub WrongCardsAsListed : Type 0
WrongCardsAsListed = AsListed wrong_cards
