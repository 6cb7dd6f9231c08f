-- A card for each of four specifications, and a wrong one beside three of them.
use Rattle.std.specs.Prelude.{List, [], ◌∷◌, ◌++◌}
use Rattle.tableau.specs.Moves.{end, node}
use Rattle.tableau.specs.Judge.{realizable, unrealizable}
use Rattle.tableau.specs.Samples.{Sample, sample, accepted, refused, AsListed, or_entry, node_entry, move, safety, never}
use Rattle.tableau.specs.Samples.{copied, delayed, copied_next, kept, constants, copy_formulas, delayed_formulas}
use Rattle.tableau.specs.Samples.{copied_next_formulas, kept_formulas}

-- False: a free move to the end
abbrev pub false_refuted_at_once : Sample
false_refuted_at_once = sample never (accepted unrealizable 1) 2 constants [] (node_entry 0 0 0 1 ∷ []) (move 0 0 0 0 end ∷ [])

-- s <-> p: the reply copies the input
abbrev pub input_copied_to_reply : Sample
input_copied_to_reply =
    sample (safety copied) (accepted realizable 0) 1 copy_formulas [] (node_entry 0 0 0 2 ∷ [])
    (move 1 0 1 0 (node 0) ∷ move 1 1 1 1 (node 0) ∷ [])

-- s <-> X p: the reply is due before the input that it depends on; the last formula is p | -p
abbrev pub reply_due_before_its_input : Sample
reply_due_before_its_input =
    sample (safety delayed) (accepted unrealizable 2) 2 (delayed_formulas ++ (or_entry 4 5 ∷ [])) (4 ∷ 5 ∷ [])
    (node_entry 0 0 0 2 ∷ node_entry 0 1 2 1 ∷ node_entry 1 1 3 1 ∷ [])
    (move 0 0 1 1 (node 1) ∷ move 0 0 1 0 (node 2) ∷ move 1 0 0 0 end ∷ move 1 1 0 0 end ∷ [])

-- the same without the last formula, a rest at move 2
abbrev pub rest_not_listed : Sample
rest_not_listed =
    sample (safety delayed) (refused 11 3 2) 2 delayed_formulas (4 ∷ 5 ∷ [])
    (node_entry 0 0 0 2 ∷ node_entry 0 1 2 1 ∷ node_entry 1 1 3 1 ∷ [])
    (move 0 0 1 1 (node 1) ∷ move 0 0 1 0 (node 2) ∷ move 1 0 0 0 end ∷ move 1 1 0 0 end ∷ [])

-- X s <-> X p: a free move, then the reply copies the input
abbrev pub copied_from_the_next_step_on : Sample
copied_from_the_next_step_on =
    sample (safety copied_next) (accepted realizable 0) 1 copied_next_formulas (15 ∷ []) (node_entry 0 0 0 1 ∷ node_entry 0 1 1 2 ∷ [])
    (move 0 0 0 0 (node 1) ∷ move 1 1 1 1 (node 1) ∷ move 1 0 1 0 (node 1) ∷ [])

-- the same with only s & p in the label, as if the next input were known
abbrev pub label_guesses_a_later_input : Sample
label_guesses_a_later_input =
    sample (safety copied_next) (refused 16 3 2) 1 copied_next_formulas (13 ∷ []) (node_entry 0 0 0 1 ∷ node_entry 0 1 1 2 ∷ [])
    (move 0 0 0 0 (node 1) ∷ move 1 1 1 1 (node 1) ∷ move 1 0 1 0 (node 1) ∷ [])

-- p -> G[0,99] s: after p, the reply stays s
abbrev pub always_kept_by_a_loop : Sample
always_kept_by_a_loop =
    sample (safety kept) (accepted realizable 0) 1 kept_formulas (6 ∷ []) (node_entry 0 0 0 2 ∷ node_entry 0 1 2 1 ∷ [])
    (move 1 0 0 0 (node 0) ∷ move 1 1 1 1 (node 1) ∷ move 0 0 1 1 (node 1) ∷ [])

-- the same with the label G[0,97] s
abbrev pub always_one_step_too_short : Sample
always_one_step_too_short =
    sample (safety kept) (refused 16 3 1) 1 kept_formulas (7 ∷ []) (node_entry 0 0 0 2 ∷ node_entry 0 1 2 1 ∷ [])
    (move 1 0 0 0 (node 0) ∷ move 1 1 1 1 (node 1) ∷ move 0 0 1 1 (node 1) ∷ [])

-- all of them
abbrev pub worked_cards : List Sample
worked_cards =
    false_refuted_at_once ∷ input_copied_to_reply ∷ reply_due_before_its_input ∷ rest_not_listed ∷ copied_from_the_next_step_on ∷
    label_guesses_a_later_input ∷ always_kept_by_a_loop ∷ always_one_step_too_short ∷ []

abbrev pub WorkedCardsAsListed : Type 0
WorkedCardsAsListed = AsListed worked_cards
