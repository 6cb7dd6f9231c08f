-- Cards with something unusual that is allowed.
use Rattle.std.specs.Prelude.{false, List, [], ◌∷◌}
use Rattle.temporal.specs.Formula.{bot, top, lit, conj, next, always, eventually}
use Rattle.tableau.specs.Moves.{end, node}
use Rattle.tableau.specs.Judge.{realizable, unrealizable}
use Rattle.tableau.specs.Samples.{Sample, sample, accepted, AsListed, false_entry, true_entry, var_entry, not_entry}
use Rattle.tableau.specs.Samples.{and_entry, next_entry, always_entry, eventually_entry, node_entry, move, p, s, safety}
use Rattle.tableau.specs.Samples.{only, constants}

-- closed: a label may have false
abbrev pub false_in_closed_label : Sample
false_in_closed_label =
    sample (safety bot) (accepted unrealizable 2) 2 constants (0 ∷ []) (node_entry 0 0 0 1 ∷ node_entry 0 1 1 1 ∷ [])
    (move 0 0 0 0 (node 1) ∷ move 0 0 0 0 end ∷ [])

-- closed: the depth is that of the deepest target
abbrev pub end_and_node_as_targets : Sample
end_and_node_as_targets =
    sample (safety bot) (accepted unrealizable 2) 2 constants [] (node_entry 0 0 0 2 ∷ node_entry 0 0 2 1 ∷ [])
    (move 0 0 1 0 end ∷ move 0 0 1 1 (node 1) ∷ move 0 0 0 0 end ∷ [])

-- nodes may share label entries and moves, and a label may have an entry twice
abbrev pub shared_entries : Sample
shared_entries =
    sample (safety s) (accepted realizable 0) 1 (false_entry ∷ true_entry ∷ var_entry 16 ∷ []) (2 ∷ 2 ∷ [])
    (node_entry 0 2 0 1 ∷ node_entry 0 1 0 1 ∷ []) (move 0 0 1 1 (node 1) ∷ [])

-- open: an input that is not permitted may fit no move
abbrev pub input_not_permitted_without_move : Sample
input_not_permitted_without_move =
    sample (only p top) (accepted realizable 0) 1 constants [] (node_entry 0 0 0 1 ∷ []) (move 1 1 0 0 (node 0) ∷ [])

-- closed: a permitted input is served
abbrev pub permitted_input_served : Sample
permitted_input_served = sample (only p bot) (accepted unrealizable 1) 2 constants [] (node_entry 0 0 0 1 ∷ []) (move 1 1 0 0 end ∷ [])

-- the body of an X is not met: the rest of G[0,1] s is not listed
abbrev pub body_of_next_not_met : Sample
body_of_next_not_met =
    sample (safety (conj (next 1 (always 0 1 s)) (conj s (lit false 16)))) (accepted unrealizable 1) 2
    (false_entry ∷ true_entry ∷ var_entry 16 ∷ not_entry 16 ∷ and_entry 2 3 ∷ always_entry 0 1 2 ∷ next_entry 1 5 ∷ and_entry 6 4 ∷ []) []
    (node_entry 0 0 0 2 ∷ []) (move 0 0 1 0 end ∷ move 0 0 1 1 end ∷ [])

-- nor that of a G that begins later
abbrev pub body_of_later_always_not_met : Sample
body_of_later_always_not_met =
    sample (safety (conj (always 1 2 (always 0 1 s)) (conj s (lit false 16)))) (accepted unrealizable 1) 2
    (false_entry ∷ true_entry ∷ var_entry 16 ∷ not_entry 16 ∷ and_entry 2 3 ∷ always_entry 0 1 2 ∷ always_entry 1 2 5 ∷ and_entry 6 4 ∷
    always_entry 0 1 5 ∷ []) [] (node_entry 0 0 0 2 ∷ []) (move 0 0 1 0 end ∷ move 0 0 1 1 end ∷ [])

-- nor that of an F that begins later
abbrev pub body_of_later_eventually_not_met : Sample
body_of_later_eventually_not_met =
    sample (safety (conj (eventually 1 2 (always 0 1 s)) (conj s (lit false 16)))) (accepted unrealizable 1) 2
    (false_entry ∷ true_entry ∷ var_entry 16 ∷ not_entry 16 ∷ and_entry 2 3 ∷ always_entry 0 1 2 ∷ eventually_entry 1 2 5 ∷ and_entry 6 4 ∷
    eventually_entry 0 1 5 ∷ []) [] (node_entry 0 0 0 2 ∷ []) (move 0 0 1 0 end ∷ move 0 0 1 1 end ∷ [])

-- the largest bounds
abbrev pub largest_bounds : Sample
largest_bounds =
    sample (safety bot) (accepted unrealizable 1) 2
    (false_entry ∷ true_entry ∷ var_entry 16 ∷ next_entry 4095 2 ∷ always_entry 0 4095 2 ∷ eventually_entry 4095 4095 2 ∷ []) []
    (node_entry 0 0 0 1 ∷ []) (move 0 0 0 0 end ∷ [])

-- all of them
abbrev pub unusual_cards : List Sample
unusual_cards =
    false_in_closed_label ∷ end_and_node_as_targets ∷ shared_entries ∷ input_not_permitted_without_move ∷
    permitted_input_served ∷ body_of_next_not_met ∷ body_of_later_always_not_met ∷ body_of_later_eventually_not_met ∷
    largest_bounds ∷ []

abbrev pub UnusualCardsAsListed : Type 0
UnusualCardsAsListed = AsListed unusual_cards
