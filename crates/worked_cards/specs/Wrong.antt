-- Wrong cards: every refusal of a card, the order of the conditions where two fail, and what has to be listed.
use Rattle.std.specs.Prelude.{ℕ, List, [], ◌∷◌, codes}
use Rattle.records.specs.declared.FormulaRecord.{FormulaRecord}
use Rattle.records.specs.declared.NodeRecord.{NodeRecord}
use Rattle.records.specs.declared.MoveRecord.{MoveRecord}
use Rattle.records.specs.Raw.{RawCard}
use Rattle.worked_cards.specs.Outcome.{Case, refuses, always_true, rules, open', closed', ff, tt', is, is_not, and, or, X, G, F, s, p, at, move, the_end}

-- ── cards for `False` ──
abbrev false_text : List ℕ
false_text = always_true (codes "False")

abbrev end_move : List MoveRecord
end_move = move 0 0 0 0 the_end ∷ []

abbrev constants : List FormulaRecord
constants = ff ∷ tt' ∷ []

abbrev one_node : List NodeRecord
one_node = at 0 0 0 1 ∷ []

abbrev of_kind_3 : RawCard
of_kind_3 = record { kind = 3; formulas = constants; labels = []; nodes = one_node; moves = end_move }

abbrev pub wrong_false : List Case
wrong_false =
    refuses false_text (closed' (ff ∷ []) [] one_node end_move) 8 4 1
    ∷ refuses false_text (closed' constants [] [] end_move) 8 4 5
    ∷ refuses false_text (closed' constants [] one_node []) 8 4 7
    ∷ refuses false_text of_kind_3 8 4 8
    -- an empty card
    ∷ refuses false_text (closed' [] [] [] []) 8 4 1
    -- entry 0 is not false
    ∷ refuses false_text (closed' (tt' ∷ ff ∷ []) [] one_node end_move) 9 0 0
    -- a label entry that is no formula; a node past the lists; a node without moves; a mask past the variables
    ∷ refuses false_text (closed' constants (2 ∷ []) one_node end_move) 9 1 0
    ∷ refuses false_text (closed' constants [] (at 0 65535 0 1 ∷ []) end_move) 9 2 0
    ∷ refuses false_text (closed' constants [] (at 1 0 0 1 ∷ []) end_move) 9 2 0
    ∷ refuses false_text (closed' constants [] (at 0 0 0 0 ∷ []) end_move) 9 2 0
    ∷ refuses false_text (closed' constants [] one_node (move 1 0 0 0 the_end ∷ [])) 9 3 0
    -- false twice
    ∷ refuses false_text (closed' (ff ∷ tt' ∷ ff ∷ []) [] one_node end_move) 10 0 2
    -- a closed target may not go back, nor stay
    ∷ refuses false_text (closed' constants [] one_node (move 0 0 0 0 0 ∷ [])) 15 3 0
    ∷ []

-- ── cards for `s <-> p_e` ──
abbrev copy_text : List ℕ
copy_text = always_true (codes "s <-> p_e")

abbrev copy : List FormulaRecord
copy = ff ∷ tt' ∷ is s ∷ is_not s ∷ is p ∷ is_not p ∷ and 2 4 ∷ and 3 5 ∷ or 6 7 ∷ []

abbrev two_moves : List NodeRecord
two_moves = at 0 0 0 2 ∷ []

abbrev copying : List MoveRecord
copying = move 1 0 1 0 0 ∷ move 1 1 1 1 0 ∷ []

abbrev pub wrong_copy : List Case
wrong_copy =
    -- bounds out of order; a part that is a constant; a value outside its mask
    refuses copy_text (open' (ff ∷ tt' ∷ is s ∷ is_not s ∷ is p ∷ is_not p ∷ and 2 4 ∷ and 3 5 ∷ or 6 7 ∷ G 3 2 2 ∷ []) [] two_moves copying) 9 0 9
    ∷ refuses copy_text (open' (ff ∷ tt' ∷ is s ∷ is_not s ∷ is p ∷ is_not p ∷ and 2 4 ∷ and 3 5 ∷ or 6 7 ∷ X 1 1 ∷ []) [] two_moves copying) 9 0 9
    ∷ refuses copy_text (open' copy [] two_moves (move 1 0 1 0 0 ∷ move 1 1 0 1 0 ∷ [])) 9 3 1
    -- the safety formula is not listed
    ∷ refuses copy_text (open' (ff ∷ tt' ∷ is s ∷ is_not s ∷ is p ∷ is_not p ∷ and 2 4 ∷ and 3 5 ∷ []) [] two_moves copying) 11 0 0
    -- the root does not cover the initial formula
    ∷ refuses (rules (codes "s") (codes "s <-> p_e")) (open' copy [] two_moves copying) 12 2 0
    -- false in an open label
    ∷ refuses copy_text (open' copy (0 ∷ []) (at 0 1 0 2 ∷ []) copying) 13 1 0
    -- an input without a move, and one with two
    ∷ refuses copy_text (open' copy [] one_node copying) 14 2 0
    ∷ refuses copy_text (open' copy [] two_moves (move 1 0 1 0 0 ∷ move 1 0 1 0 0 ∷ [])) 14 2 0
    -- an open card has no end, and no target past its nodes
    ∷ refuses copy_text (open' copy [] two_moves (move 1 0 1 0 0 ∷ move 1 1 1 1 the_end ∷ [])) 15 3 1
    ∷ refuses copy_text (open' copy [] two_moves (move 1 0 1 0 0 ∷ move 1 1 1 1 1 ∷ [])) 15 3 1
    -- a reply that does not copy, and one that is left free
    ∷ refuses copy_text (open' copy [] two_moves (move 1 0 1 0 0 ∷ move 1 1 1 0 0 ∷ [])) 16 3 1
    ∷ refuses copy_text (open' copy [] two_moves (move 1 0 1 0 0 ∷ move 1 1 0 0 0 ∷ [])) 16 3 1
    ∷ []

-- ── the order: two conditions fail, and the first in the order is named ──
abbrev pub wrong_twice : List Case
wrong_twice =
    -- 8 before 9, 9 of a later list before 10, 10 before 11
    refuses false_text (record { kind = 3; formulas = tt' ∷ ff ∷ []; labels = []; nodes = one_node; moves = end_move }) 8 4 8
    ∷ refuses copy_text (open' (ff ∷ tt' ∷ is s ∷ is s ∷ []) [] (at 0 0 0 3 ∷ []) copying) 9 2 0
    ∷ refuses copy_text (open' (ff ∷ tt' ∷ is s ∷ is s ∷ []) [] two_moves copying) 10 0 3
    -- 11 of the specification before 12, 12 before 13
    ∷ refuses (rules (codes "s") (codes "s <-> p_e")) (open' (ff ∷ tt' ∷ is s ∷ is_not s ∷ is p ∷ is_not p ∷ []) [] two_moves copying) 11 0 0
    ∷ refuses (rules (codes "s") (codes "s <-> p_e")) (open' copy (0 ∷ []) (at 0 0 0 2 ∷ at 0 1 0 2 ∷ []) copying) 12 2 0
    -- 13 before 14, 14 before 15, 15 of any move before 16 of another
    ∷ refuses copy_text (open' copy (0 ∷ []) (at 0 1 0 1 ∷ []) copying) 13 1 0
    ∷ refuses copy_text (open' copy [] one_node (move 1 0 1 0 7 ∷ [])) 14 2 0
    ∷ refuses copy_text (open' copy [] two_moves (move 1 0 1 1 0 ∷ move 1 1 1 1 7 ∷ [])) 15 3 1
    ∷ []

-- ── what has to be listed ──
abbrev stays : List MoveRecord
stays = move 0 0 1 1 0 ∷ []

abbrev pub wrong_lists : List Case
wrong_lists =
    -- the shorter G beside a false rest, the shorter F beside a true one, the other part's rest beside a true one
    refuses (always_true (codes "-s | G[0,1] s")) (open' (ff ∷ tt' ∷ is_not s ∷ is s ∷ G 0 1 3 ∷ or 2 4 ∷ []) [] one_node (move 0 0 1 0 0 ∷ [])) 11 3 0
    ∷ refuses (always_true (codes "s | F[0,1] s")) (open' (ff ∷ tt' ∷ is s ∷ F 0 1 2 ∷ or 2 3 ∷ []) [] one_node stays) 11 3 0
    ∷ refuses (always_true (codes "s | X[2] s")) (open' (ff ∷ tt' ∷ is s ∷ X 2 2 ∷ or 2 3 ∷ []) [] one_node stays) 11 3 0
    -- F[0,5] does not cover F[0,3]
    ∷ refuses (always_true (codes "F[0,4] -s")) (open' (ff ∷ tt' ∷ is_not s ∷ F 0 4 2 ∷ F 0 5 2 ∷ F 0 3 2 ∷ []) (4 ∷ []) (at 0 1 0 1 ∷ []) stays) 16 3 0
    -- 11 before 16 at a move; 16 at a node before 11 at the next
    ∷ refuses (always_true (codes "X[2] s")) (open' (ff ∷ tt' ∷ is s ∷ X 2 2 ∷ []) [] one_node (move 0 0 0 0 0 ∷ [])) 11 3 0
    ∷ refuses (always_true (codes "s <-> X p_e"))
    (closed' (ff ∷ tt' ∷ is s ∷ is_not s ∷ is p ∷ is_not p ∷ X 1 4 ∷ X 1 5 ∷ and 2 6 ∷ and 3 7 ∷ or 8 9 ∷ []) (5 ∷ 5 ∷ [])
    (at 0 0 0 2 ∷ at 0 1 2 1 ∷ at 1 1 3 1 ∷ [])
    (move 0 0 1 1 1 ∷ move 0 0 1 0 2 ∷ move 1 0 0 0 the_end ∷ move 1 1 0 0 the_end ∷ [])) 16 3 0
    ∷ []
