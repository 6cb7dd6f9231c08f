-- Eight worked cards.
use Rattle.std.specs.Prelude.{◌≡◌, ℕ, List, [], ◌∷◌, map, Some, codes}
use Rattle.tableau.specs.Judge.{realizable, unrealizable}
use Rattle.records.specs.declared.FormulaRecord.{FormulaRecord}
use Rattle.records.specs.Raw.{RawCard}
use Rattle.worked_cards.specs.Outcome.{Case, marked, accepts, refuses, always_true, open', closed', ff, tt', is, is_not, and, or, X, G, s, p, at, move, the_end}

-- what cannot be kept at all: one turn ends it
abbrev pub nothing_keeps_false : Case
nothing_keeps_false = accepts (always_true (codes "False")) (closed' (ff ∷ tt' ∷ []) [] (at 0 0 0 1 ∷ []) (move 0 0 0 0 the_end ∷ [])) unrealizable 1

-- the reply copies the input
abbrev pub copying_the_input : Case
copying_the_input =
    accepts (always_true (codes "s <-> p_e"))
    (open' (ff ∷ tt' ∷ is s ∷ is_not s ∷ is p ∷ is_not p ∷ and 2 4 ∷ and 3 5 ∷ or 6 7 ∷ []) []
    (at 0 0 0 2 ∷ []) (move 1 0 1 0 0 ∷ move 1 1 1 1 0 ∷ []))
    realizable 0

-- no reply foresees the next input: after s the environment does not give p_e, after -s it does
abbrev foreseeing : List FormulaRecord
foreseeing = ff ∷ tt' ∷ is s ∷ is_not s ∷ is p ∷ is_not p ∷ X 1 4 ∷ X 1 5 ∷ and 2 6 ∷ and 3 7 ∷ or 8 9 ∷ []

abbrev foreseeing_card : List FormulaRecord → RawCard
foreseeing_card fs =
    closed' fs (4 ∷ 5 ∷ []) (at 0 0 0 2 ∷ at 0 1 2 1 ∷ at 1 1 3 1 ∷ [])
    (move 0 0 1 1 1 ∷ move 0 0 1 0 2 ∷ move 1 0 0 0 the_end ∷ move 1 1 0 0 the_end ∷ [])

abbrev pub nobody_foresees_the_input : Case
nobody_foresees_the_input =
    accepts (always_true (codes "s <-> X p_e"))
    (foreseeing_card (ff ∷ tt' ∷ is s ∷ is_not s ∷ is p ∷ is_not p ∷ X 1 4 ∷ X 1 5 ∷ and 2 6 ∷ and 3 7 ∷ or 8 9 ∷ or 4 5 ∷ []))
    unrealizable 2

-- the same without p_e | -p_e, which a free s leaves as the rest
abbrev pub a_rest_is_not_listed : Case
a_rest_is_not_listed = refuses (always_true (codes "s <-> X p_e")) (foreseeing_card foreseeing) 11 3 2

-- the reply of the next step copies the input of the next step
abbrev copying_later : List FormulaRecord
copying_later =
    ff ∷ tt' ∷ is s ∷ is_not s ∷ is p ∷ is_not p ∷ X 1 2 ∷ X 1 4 ∷ X 1 3 ∷ X 1 5 ∷ and 6 7 ∷ and 8 9 ∷ or 10 11 ∷ and 2 4 ∷ and 3 5 ∷ or 13 14 ∷ []

abbrev copying_later_card : ℕ → RawCard
copying_later_card label =
    open' copying_later (label ∷ []) (at 0 0 0 1 ∷ at 0 1 1 2 ∷ []) (move 0 0 0 0 1 ∷ move 1 1 1 1 1 ∷ move 1 0 1 0 1 ∷ [])

abbrev pub copying_the_next_input : Case
copying_the_next_input = accepts (always_true (codes "X s <-> X p_e")) (copying_later_card 15) realizable 0

-- the same with s & p_e alone: the label would know the next input
abbrev pub a_split_reveals_a_later_input : Case
a_split_reveals_a_later_input = refuses (always_true (codes "X s <-> X p_e")) (copying_later_card 13) 16 3 2

-- an input that has to be answered for a hundred steps
abbrev holding : ℕ → RawCard
holding label =
    open' (ff ∷ tt' ∷ is s ∷ is_not p ∷ G 0 99 2 ∷ or 3 4 ∷ G 0 98 2 ∷ G 0 97 2 ∷ []) (label ∷ [])
    (at 0 0 0 2 ∷ at 0 1 2 1 ∷ []) (move 1 0 0 0 0 ∷ move 1 1 1 1 1 ∷ move 0 0 1 1 1 ∷ [])

abbrev pub holding_for_a_hundred_steps : Case
holding_for_a_hundred_steps = accepts (always_true (codes "p_e -> G[0,99] s")) (holding 6) realizable 0

-- the same, but the label lets go a step too soon
abbrev pub holding_one_step_too_short : Case
holding_one_step_too_short = refuses (always_true (codes "p_e -> G[0,99] s")) (holding 7) 16 3 1

abbrev pub worked : List Case
worked =
    nothing_keeps_false ∷ copying_the_input ∷ nobody_foresees_the_input ∷ a_rest_is_not_listed ∷ copying_the_next_input
    ∷ a_split_reveals_a_later_input ∷ holding_for_a_hundred_steps ∷ holding_one_step_too_short ∷ []

-- every card of the list is marked as the list says
abbrev pub MarkedAsListed : List Case → Type 0
MarkedAsListed cs = map (λ c. marked c.text c.card) cs ≡ map (λ c. Some c.outcome) cs
