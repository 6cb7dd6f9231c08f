-- The loop over the moves of a node: what was found and what is left give the deepest target.
use Rattle.std.proofs.Common.{◌≡◌, ℕ, zero, suc, ◌+◌, ◌-◌, ◌<◌, ◌≤◌, max, length, None, sym, refl, ap, ◌∙◌, arith}
use Rattle.std.specs.List.{slice_get}
use Rattle.std.proofs.lemmas.List.{get_or_past}
use Rattle.tableau.specs.Moves.{Move, no_move}
use Rattle.tableau.specs.Card.{Card, move_at}
use Rattle.tableau.specs.Judge.{target_depth}
use Rattle.records.specs.Raw.{RawCard, model}
use Rattle.card.proofs.Walk.{length_none}
use Rattle.card.proofs.Model.{model_moves}
use Rattle.depth.specs.Deepest.{deepest_from}

-- ── the list of moves ──
from_next : (c : Card) (d : ℕ → ℕ) (left next i after : ℕ) → left ≡ suc next → after ≡ suc i
    → deepest_from c d left i ≡ max (target_depth d (move_at c i).target) (deepest_from c d next after)
from_next c d left next i after p q =
    ap (λ (x : ℕ). deepest_from c d x i) p ∙ ap (λ (x : ℕ). max (target_depth d (move_at c i).target) (deepest_from c d next x)) (sym q)

-- one move more
pub targets_more : (c : Card) (d : ℕ → ℕ) (count first k found t more all : ℕ) → k < count
    → t ≡ target_depth d (move_at c (first + k)).target → more ≡ max found t
    → max found (deepest_from c d (count - k) (first + k)) ≡ all
    → max more (deepest_from c d (count - (k + 1)) (first + (k + 1))) ≡ all
targets_more c d count first k found t more all l e large inv =
    let n = from_next c d (count - k) (count - (k + 1)) (first + k) (first + (k + 1)) (omega arith) (omega arith) in
    omega arith

-- the list has no more moves: those that are left lead to the end
past : (c : RawCard) (d : ℕ → ℕ) (left i : ℕ) → length c.moves ≤ i → deepest_from (model c) d left i ≡ 0
past c d zero i h = refl
past c d (suc left) i h =
    let m : move_at (model c) i ≡ no_move = get_or_past (model c).moves i no_move (omega (arith, model_moves c)) in
    let u : target_depth d (move_at (model c) i).target ≡ 0 = ap (λ (x : Move). target_depth d x.target) m in
    let r = past c d left (suc i) (omega arith) in
    omega arith

pub targets_past : (c : RawCard) (d : ℕ → ℕ) (left i found all : ℕ) → None ≡ slice_get c.moves i
    → max found (deepest_from (model c) d left i) ≡ all → found ≡ all
targets_past c d left i found all e inv =
    let p = past c d left i (length_none c.moves i e) in
    omega arith
