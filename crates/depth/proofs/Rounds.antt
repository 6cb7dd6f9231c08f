-- Where targets lie above their nodes, the depth of a node is 1 plus the largest of its targets, and no depth passes the count.
use Rattle.std.proofs.Common.{◌≡◌, ℕ, zero, suc, ◌+◌, ◌<◌, ◌≤◌, max, List, [], ◌∷◌, length, sym, refl, ap, arith}
use Rattle.tableau.specs.Moves.{Target, end, node, Move}
use Rattle.tableau.specs.Card.{Card, closed, node_at, move_at, moves_of}
use Rattle.tableau.specs.Judge.{target_depth, deepest, depth_in, depth_at}
use Rattle.tableau.specs.Acceptable.{MoveOf, TargetKept}
use Rattle.depth.specs.Deepest.{deepest_from}

-- ── depths that agree, and bounds ──
pub same_deepest : (c : Card) (f g : ℕ → ℕ) (count i : ℕ)
    → ((m : ℕ) → i ≤ m → m < i + count → target_depth f (move_at c m).target ≡ target_depth g (move_at c m).target)
    → deepest_from c f count i ≡ deepest_from c g count i
same_deepest c f g zero i h = refl
same_deepest c f g (suc count) i h =
    λ j. max (h i (omega arith) (omega arith) j) (same_deepest c f g count (suc i) (λ m a b. h m (omega arith) (omega arith)) j)

target_most : (d : ℕ → ℕ) (most : ℕ) → ((k : ℕ) → d k ≤ most) → (t : Target) → target_depth d t ≤ most
target_most d most h end = omega arith
target_most d most h (node k) = h k

pub deepest_most : (d : ℕ → ℕ) (most : ℕ) → ((k : ℕ) → d k ≤ most) → (ms : List Move) → deepest d ms ≤ most
deepest_most d most h [] = omega arith
deepest_most d most h (m ∷ ms) = omega (arith, target_most d most h m.target, deepest_most d most h ms)

pub depth_most : (rounds : ℕ) (moves : ℕ → List Move) (n : ℕ) → depth_in rounds moves n ≤ rounds
depth_most zero moves n = omega arith
depth_most (suc rounds) moves n = omega (arith, deepest_most (depth_in rounds moves) rounds (depth_most rounds moves) (moves n))

-- ── as many rounds as there are nodes suffice ──
same_target : (f g : ℕ → ℕ) (count n : ℕ) (t : Target) → TargetKept closed count n t
    → ((k : ℕ) → n < k → k < count → f k ≡ g k) → target_depth f t ≡ target_depth g t
same_target f g count n end s h = refl
same_target f g count n (node k) s h = h k s.0 s.1

module _ (c : Card) (count : ℕ)
    (targets : (n m : ℕ) → n < count → MoveOf c n m → TargetKept closed count n (move_at c m).target) where
  -- depths that agree above a node give it the same deepest target
  pub same_above : (f g : ℕ → ℕ) (n : ℕ) → n < count → ((k : ℕ) → n < k → k < count → f k ≡ g k)
      → deepest f (moves_of c n) ≡ deepest g (moves_of c n)
  same_above f g n l h =
      same_deepest c f g (node_at c n).move_count (node_at c n).first_move
      (λ m a b. same_target f g count n (move_at c m).target (targets n m l (a, b)) h)

  pub rounds_enough : (b n : ℕ) → n < count → count ≤ n + b → depth_in (suc b) (moves_of c) n ≡ depth_in b (moves_of c) n
  rounds_enough zero n l h = absurd (omega arith)
  rounds_enough (suc b) n l h =
      ap suc (same_above (depth_in (suc b) (moves_of c)) (depth_in b (moves_of c)) n l (λ k a z. rounds_enough b k z (omega arith)))

-- the depth of a node by those of the nodes above it
pub depth_step : (c : Card) (n : ℕ)
    → ((n m : ℕ) → n < length c.nodes → MoveOf c n m → TargetKept closed (length c.nodes) n (move_at c m).target)
    → n < length c.nodes → depth_at c n ≡ suc (deepest (depth_at c) (moves_of c n))
depth_step c n targets l = sym (rounds_enough c (length c.nodes) targets (length c.nodes) n l (omega arith))
