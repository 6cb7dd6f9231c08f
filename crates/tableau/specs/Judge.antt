-- The judge: the first fault, or the verdict and the depth.
use Rattle.std.specs.Prelude.{ℕ, zero, suc, max, Bool, cond, List, [], ◌∷◌, length, Ok, Err, Result}
use Rattle.temporal.specs.Game.{Spec}
use Rattle.tableau.specs.Moves.{Target, end, node, Move}
use Rattle.tableau.specs.Card.{Card, CardKind, opened, closed, kind_of, moves_of}
use Rattle.tableau.specs.Conditions.{Condition, kept, Fault, fault, before_root, at_root, at_nodes}

pub data Verdict : Type 0 where
  realizable : Verdict
  unrealizable : Verdict

abbrev pub verdict_of : CardKind → Verdict
verdict_of opened = realizable
verdict_of closed = unrealizable

-- ── depth ──
-- the depth of a target, by the depths of the nodes; the end counts 0
abbrev pub target_depth : (ℕ → ℕ) → Target → ℕ
target_depth d end = 0
target_depth d (node k) = d k

abbrev pub deepest : (ℕ → ℕ) → List Move → ℕ
deepest d [] = 0
deepest d (m ∷ ms) = max (target_depth d m.target) (deepest d ms)

-- the depth of node n, where moves gives the moves of each node: 1 plus the largest of its targets.
-- Targets lie above the node's own number, so as many rounds as there are nodes suffice
abbrev pub depth_in : ℕ → (ℕ → List Move) → ℕ → ℕ
depth_in zero moves n = 0
depth_in (suc rounds) moves n = suc (deepest (depth_in rounds moves) (moves n))

abbrev pub depth_at : Card → ℕ → ℕ
depth_at c n = depth_in (length c.nodes) (moves_of c) n

-- the depth of a closed card is that of node 0; an open card is given 0
abbrev pub depth_of : CardKind → Card → ℕ
depth_of opened c = 0
depth_of closed c = depth_at c 0

-- ── the first fault ──
-- the fault of the first member that fails the test
abbrev pub checked : {A E : Type 0} → (A → Bool) → (A → E) → List A → Result (Unit {0}) E
checked ok fault [] = Ok tt
checked ok fault (x ∷ xs) = let r = checked ok fault xs in cond (ok x) r (Err (fault x))

-- what follows, unless the first refuses
abbrev pub after : {A B E : Type 0} → Result A E → (A → Result B E) → Result B E
after (Ok x) next = next x
after (Err e) next = Err e

abbrev pub judged_by : Spec → Card → List Condition → Result (Unit {0}) Fault
judged_by spec c xs = checked (kept spec c) fault xs

abbrev pub judge : Spec → Card → Result (Verdict × ℕ) Fault
judge spec c =
    after (judged_by spec c (before_root c)) (λ _.
    after (judged_by spec c at_root) (λ _.
    after (judged_by spec c (at_nodes c)) (λ _.
    Ok (verdict_of (kind_of c), depth_of (kind_of c) c))))
