-- The pass from the last node to the first: what the array of depths holds.
use Rattle.std.proofs.Common.{◌≡◌, ℕ, ◌+◌, ◌-◌, ◌^◌, ◌<◌, ◌≤◌, min, List, length, set, sym, ap, ◌∙◌, subst, inl, inr, eq-or-lt_of_le, arith, get_or-set_other, get_or-set_same}
use Rattle.tableau.specs.Card.{Node, closed, node_at, move_at, moves_of}
use Rattle.tableau.specs.Judge.{deepest, depth_at}
use Rattle.tableau.specs.Acceptable.{MoveOf, TargetKept}
use Rattle.records.specs.declared.NodeRecord.{NodeRecord}
use Rattle.records.specs.Raw.{RawCard, node_of, model}
use Rattle.card.proofs.Model.{model_nodes}
use Rattle.depth.specs.Descending.{Descending}
use Rattle.depth.specs.Deepest.{held_depth, deepest_from}
use Rattle.depth.proofs.Rounds.{same_above, depth_step, deepest_most, depth_most}

-- the array holds the depths of the nodes from n on, and 0 for node 0 where there is none
pub record Passed (c : RawCard) (depths : List ℕ) (n : ℕ) : Type 0 where
  pub held : (k : ℕ) → n ≤ k → k < length c.nodes → held_depth depths k ≡ depth_at (model c) k
  pub none : length c.nodes ≡ 0 → held_depth depths 0 ≡ 0

module _ (c : RawCard) (ok : Descending c) where
  targets : (n m : ℕ) → n < length (model c).nodes → MoveOf (model c) n m
      → TargetKept closed (length (model c).nodes) n (move_at (model c) m).target
  targets n m l o =
      subst (λ (x : ℕ). TargetKept closed x n (move_at (model c) m).target) (sym (model_nodes c))
      (ok.targets n m (omega (arith, model_nodes c)) o)

  -- the deepest target of a node, from the depths above it
  pub node_depth : (depths : List ℕ) (n r : ℕ) (x : NodeRecord) → node_of x ≡ node_at (model c) n → n < length c.nodes
      → Passed c depths (n + 1) → r ≡ deepest_from (model c) (held_depth depths) x.move_count x.first_move
      → min (r + 1) (2 ^ 16 - 1) ≡ depth_at (model c) n
  node_depth depths n r x e l p d =
      let N = length (model c).nodes in
      let few : N ≤ 1024 = omega (arith, model_nodes c, ok.few) in
      let l' : n < N = omega (arith, model_nodes c) in
      let same = same_above (model c) N targets (held_depth depths) (depth_at (model c)) n l'
      (λ k a b. p.held k (omega arith) (omega (arith, model_nodes c))) in
      let at : deepest_from (model c) (held_depth depths) x.move_count x.first_move ≡ deepest (held_depth depths) (moves_of (model c) n) =
      ap (λ (y : Node). deepest_from (model c) (held_depth depths) y.move_count y.first_move) e in
      let step = depth_step (model c) n targets l' in
      let most = deepest_most (depth_at (model c)) N (depth_most N (moves_of (model c))) (moves_of (model c) n) in
      omega arith

  pub passed_more : (depths : List ℕ) (n v : ℕ) → n < length depths → Passed c depths (n + 1) → n < length c.nodes
      → v ≡ depth_at (model c) n → Passed c (set depths n v) n
  passed_more depths n v room p l e = record {
    held = λ k a b.
        elim (eq-or-lt_of_le a) [
          | inl z ↦ subst (λ (x : ℕ). held_depth (set depths n v) x ≡ depth_at (model c) x) z (get_or-set_same depths n v 0 room ∙ e)
          | inr h ↦ get_or-set_other depths n k v 0 (omega arith) ∙ p.held k (omega arith) b
        ];
    none = λ z. absurd (omega arith);
  }
