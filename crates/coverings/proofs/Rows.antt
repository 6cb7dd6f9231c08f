-- The moves of a node from the k-th on.
use Rattle.std.proofs.Common.{◌≡◌, ℕ, ◌+◌, ◌-◌, ◌<◌, ◌≤◌, Bool, true, ◌&&◌, List, [], ◌∷◌, map, sym, ap, ◌∙◌}
use Rattle.tableau.specs.Lists.{span, all}
use Rattle.tableau.specs.Moves.{Move}
use Rattle.tableau.specs.Card.{move_at}
use Rattle.judged.proofs.Walks.{span_at, span_start, span_end}
use Rattle.records.specs.declared.NodeRecord.{NodeRecord}
use Rattle.records.specs.Raw.{RawCard, model}
use Rattle.coverings.specs.Coverings.{moves_from}

module _ (c : RawCard) (x : NodeRecord) where
  abbrev pub moves_after : ℕ → List Move
  moves_after k = map (move_at (model c)) (span (x.move_count - k) (x.first_move + k))

  pub after_start : moves_after 0 ≡ moves_from c x
  after_start = ap (map (move_at (model c))) (span_start x.move_count x.first_move)

  pub after_next : (k : ℕ) → k < x.move_count → moves_after k ≡ move_at (model c) (x.first_move + k) ∷ moves_after (k + 1)
  after_next k l = ap (map (move_at (model c))) (span_at x.move_count x.first_move k l)

  pub after_end : (k : ℕ) → x.move_count ≤ k → moves_after k ≡ []
  after_end k l = ap (map (move_at (model c))) (span_end x.move_count x.first_move k l)

  -- ── a test of all moves, of which m is the k-th ──
  module _ (p : Move → Bool) (k : ℕ) where
    module _ (more : k < x.move_count) (m : Move) (is : m ≡ move_at (model c) (x.first_move + k)) where
      next : all p (moves_after k) ≡ (p m && all p (moves_after (k + 1)))
      next = ap (all p) (after_next k more) ∙ ap (λ n. p n && all p (moves_after (k + 1))) (sym is)

      pub all_pass : p m ≡ true → all p (moves_after (k + 1)) ≡ all p (moves_after k)
      all_pass e = sym (next ∙ ap (λ b. b && all p (moves_after (k + 1))) e)
