-- A closed card that is acceptable and within its limits is one of which the depth can be taken.
use Rattle.std.proofs.Common.{ℕ, length, subst, arith}
use Rattle.temporal.specs.Game.{Spec}
use Rattle.tableau.specs.Card.{CardKind, closed, move_at}
use Rattle.tableau.specs.Acceptable.{WithinLimits, AcceptableClosed, TargetKept}
use Rattle.records.specs.Raw.{RawCard, model}
use Rattle.card.proofs.Model.{model_nodes}
use Rattle.depth.specs.Descending.{Descending}

pub acceptable_descends : (spec : Spec) (c : RawCard) → WithinLimits (model c) → AcceptableClosed spec (model c) → Descending c
acceptable_descends spec c limits ok = record {
  few = omega (arith, model_nodes c, limits.nodes);
  targets = λ n m l o.
      let kept = (ok.0.nodes n (omega (arith, model_nodes c))).targets m o in
      let kind = subst (λ (k : CardKind). TargetKept k (length (model c).nodes) n (move_at (model c) m).target) ok.1 kept in
      subst (λ (x : ℕ). TargetKept closed x n (move_at (model c) m).target) (model_nodes c) kind;
}
