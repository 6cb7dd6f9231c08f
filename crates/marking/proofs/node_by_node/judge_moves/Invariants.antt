use Rattle.std.proofs.Common.{◌≡◌, ℕ}
use Rattle.temporal.specs.Game.{Spec}
use Rattle.tableau.specs.Lists.{span, concat_map}
use Rattle.tableau.specs.Conditions.{kept, fault, at_move}
use Rattle.tableau.specs.Judge.{judged_by}
use Rattle.records.specs.Raw.{model}
use Rattle.judged.proofs.Walks.{grouped}
use Rattle.marking.specs.Nodes.{Prepared}
use Rattle.marking.proofs.node_by_node.judge_moves.Given as goal

-- what is left to judge gives the answer
abbrev pub invariant-loop-k : goal.invariant-loop-k
invariant-loop-k g l =
    let c = g.S.CardSource.card l.source in
    (spec : Spec) (n : ℕ) → Prepared spec c l.terms.kind l.terms.records.now l.terms.slots.now l.marks n
    → grouped (kept spec (model c)) fault (at_move n) l.k-end l.first l.k
    ≡ judged_by spec (model c) (concat_map (at_move n) (span l.k-end l.first))
