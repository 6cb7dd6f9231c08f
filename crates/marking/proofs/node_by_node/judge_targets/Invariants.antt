use Rattle.std.proofs.Common.{◌≡◌, map, length}
use Rattle.temporal.specs.Game.{Spec}
use Rattle.tableau.specs.Lists.{span}
use Rattle.tableau.specs.Card.{kind_of}
use Rattle.tableau.specs.Conditions.{kept, fault, target_kept}
use Rattle.tableau.specs.Judge.{judged_by}
use Rattle.records.specs.Raw.{model}
use Rattle.card.specs.Named.{kind_named}
use Rattle.judged.proofs.Walks.{walked}
use Rattle.marking.proofs.node_by_node.judge_targets.Given as goal

-- what is left to judge gives the answer
abbrev pub invariant-loop-k : goal.invariant-loop-k
invariant-loop-k g l =
    let c = g.S.CardSource.card l.source in
    (spec : Spec) → l.nodes ≡ length c.nodes → kind_named l.kind ≡ kind_of (model c)
    → walked (kept spec (model c)) fault (target_kept l.n) l.k-end l.first l.k
    ≡ judged_by spec (model c) (map (target_kept l.n) (span l.k-end l.first))
