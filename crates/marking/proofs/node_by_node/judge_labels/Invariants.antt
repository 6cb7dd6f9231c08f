use Rattle.std.proofs.Common.{◌≡◌, map}
use Rattle.temporal.specs.Game.{Spec}
use Rattle.tableau.specs.Lists.{span}
use Rattle.tableau.specs.Card.{kind_of}
use Rattle.tableau.specs.Conditions.{kept, fault, label_kept}
use Rattle.tableau.specs.Judge.{judged_by}
use Rattle.records.specs.Raw.{model}
use Rattle.card.specs.Named.{kind_named}
use Rattle.steps.specs.Sets.{Labelled}
use Rattle.judged.proofs.Walks.{walked}
use Rattle.marking.proofs.node_by_node.judge_labels.Given as goal

-- what is left to judge gives the answer
abbrev pub invariant-loop-k : goal.invariant-loop-k
invariant-loop-k g l =
    let c = g.S.CardSource.card l.source in
    (spec : Spec) → Labelled spec c → kind_named l.kind ≡ kind_of (model c)
    → walked (kept spec (model c)) fault label_kept l.k-end l.first l.k ≡ judged_by spec (model c) (map label_kept (span l.k-end l.first))
