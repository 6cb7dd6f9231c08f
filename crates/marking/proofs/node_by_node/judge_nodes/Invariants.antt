use Rattle.std.proofs.Common.{◌≡◌, length, drop}
use Rattle.temporal.specs.Game.{Spec}
use Rattle.tableau.specs.Conditions.{kept, fault, at_node, at_nodes}
use Rattle.tableau.specs.Judge.{judged_by}
use Rattle.records.specs.Raw.{model}
use Rattle.judged.proofs.Walks.{grouped}
use Rattle.marking.specs.Nodes.{Known}
use Rattle.marking.proofs.node_by_node.judge_nodes.Given as goal

-- so many nodes were taken; what is left to judge gives the answer
abbrev pub invariant-loop-n : goal.invariant-loop-n
invariant-loop-n g l =
    let c = g.S.CardSource.card l.source in
    let it = l.n-iterator in
    (goal.iterator-loop-n g).can_next it
    × (goal.iterator-loop-n g).is_finite it
    × (drop it.iter.next (g.S.CardSource.card it.iter.source.now).nodes ≡ drop it.count c.nodes)
    × ((spec : Spec) → Known spec c l.terms
    → grouped (kept spec (model c)) fault (at_node (model c)) (length (model c).nodes) 0 it.count ≡ judged_by spec (model c) (at_nodes (model c)))
