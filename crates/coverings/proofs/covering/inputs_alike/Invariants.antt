use Rattle.std.proofs.Common.{◌≡◌}
use Rattle.tableau.specs.Lists.{all}
use Rattle.tableau.specs.Conditions.{same_input}
use Rattle.records.specs.Raw.{move_of}
use Rattle.coverings.specs.Coverings.{moves_from}
use Rattle.coverings.proofs.Rows.{moves_after}
use Rattle.coverings.proofs.covering.inputs_alike.Given as goal

-- what is left gives the answer
abbrev pub invariant-loop-k : goal.invariant-loop-k
invariant-loop-k g l =
    let c = g.S.CardSource.card l.source in
    all (same_input (move_of l.first)) (moves_after c l.node l.k) ≡ all (same_input (move_of l.first)) (moves_from c l.node)
