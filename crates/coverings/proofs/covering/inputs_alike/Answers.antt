use Rattle.std.proofs.Common.{sym, ◌∙◌}
use Rattle.tableau.specs.Conditions.{same_input}
use Rattle.records.specs.Raw.{move_of}
use Rattle.coverings.proofs.Rows.{all_pass}
use Rattle.coverings.proofs.covering.inputs_alike.Goals as goal

pub loop-k-preserved : goal.loop-k-preserved
loop-k-preserved g c =
    let card = g.S.CardSource.card c.args.source.now in
    all_pass card c.args.node (same_input (move_of c.move_of-first.result)) c.loop-k.k c.loop-k-test.true
    (move_of c.move_of-x.result) c.move_of-x.ensures (sym c.same_input.ensures ∙ c.if-not-same_input.false)
    ∙ c.loop-k.invariant
