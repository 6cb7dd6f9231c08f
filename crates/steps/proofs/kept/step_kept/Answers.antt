use Rattle.std.proofs.Common.{sym, ◌∙◌}
use Rattle.tableau.specs.Conditions.{keeps_step}
use Rattle.records.specs.Raw.{model}
use Rattle.card.specs.Named.{kind_named, target_named}
use Rattle.steps.proofs.kept.step_kept.Goals as goal

pub returns-in-Open-Node : goal.returns-in-Open-Node
returns-in-Open-Node g c spec S known e listed members =
    let card = model (g.S.CardSource.card c.args.source.now) in
    c.label_covers.ensures spec S known e listed members
    ∙ (λ j. keeps_step (kind_named (sym c.in-Open-Node.is-0 j)) card S (target_named (sym c.in-Open-Node.is-1 j)))

pub returns-in-Closed-End : goal.returns-in-Closed-End
returns-in-Closed-End g c spec S known e listed members =
    let raw = g.S.CardSource.card c.args.source.now in
    c.holds_false.ensures raw spec S known e listed members
    ∙ (λ j. keeps_step (kind_named (sym c.in-Closed-End.is-0 j)) (model raw) S (target_named (sym c.in-Closed-End.is-1 j)))

pub returns-in-Closed-Node : goal.returns-in-Closed-Node
returns-in-Closed-Node g c spec S known e listed members =
    let card = model (g.S.CardSource.card c.args.source.now) in
    c.covers_label.ensures spec S known e listed members
    ∙ (λ j. keeps_step (kind_named (sym c.in-Closed-Node.is-0 j)) card S (target_named (sym c.in-Closed-Node.is-1 j)))
