use Rattle.std.proofs.Common.{length, Some, sym, ◌∙◌, subst}
use Rattle.steps.specs.Sets.{TakesRests}
use Rattle.card.specs.Named.{target_named}
use Rattle.marking.proofs.Places.{handed, refused, none_refused, some_passed, none_lent, some_lent, rests_judged, rests_refused, step_refused, step_passed}
use Rattle.marking.proofs.node_by_node.judge_move.Goals as goal

pub returns-in_err-rests : goal.returns-in_err-rests
returns-in_err-rests g c spec n p =
    let s = g.S.CardSource.card c.args.source.now in
    let rs = c.args.terms.now.records.now in
    let slots = c.args.terms.now.slots.now in
    let ms = c.args.marks.now in
    let i = c.args.number in
    let m = c.move_of-taken.result in
    let e = c.in_err-rests.field-0.0 in
    let sifted = c.rests_of-rests.result in
    let refusal = none_refused c.as_ref.result c.ok_or.result c.refused-unlisted.result e c.ok_or.ensures.value c.in_err-rests.was in
    let none = none_lent c.as_ref.result sifted c.as_ref.ensures.value refusal.0 in
    let h = rests_judged spec s c.args.terms.now.kind rs slots ms n p i m c.move_of-taken.ensures c.rests_of-rests.ensures.0 c.rests_of-rests.ensures.1
    sifted c.rests_of-rests.ensures.2 in
    handed e c.from_residual.result c.from_residual.ensures.1
    ∙ refused e _ (refusal.1 ∙ c.refused-unlisted.ensures)
    ∙ sym (rests_refused spec s c.args.terms.now.kind rs slots ms n p i m c.move_of-taken.ensures sifted none h)

pub returns-then-not-step_kept : goal.returns-then-not-step_kept
returns-then-not-step_kept g c spec n p =
    let s = g.S.CardSource.card c.args.source.now in
    let rs = c.args.terms.now.records.now in
    let slots = c.args.terms.now.slots.now in
    let ms = c.args.marks.now in
    let i = c.args.number in
    let m = c.move_of-taken.result in
    let out = c.in_ok-rests.rests.now in
    let some = some_passed c.as_ref.result c.ok_or.result c.refused-unlisted.result c.in_ok-rests.rests c.ok_or.ensures.value c.in_ok-rests.was in
    let h = rests_judged spec s c.args.terms.now.kind rs slots ms n p i m c.move_of-taken.ensures c.rests_of-rests.ensures.0 c.rests_of-rests.ensures.1
    (Some out)
    (subst (TakesRests (length rs) c.rests_of-rests.ensures.0 ms)
    (some_lent c.as_ref.result c.rests_of-rests.result c.in_ok-rests.rests c.as_ref.ensures.value some)
    c.rests_of-rests.ensures.2) in
    refused c.refused.result _ c.refused.ensures
    ∙ sym (step_refused spec s c.args.terms.now.kind rs slots ms n p i m c.move_of-taken.ensures out h (target_named c.target_of.result) c.target_of.ensures
    c.step_kept.result c.step_kept.ensures c.if-not-step_kept.true)

pub returns : goal.returns
returns g c spec n p =
    let s = g.S.CardSource.card c.args.source.now in
    let rs = c.args.terms.now.records.now in
    let slots = c.args.terms.now.slots.now in
    let ms = c.args.marks.now in
    let i = c.args.number in
    let m = c.move_of-taken.result in
    let out = c.in_ok-rests.rests.now in
    let some = some_passed c.as_ref.result c.ok_or.result c.refused-unlisted.result c.in_ok-rests.rests c.ok_or.ensures.value c.in_ok-rests.was in
    let h = rests_judged spec s c.args.terms.now.kind rs slots ms n p i m c.move_of-taken.ensures c.rests_of-rests.ensures.0 c.rests_of-rests.ensures.1
    (Some out)
    (subst (TakesRests (length rs) c.rests_of-rests.ensures.0 ms)
    (some_lent c.as_ref.result c.rests_of-rests.result c.in_ok-rests.rests c.as_ref.ensures.value some)
    c.rests_of-rests.ensures.2) in
    sym (step_passed spec s c.args.terms.now.kind rs slots ms n p i m c.move_of-taken.ensures out h (target_named c.target_of.result) c.target_of.ensures
    c.step_kept.result c.step_kept.ensures c.if-not-step_kept.false)
