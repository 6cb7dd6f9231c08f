use Rattle.std.proofs.Common.{◌≡◌, ◌≤◌, List, map, length, take, Some, Ok, subst, sym, ap, ◌∙◌, arith, take_all}
use Rattle.std.proofs.lemmas.Result.{MatchResult-from_err}
use Rattle.temporal.specs.Game.{Spec}
use Rattle.tableau.specs.Judge.{judged_by}
use Rattle.records.specs.declared.FormulaRecord.{FormulaRecord}
use Rattle.records.specs.Raw.{RawCard, model, entry_of}
use Rattle.rules.specs.Laws.{game_of}
use Rattle.rules.specs.Shown.{view}
use Rattle.rested.specs.Listing.{Ready}
use Rattle.located.specs.Located.{Located}
use Rattle.formed.specs.Conditions.{count_conditions, form_conditions}
use Rattle.formed.specs.Copied.{records_of}
use Rattle.judged.specs.Judged.{fault_of}
use Rattle.marking.proofs.Places.{handed, refused, none_refused, some_passed}
use Rattle.marking.proofs.Facts.{few_formulas, counts_fail, forms_fail, news_fail, unlisted, all_listed, known, ready_for, news_as}
use Rattle.marking.proofs.listing.list_formulas.Goals as goal

pub returns-in_err-counts_right : goal.returns-in_err-counts_right
returns-in_err-counts_right g c =
    let s = g.S.CardSource.card c.args.source.now in
    let spec = game_of (view c.args.specification.now) in
    let e = c.in_err-counts_right.field-0.0 in
    let r = c.from_residual.result in
    record {
      judged = λ l. handed e r c.from_residual.ensures.1 ∙ sym (counts_fail spec s (fault_of e) (sym (c.in_err-counts_right.ensures spec)));
      listed = λ l. MatchResult-from_err r _ _ c.from_residual.ensures.0 (λ y. tt);
    }

pub returns-in_err-entries_formed : goal.returns-in_err-entries_formed
returns-in_err-entries_formed g c =
    let s = g.S.CardSource.card c.args.source.now in
    let spec = game_of (view c.args.specification.now) in
    let e = c.in_err-entries_formed.field-0.0 in
    let r = c.from_residual-in_err-entries_formed.result in
    let counted = sym (c.in_ok-counts_right.ensures spec) in
    record {
      judged = λ l. handed e r c.from_residual-in_err-entries_formed.ensures.1
          ∙ sym (forms_fail spec s counted (fault_of e)
          (sym (c.in_err-entries_formed.ensures spec (sym c.environment_count.ensures, sym c.system_count.ensures))));
      listed = λ l. MatchResult-from_err r _ _ c.from_residual-in_err-entries_formed.ensures.0 (λ y. tt);
    }

-- once all entries are of good form, the slice is the card's list
slice_is : (spec : Spec) (s : RawCard) → judged_by spec (model s) count_conditions ≡ Ok tt → judged_by spec (model s) (form_conditions (model s)) ≡ Ok tt
    → (slice rs : List FormulaRecord) → slice ≡ rs → rs ≡ take 1024 s.formulas → slice ≡ s.formulas
slice_is spec s counted formed slice rs e q = e ∙ q ∙ take_all 1024 s.formulas (few_formulas spec s counted formed)

pub returns-in_err-index_formulas : goal.returns-in_err-index_formulas
returns-in_err-index_formulas g c =
    let s = g.S.CardSource.card c.args.source.now in
    let spec = game_of (view c.args.specification.now) in
    let e = c.in_err-index_formulas.field-0.0 in
    let r = c.from_residual-in_err-index_formulas.result in
    let counted = sym (c.in_ok-counts_right.ensures spec) in
    let formed = sym (c.in_ok-entries_formed.ensures spec (sym c.environment_count.ensures, sym c.system_count.ensures)) in
    let slice = c.as_slice.result.now in
    let q = slice_is spec s counted formed slice (records_of c.formulas_of-records.result) c.as_slice.ensures c.formulas_of-records.ensures in
    let few : length slice ≤ 1024 = omega (arith, ap length q, few_formulas spec s counted formed) in
    record {
      judged = λ l. handed e r c.from_residual-in_err-index_formulas.ensures.1
          ∙ sym (news_fail spec s counted formed (fault_of e)
          (sym (news_as spec s slice q) ∙ sym (c.in_err-index_formulas.ensures.judged few l spec (model s) (ap (map entry_of) (sym q)))));
      listed = λ l. MatchResult-from_err r _ _ c.from_residual-in_err-index_formulas.ensures.0 (λ y. tt);
    }

pub returns-in_err-places : goal.returns-in_err-places
returns-in_err-places g c =
    let s = g.S.CardSource.card c.args.source.now in
    let spec = game_of (view c.args.specification.now) in
    let counted = sym (c.in_ok-counts_right.ensures spec) in
    let formed = sym (c.in_ok-entries_formed.ensures spec (sym c.environment_count.ensures, sym c.system_count.ensures)) in
    let slice = c.as_slice.result.now in
    let q = slice_is spec s counted formed slice (records_of c.formulas_of-records.result) c.as_slice.ensures c.formulas_of-records.ensures in
    let few : length slice ≤ 1024 = omega (arith, ap length q, few_formulas spec s counted formed) in
    let e = c.in_err-places.field-0.0 in
    let r = c.from_residual-in_err-places.result in
    let none = none_refused c.spec_places.result c.ok_or.result c.refused-unlisted.result e c.ok_or.ensures.value c.in_err-places.was in
    record {
      judged = λ l.
          let new = sym (news_as spec s slice q) ∙ sym (c.in_ok-index_formulas.ensures.judged few l spec (model s) (ap (map entry_of) (sym q))) in
          let ready = ready_for spec s counted formed new slice c.index_formulas.new.slots q (c.in_ok-index_formulas.ensures.indexed few l) in
          handed e r c.from_residual-in_err-places.ensures.1 ∙ refused e _ (none.1 ∙ c.refused-unlisted.ensures)
          ∙ sym (unlisted spec s counted formed new c.spec_places.result none.0 (c.spec_places.ensures s.formulas ready));
      listed = λ l. MatchResult-from_err r _ _ c.from_residual-in_err-places.ensures.0 (λ y. tt);
    }

pub returns : goal.returns
returns g c =
    let s = g.S.CardSource.card c.args.source.now in
    let spec = game_of (view c.args.specification.now) in
    let counted = sym (c.in_ok-counts_right.ensures spec) in
    let formed = sym (c.in_ok-entries_formed.ensures spec (sym c.environment_count.ensures, sym c.system_count.ensures)) in
    let slice = c.as_slice.result.now in
    let q = slice_is spec s counted formed slice (records_of c.formulas_of-records.result) c.as_slice.ensures c.formulas_of-records.ensures in
    let few : length slice ≤ 1024 = omega (arith, ap length q, few_formulas spec s counted formed) in
    let p = c.in_ok-places.places in
    let some = some_passed c.spec_places.result c.ok_or.result c.refused-unlisted.result p c.ok_or.ensures.value c.in_ok-places.was in
    let here : Ready s.formulas c.index_formulas.new.slots → Located spec s.formulas (Some p) =
    λ ready. subst (Located spec s.formulas) some (c.spec_places.ensures s.formulas ready) in
    record {
      judged = λ l.
          let new = sym (news_as spec s slice q) ∙ sym (c.in_ok-index_formulas.ensures.judged few l spec (model s) (ap (map entry_of) (sym q))) in
          let ready = ready_for spec s counted formed new slice c.index_formulas.new.slots q (c.in_ok-index_formulas.ensures.indexed few l) in
          sym (all_listed spec s counted formed new p (here ready));
      listed = λ l.
          let new = sym (news_as spec s slice q) ∙ sym (c.in_ok-index_formulas.ensures.judged few l spec (model s) (ap (map entry_of) (sym q))) in
          let ready = ready_for spec s counted formed new slice c.index_formulas.new.slots q (c.in_ok-index_formulas.ensures.indexed few l) in
          known spec s counted formed new c.formulas_of-records.result p c.index_formulas.new.slots
          (sym c.as_slice.ensures ∙ q) ready (here ready);
    }
