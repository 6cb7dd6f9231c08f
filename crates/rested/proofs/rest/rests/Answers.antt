use Rattle.std.proofs.Common.{◌≡◌, ℕ, ◌<◌, length, get_or, None, Option, sym, ap, ◌∙◌, arith}
use Rattle.std.proofs.lemmas.List.{length-set, length-replicate, length_push, get_or-map}
use Rattle.std.proofs.lemmas.Iterator.Consumers.{YieldsList-turn}
use Rattle.tableau.specs.Card.{no_entry}
use Rattle.records.specs.Raw.{entry_of}
use Rattle.records.specs.Table.{entry_at, formulas_of, formula_of}
use Rattle.records.proofs.Turns.{turn, first_numbered}
use Rattle.rested.specs.Rests.{Rested}
use Rattle.rested.proofs.Memo.{all_none, filled_more, empty_more}
use Rattle.rested.proofs.rest.rests.Goals as goal

pub loop-i-init : goal.loop-i-init
loop-i-init g c = (λ ready k h. absurd (omega arith), λ k h. all_none 1024 k, length-replicate {A = Option ℕ} 1024 None)

pub loop-i-preserved : goal.loop-i-preserved
loop-i-preserved g c =
    let rs = c.args.records.now in
    let i = c.in-Some.i in
    let f = c.in-Some.record.now in
    let memo = c.loop-i.memo in
    let v = c.rest_of.result in
    let P : ℕ → Option ℕ → Type 0 = λ k o. Rested (g.R.Reading.literals c.args.reading.now) (formulas_of rs) (formula_of rs k) o in
    let t = turn rs 1024 (length c.loop-i.yielded) i f
    (YieldsList-turn (first_numbered rs 1024 (cc) (cc) (cc))
    c.loop-i.yielded _ c.loop-i.yielded_by _ _ _ c.in-Some.is c.next.ensures.steps) in
    let more = length_push c.loop-i.yielded (i, c.in-Some.record) in
    let l : i < length memo = omega (arith, c.loop-i.invariant.2, t.0, t.2) in
    let h : i < length rs = omega (arith, t.1, t.2) in
    let is : entry_at rs i ≡ entry_of f =
    get_or-map entry_of rs i f no_entry h ∙ ap entry_of (ap (λ (k : ℕ). get_or rs k f) t.2 ∙ sym t.3) in (
      λ ready k m.
          let below = λ (k : ℕ) (m : k < i). c.loop-i.invariant.0 ready k (omega (arith, t.2)) in
          filled_more P memo i v l below (c.rest_of.ensures rs i ready h is below) k (omega (arith, m, more, t.2)),
      λ k m. empty_more memo i v (λ k m. c.loop-i.invariant.1 k (omega (arith, t.2))) k (omega (arith, m, more, t.2)),
      length-set memo i v ∙ c.loop-i.invariant.2,
    )
