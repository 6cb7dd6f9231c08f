use Rattle.std.proofs.Common.{ℕ, ◌<◌, length, set, ◌+◌, Some, None, ◌∙◌, subst, sym, arith}
use Rattle.std.proofs.lemmas.List.{length-set, length_push}
use Rattle.std.proofs.lemmas.Iterator.Consumers.{YieldsList-turn, YieldsList-end}
use Rattle.records.proofs.Turns.{turn, length-numbered, first_numbered}
use Rattle.located.specs.Numbers.{NumberedOrNot, NumberedBelow}
use Rattle.located.proofs.Numbering.{numbered_at, numbered_more}
use Rattle.located.proofs.numbers_of.Goals as goal

pub returns-in_err-numbers : goal.returns-in_err-numbers
returns-in_err-numbers c rs ready o few =
    let es = c.args.entries.now in
    let k = length c.loop-i.yielded in
    let t = turn es 256 k c.in-Some.i c.in-Some.entry.now
    (YieldsList-turn (first_numbered es 256 (cc) (cc) (cc))
    c.loop-i.yielded _ c.loop-i.yielded_by _ _ _ c.in-Some.is c.next.ensures.steps) in
    let lacks = numbered_at es c.args.slots.now c.loop-i.numbers k c.in-Some.entry.now c.renumbered.result c.into.result None
    t.1 t.3 c.renumbered.ensures c.into.ensures c.in_err-numbers.ensures rs ready o (c.loop-i.invariant.0 rs ready o) in
    subst (NumberedOrNot es rs) (sym c.from_residual.ensures) (k, t.1, lacks)

pub loop-i-preserved : goal.loop-i-preserved
loop-i-preserved c =
    let es = c.args.entries.now in
    let k = length c.loop-i.yielded in
    let i = c.in-Some.i in
    let numbers = c.loop-i.numbers in
    let n = c.in_ok-numbers.field-0 in
    let t = turn es 256 k i c.in-Some.entry.now
    (YieldsList-turn (first_numbered es 256 (cc) (cc) (cc))
    c.loop-i.yielded _ c.loop-i.yielded_by _ _ _ c.in-Some.is c.next.ensures.steps) in
    let l : k < length numbers = omega (arith, c.loop-i.invariant.1, t.0) in
    let more = length_push c.loop-i.yielded (i, c.in-Some.entry) in (
      λ rs ready o.
          let below = c.loop-i.invariant.0 rs ready o in
          let at = numbered_at es c.args.slots.now numbers k c.in-Some.entry.now c.renumbered.result c.into.result (Some n)
          t.1 t.3 c.renumbered.ensures c.into.ensures c.in_ok-numbers.ensures rs ready o below in
          let next = numbered_more es rs numbers k n l below at in
          subst (λ (j : ℕ). NumberedBelow j es rs (set numbers i n)) (sym more)
          (subst (λ (j : ℕ). NumberedBelow (k + 1) es rs (set numbers j n)) (sym t.2) next),
      length-set numbers i n ∙ c.loop-i.invariant.1,
    )

pub returns : goal.returns
returns c rs ready o few k h =
    let es = c.args.entries.now in
    let e = YieldsList-end (first_numbered es 256 (cc) (cc) (cc))
    c.loop-i.yielded _ c.loop-i.yielded_by _ _ c.in-None.is c.next.ensures.steps in
    c.loop-i.invariant.0 rs ready o k (omega (arith, h, few, e.1, length-numbered es 256))
