-- A record that the index has already is not new; any other is entered, and the slots then index one record more.
use Rattle.std.proofs.Common.{◌<◌, ◌≤◌, List, map, length, take, sym, refl, subst, arith}
use Rattle.std.proofs.lemmas.List.{take_all}
use Rattle.tableau.specs.Conditions.{new_formula}
use Rattle.index.specs.Keyed.{Indexed}
use Rattle.records.specs.declared.FormulaRecord.{FormulaRecord}
use Rattle.rested.specs.Listing.{key_of, key_code}
use Rattle.formed.specs.Conditions.{equal_at}
use Rattle.formed.proofs.Rows.{left_pass, left_fail, left_end}
use Rattle.formed.proofs.Entered.{new_missing, old_found, entered_more}
use Rattle.formed.proofs.equal.index_formulas.Goals as goal

pub loop-i-preserved : goal.loop-i-preserved
loop-i-preserved c = λ few room.
    let rs = c.args.records.now in
    let i = c.loop-i.i in
    let slots = c.loop-i.slots in
    let l : i < length rs = omega arith in
    let wide : 2048 ≤ length slots = omega (arith, c.insert.ensures.len) in
    let inv = c.loop-i.invariant few wide in
    let found = c.find.ensures.model (map key_of (take i rs)) inv.1 in (
      λ spec card e. left_pass new_formula (length rs) spec card i (inv.0 spec card e) l
          (new_missing rs i l spec card e c.find.result found (sym c.if-is_some.ensures)),
      entered_more rs i l slots c.insert.new.slots c.insert.result (omega arith) wide inv.1 c.insert.ensures.model,
    )

pub returns-then-is_some : goal.returns-then-is_some
returns-then-is_some c = record {
  judged = λ few room spec card e.
      let rs = c.args.records.now in
      let i = c.loop-i.i in
      let l : i < length rs = omega arith in
      let inv = c.loop-i.invariant few (omega (arith, c.loop-i.auto.slots)) in
      let found = c.find.ensures.model (map key_of (take i rs)) inv.1 in
      left_fail new_formula (length rs) spec card i (inv.0 spec card e) l
      (old_found rs i l spec card e c.find.result found (sym c.if-is_some.ensures))
      c.equal_formula.result (equal_at i) c.equal_formula.ensures refl;
  indexed = λ few room. tt;
}

pub returns-after-loop-i : goal.returns-after-loop-i
returns-after-loop-i c = record {
  judged = λ few room spec card e.
      let inv = c.loop-i.invariant few (omega (arith, c.loop-i.auto.slots)) in
      left_end new_formula (length c.args.records.now) spec card c.loop-i.i (inv.0 spec card e) (omega arith);
  indexed = λ few room.
      let rs = c.args.records.now in
      let inv = c.loop-i.invariant few (omega (arith, c.loop-i.auto.slots)) in
      subst (λ (xs : List FormulaRecord). Indexed key_code c.loop-i.slots (map key_of xs)) (take_all c.loop-i.i rs (omega arith)) inv.1;
}
