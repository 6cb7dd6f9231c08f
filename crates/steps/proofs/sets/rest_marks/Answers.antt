use Rattle.std.proofs.Common.{◌≡◌, ℕ, ◌+◌, Bool, false, List, length, sym, ◌∙◌, subst, arith}
use Rattle.std.proofs.lemmas.List.{length-replicate}
use Rattle.covered.proofs.Spread.{mark_length}
use Rattle.steps.specs.Sets.{RestsOf}
use Rattle.steps.proofs.Labels.{none_marked}
use Rattle.steps.proofs.Sifts.{Sifted, sifted_none, sifted_skip, sifted_more, rest_missing, rests_of}
use Rattle.steps.proofs.sets.rest_marks.Goals as goal
use Rattle.steps.proofs.sets.rest_marks.Goals.{then-is_marked+in_ok-rest, else-is_marked}

pub loop-i-init : goal.loop-i-init
loop-i-init c = (sifted_none c.args.memo.now c.args.marks.now _ (none_marked 1024), length-replicate {A = Bool} 1024 false)

pub returns-in_err-rest : goal.returns-in_err-rest
returns-in_err-rest c spec rs R S n t listed members rested =
    subst (RestsOf rs R S) (sym c.from_residual.ensures)
    (rest_missing spec rs t S listed c.args.marks.now members R c.args.memo.now rested c.loop-i.i
    (omega (arith, c.min-i-end.ensures)) (sym c.is_marked.ensures ∙ c.if-is_marked.true) c.in_err-rest.was)

pub loop-i-preserved : goal.loop-i-preserved
loop-i-preserved c =
    let i = c.loop-i.i in
    let memo = c.args.memo.now in
    let ms = c.args.marks.now in
    let P : List Bool → Type 0 = λ out. Sifted memo ms (i + 1) out × (length out ≡ 1024) in
    elim c.if-is_marked.branch [
      | then-is_marked+in_ok-rest w ↦
          subst P (sym (w.rests-is ∙ w.set_mark.ensures)) (
            sifted_more memo ms i c.loop-i.rests c.loop-i.invariant.0 w.in_ok-rest.rest
                (sym c.is_marked.ensures ∙ w.if-is_marked.true) w.in_ok-rest.was,
            mark_length c.loop-i.rests w.in_ok-rest.rest ∙ c.loop-i.invariant.1,
          )
      | else-is_marked w ↦
          subst P (sym w.rests-is) (
            sifted_skip memo ms i c.loop-i.rests c.loop-i.invariant.0 (sym c.is_marked.ensures ∙ w.if-is_marked.false),
            c.loop-i.invariant.1,
          )
    ]

pub returns : goal.returns
returns c spec rs R S n t listed members rested =
    let e : c.loop-i.i ≡ length rs = omega (arith, t.few, c.min-i-end.ensures) in
    rests_of spec rs t S listed c.args.marks.now members R c.args.memo.now rested c.loop-i.rests
    (omega (arith, t.few, c.loop-i.invariant.1))
    (subst (λ (i : ℕ). Sifted c.args.memo.now c.args.marks.now i c.loop-i.rests) e c.loop-i.invariant.0)
