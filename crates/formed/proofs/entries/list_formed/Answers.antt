-- The loop stops at the first entry of bad form, and what is left of the conditions gives the answer.
use Rattle.std.proofs.Common.{ℕ, ◌+◌, length, drop, inl, sym, ap, ◌∙◌, subst, arith}
use Rattle.records.specs.Raw.{model}
use Rattle.card.proofs.Walk.{left_some, left_length, left_none}
use Rattle.formed.specs.Conditions.{unformed_at}
use Rattle.formed.proofs.Rows.{Left, left_pass, left_fail, left_end}
use Rattle.formed.proofs.entries.list_formed.Goals as goal

pub returns-then-not-is_formed : goal.returns-then-not-is_formed
returns-then-not-is_formed g c = λ spec h.
    let card = g.S.CardSource.card c.args.source.now in
    let xs = g.E.Entry.listed card in
    let i = c.loop-i.i-iterator.count in
    let x = c.in-Some.ensures.steps in
    let at = left_some xs _ i c.in-Some.entry (sym c.loop-i.invariant.2 ∙ x.0) in
    left_fail g.E.Formed.condition (length xs) spec (model card) i (c.loop-i.invariant.3 spec h) at.1
    (g.met.E.Formed.tested spec card c.args.sizes h i c.in-Some.entry at.0
    ∙ ap (λ (k : ℕ). g.E.Formed.formed c.args.sizes k c.in-Some.entry) (sym x.1) ∙ sym c.if-not-is_formed.ensures)
    c.unformed.result (unformed_at g.E.Formed.list i)
    (c.unformed.ensures ∙ (λ j. unformed_at (c.list.ensures j) (x.1 j))) (g.met.E.Formed.refused i)

pub loop-i-preserved : goal.loop-i-preserved
loop-i-preserved g c =
    let card = g.S.CardSource.card c.args.source.now in
    let xs = g.E.Entry.listed card in
    let i = c.loop-i.i-iterator.count in
    let x = c.in-Some.ensures.steps in
    let at = left_some xs _ i c.in-Some.entry (sym c.loop-i.invariant.2 ∙ x.0) in
    let few = left_length xs _ (i + 1) at.2 (omega (arith, at.1)) in (
      (tt, tt, inl (omega (arith, few, x.2, c.all_entries.ensures.few))),
      tt,
      at.2 ∙ ap (λ (k : ℕ). drop k xs) (sym x.2),
      λ spec h.
          subst (λ (k : ℕ). Left g.E.Formed.condition (length xs) k spec (model card)) (sym x.2)
          (left_pass g.E.Formed.condition (length xs) spec (model card) i (c.loop-i.invariant.3 spec h) at.1
          (g.met.E.Formed.tested spec card c.args.sizes h i c.in-Some.entry at.0
          ∙ ap (λ (k : ℕ). g.E.Formed.formed c.args.sizes k c.in-Some.entry) (sym x.1) ∙ sym c.if-not-is_formed.ensures)),
    )

pub returns : goal.returns
returns g c = λ spec h.
    let card = g.S.CardSource.card c.args.source.now in
    let xs = g.E.Entry.listed card in
    let i = c.loop-i.i-iterator.count in
    left_end g.E.Formed.condition (length xs) spec (model card) i (c.loop-i.invariant.3 spec h)
    (left_none xs i (sym c.loop-i.invariant.2 ∙ c.in-None.ensures.steps.0.0))
