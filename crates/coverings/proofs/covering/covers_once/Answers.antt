use Rattle.std.proofs.Common.{◌≡◌, ℕ, ◌+◌, sym, ap, ◌∙◌, subst}
use Rattle.temporal.proofs.Truth.{both_ways}
use Rattle.tableau.specs.Card.{move_at}
use Rattle.tableau.proofs.Tests.{refuted}
use Rattle.records.specs.Raw.{model}
use Rattle.coverings.specs.declared.cube.Cube.{Cube}
use Rattle.coverings.specs.Cubes.{Formed, cube_of}
use Rattle.coverings.specs.Bitmap.{Apart, Joined}
use Rattle.coverings.specs.Coverings.{moves_from, once}
use Rattle.coverings.proofs.Counts.{AllFormed, Counted, counted_more, counted_stops, full_once, once_full, all_formed, once_tells}
use Rattle.coverings.proofs.covering.covers_once.Goals as goal

pub returns-then-not-mark : goal.returns-then-not-mark
returns-then-not-mark g c = λ cubes.
    let card = g.S.CardSource.card c.args.source.now in
    let high = c.loop-k.marks.high in
    let formed = all_formed c.args.side card c.args.node c.args.variables high c.loop-k.invariant.0 cubes in
    let e : c.cube_of.result ≡ cube_of c.args.side (move_at (model card) (c.args.node.first_move + c.loop-k.k)) =
    c.cube_of.ensures ∙ ap (cube_of c.args.side) c.move_of-x.ensures in
    let stops = subst (λ (q : Cube). Formed (6 + high) q → Apart high q c.loop-k.marks.words → ⊥) e c.if-not-mark.ensures.marks in
    sym (refuted (once c.args.side c.args.variables (moves_from card c.args.node))
    (once_tells c.args.side card c.args.node c.args.variables high c.loop-k.invariant.0 cubes)
    (counted_stops c.args.side card c.args.node high formed c.loop-k.marks.words c.loop-k.k c.loop-k-test.true
    (c.loop-k.invariant.1 formed) (stops (formed (c.args.node.first_move + c.loop-k.k)))))

pub loop-k-preserved : goal.loop-k-preserved
loop-k-preserved g c = (
  c.if-not-mark.ensures.high ∙ c.loop-k.invariant.0,
  λ later.
      let card = g.S.CardSource.card c.args.source.now in
      let high = c.loop-k.marks.high in
      let same = c.if-not-mark.ensures.high in
      let formed = subst (λ (n : ℕ). AllFormed c.args.side card c.args.node n) same later in
      let e : c.cube_of.result ≡ cube_of c.args.side (move_at (model card) (c.args.node.first_move + c.loop-k.k)) =
      c.cube_of.ensures ∙ ap (cube_of c.args.side) c.move_of-x.ensures in
      let marks = subst (λ (q : Cube). Formed (6 + high) q
      → Apart high q c.loop-k.marks.words × Joined high q c.loop-k.marks.words c.mark.new.self.words)
      e c.if-not-mark.ensures.marks (formed (c.args.node.first_move + c.loop-k.k)) in
      subst (λ (n : ℕ). Counted c.args.side card c.args.node n c.mark.new.self.words (c.loop-k.k + 1)) (sym same)
      (counted_more c.args.side card c.args.node high formed c.loop-k.marks.words c.loop-k.k c.loop-k-test.true
      (c.loop-k.invariant.1 formed) c.mark.new.self.words marks.0 marks.1),
)

pub returns : goal.returns
returns g c = λ cubes.
    let card = g.S.CardSource.card c.args.source.now in
    let high = c.loop-k.marks.high in
    let formed = all_formed c.args.side card c.args.node c.args.variables high c.loop-k.invariant.0 cubes in
    let tells = once_tells c.args.side card c.args.node c.args.variables high c.loop-k.invariant.0 cubes in
    both_ways c.is_full.result (once c.args.side c.args.variables (moves_from card c.args.node))
    (λ e. tells.1 (full_once c.args.side card c.args.node high c.loop-k.marks.words c.loop-k.k c.loop-k-test.false
    (c.loop-k.invariant.1 formed) (c.is_full.ensures.0 e)))
    (λ e. c.is_full.ensures.1 (once_full c.args.side card c.args.node high c.loop-k.marks.words c.loop-k.k
    c.loop-k-test.false (c.loop-k.invariant.1 formed) (tells.0 e)))
