use Rattle.std.proofs.Common.{◌≡◌, ◌&&◌, get_or, sym, ◌∙◌}
use Rattle.covered.specs.Marks.{is_range, range_if}
use Rattle.covered.proofs.Passes.{no_record, ranges_turn, took, passed}
use Rattle.covered.proofs.cover.cover_ranges.Goals as goal
use Rattle.covered.proofs.cover.cover_ranges.Goals.{then-is_marked+then-is_range, else-is_marked, else-is_marked-via-then-is_marked+else-is_range, else-is_marked-via-else-is_marked}

pub loop-i-preserved : goal.loop-i-preserved
loop-i-preserved c =
    let rs = c.args.records.now in
    let f = get_or rs c.loop-i.i no_record in
    let marked = sym c.is_marked.ensures in
    let turned : c.if-is_marked.covered ≡ range_if rs c.args.held.now c.loop-i.i f c.loop-i.covered =
    elim c.if-is_marked.branch [
      | then-is_marked+then-is_range w ↦
          took _ _ _ _ (λ j. (marked ∙ w.if-is_marked.true) j && (sym w.is_range.ensures ∙ w.if-is_range.true) j)
          (w.covered-is ∙ w.cover_range.ensures)
      | else-is_marked w ↦ elim w.else-is_marked.branch [
        | else-is_marked-via-then-is_marked+else-is_range u ↦
            passed _ _ _ _ (λ j. (marked ∙ u.if-is_marked.true) j && (sym u.is_range.ensures ∙ u.if-is_range.false) j) w.covered-is
        | else-is_marked-via-else-is_marked u ↦
            passed _ _ _ _ (λ j. (marked ∙ u.if-is_marked.false) j && is_range f) w.covered-is
      ]
    ] in
    let e = ranges_turn rs c.loop-i.i no_record c.loop-i-test.true rs c.args.held.now c.loop-i.covered in
    cc
