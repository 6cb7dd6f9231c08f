use Rattle.std.proofs.Common.{◌≡◌, Bool, List, sym, ap, ◌∙◌, subst, arith}
use Rattle.covered.specs.Marks.{marked, joined_from, covered_marks}
use Rattle.covered.specs.Meaning.{Covers}
use Rattle.covered.proofs.Covering.{marks_covered}
use Rattle.covered.proofs.cover.covered.Goals as goal

value : (c : goal.After-cover_wholes) → c.cover_wholes.new.covered ≡ covered_marks c.args.records.now c.args.held.now
value c =
    let rs = c.args.records.now in
    c.cover_wholes.ensures
    ∙ ap (λ (b : Bool). joined_from b rs 0 c.cover_ranges.new.covered) c.is_marked.ensures
    ∙ ap (joined_from (marked c.args.held.now 0) rs 0) c.cover_ranges.ensures

pub returns : goal.returns
returns c = record {
  value = value c;
  law = λ spec t S listed members.
      subst (λ (xs : List Bool). Covers c.args.records.now S xs) (sym (value c))
      (marks_covered spec c.args.records.now t S listed c.args.held.now (omega (arith, t.few)) members);
}
