use Rattle.std.proofs.Common.{◌≡◌, List, ◌++◌, map, length}
use Rattle.temporal.specs.Formula.{Formula}
use Rattle.temporal.specs.Game.{Spec}
use Rattle.tableau.specs.Lists.{span}
use Rattle.tableau.specs.Card.{label_tree}
use Rattle.records.specs.Raw.{model}
use Rattle.covered.specs.Meaning.{Members}
use Rattle.steps.specs.Sets.{Labelled}
use Rattle.steps.proofs.sets.add_label.Given as goal

-- the label entries before place k are marked
abbrev pub invariant-loop-k : goal.invariant-loop-k
invariant-loop-k g l =
    let c = g.S.CardSource.card l.source in
    (length l.marks ≡ 1024)
    × ((spec : Spec) → Labelled spec c → (S : List Formula) → Members c.formulas S l.initial.marks
    → Members c.formulas (S ++ map (label_tree (model c)) (span l.k l.first)) l.marks)
