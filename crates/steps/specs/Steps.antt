-- What the tests of the root and of a step decide.
use Rattle.std.specs.Prelude.{◌≡◌, ℕ, ◌<◌, Bool, List, length}
use Rattle.temporal.specs.Formula.{Formula}
use Rattle.temporal.specs.Game.{Spec}
use Rattle.tableau.specs.Moves.{Target}
use Rattle.tableau.specs.Card.{CardKind, kind_of, label_of}
use Rattle.tableau.specs.Conditions.{keeps_root, keeps_step}
use Rattle.records.specs.declared.FormulaRecord.{FormulaRecord}
use Rattle.records.specs.Raw.{RawCard, model}
use Rattle.records.specs.Table.{Listed, formula_of}
use Rattle.covered.specs.Meaning.{Members}
use Rattle.steps.specs.Sets.{Labelled}

-- r says whether the root is kept, where `initial` is the number of the specification's initial formula
abbrev pub TellsRoot : RawCard → List FormulaRecord → ℕ → Bool → Type 0
TellsRoot c rs initial r =
    (spec : Spec) → Labelled spec c → rs ≡ c.formulas → initial < length rs → formula_of rs initial ≡ spec.initial
    → r ≡ keeps_root (kind_of (model c)) spec (label_of (model c) 0)

-- r says whether the step to a target is kept in a card of this kind, where the marks are those of the rests S
abbrev pub TellsStep : CardKind → RawCard → List FormulaRecord → List Bool → Target → Bool → Type 0
TellsStep kind c rs ms target r =
    (spec : Spec) (S : List Formula) → Labelled spec c → rs ≡ c.formulas → Listed rs S → Members rs S ms
    → r ≡ keeps_step kind (model c) S target
