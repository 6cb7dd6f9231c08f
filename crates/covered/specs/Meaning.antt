-- What marks over the formulas of a card say of a set of formulas.
use Rattle.std.specs.Prelude.{◌≡◌, ℕ, ◌<◌, Bool, List, length}
use Rattle.temporal.specs.Formula.{Formula}
use Rattle.temporal.specs.Parts.{member}
use Rattle.temporal.specs.Game.{Spec}
use Rattle.tableau.specs.Cover.{held, covers}
use Rattle.records.specs.declared.FormulaRecord.{FormulaRecord}
use Rattle.records.specs.Table.{Table, Listed, formula_of}
use Rattle.covered.specs.Marks.{marked}

-- formula i is marked exactly if the set has it
abbrev pub Members : List FormulaRecord → List Formula → List Bool → Type 0
Members rs S ms = (i : ℕ) → i < length rs → marked ms i ≡ member (formula_of rs i) S

-- formula i is marked exactly if the set covers it
abbrev pub Covers : List FormulaRecord → List Formula → List Bool → Type 0
Covers rs S ms = (i : ℕ) → i < length rs → marked ms i ≡ covers S (formula_of rs i)

-- from the marks of any set of a card's formulas to the marks of what it holds
abbrev pub MarksHeld : List FormulaRecord → List Bool → List Bool → Type 0
MarksHeld rs ms hs = (spec : Spec) → Table spec rs → (S : List Formula) → Listed rs S → Members rs S ms → Members rs (held S) hs

-- from the marks of what any such set holds to the marks of what it covers
abbrev pub MarksCovered : List FormulaRecord → List Bool → List Bool → Type 0
MarksCovered rs hs cs = (spec : Spec) → Table spec rs → (S : List Formula) → Listed rs S → Members rs (held S) hs → Covers rs S cs

-- from the marks of any such set to the marks of what it covers
abbrev pub MarksCoveredBy : List FormulaRecord → List Bool → List Bool → Type 0
MarksCoveredBy rs ms cs = (spec : Spec) → Table spec rs → (S : List Formula) → Listed rs S → Members rs S ms → Covers rs S cs
