-- The size of the index, and judging the root.
use Rattle.std.specs.Prelude.{◌≡◌, ℕ, ◌<◌, cond, List, length, Ok, Err, Result, nat_lt}
use Rattle.faults.specs.declared.Buffer.{Buffer}
use Rattle.faults.specs.declared.Buffer.TheVariants as buffer
use Rattle.faults.specs.declared.card.CardFault.{CardFault}
use Rattle.temporal.specs.Game.{Spec}
use Rattle.tableau.specs.Conditions.{at_root}
use Rattle.records.specs.declared.FormulaRecord.{FormulaRecord}
use Rattle.records.specs.Raw.{RawCard, model}
use Rattle.records.specs.Table.{formula_of}
use Rattle.steps.specs.Sets.{Labelled}
use Rattle.judged.specs.Judged.{Judges}

abbrev pub enough : ℕ → Result (Unit {0}) Buffer
enough slots = cond (nat_lt slots 2048) (Err buffer.Index) (Ok tt)

-- the root is judged, where `initial` is the number of the initial formula
abbrev pub JudgesRoot : RawCard → List FormulaRecord → ℕ → Result (Unit {0}) CardFault → Type 0
JudgesRoot c rs initial r =
    (spec : Spec) → Labelled spec c → rs ≡ c.formulas → initial < length rs → formula_of rs initial ≡ spec.initial
    → Judges spec (model c) at_root r
