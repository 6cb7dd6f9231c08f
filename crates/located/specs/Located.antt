-- Where a card's list has the formulas of a specification.
use Rattle.std.specs.Prelude.{◌≡◌, ◌<◌, true, false, List, length, Some, None, Option}
use Rattle.temporal.specs.Game.{Spec}
use Rattle.tableau.specs.Conditions.{spec_formulas}
use Rattle.records.specs.declared.FormulaRecord.{FormulaRecord}
use Rattle.records.specs.Table.{formulas_of, formula_of}
use Rattle.rested.specs.Rests.{has_all}
use Rattle.located.specs.declared.Places.{Places}

-- an answer says where the list has the initial and the safety formula, and that it has all their parts; or that it lacks some of these
abbrev pub Located : Spec → List FormulaRecord → Option Places → Type 0
Located spec rs None = has_all (formulas_of rs) (spec_formulas spec) ≡ false
Located spec rs (Some p) =
    (has_all (formulas_of rs) (spec_formulas spec) ≡ true)
    × ((p.initial < length rs) × (formula_of rs p.initial ≡ spec.initial))
    × ((p.safety < length rs) × (formula_of rs p.safety ≡ spec.safety))
