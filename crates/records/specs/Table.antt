-- The formulas that a list of records stands for, and when such a list is that of a card: in form, and no record equal to an earlier one.
use Rattle.std.specs.Prelude.{◌≡◌, true, List, [], map, ℕ, ◌≤◌, ◌<◌, length, get_or}
use Rattle.temporal.specs.Formula.{Formula, bot}
use Rattle.temporal.specs.Parts.{◌∈◌}
use Rattle.temporal.specs.Game.{Spec}
use Rattle.tableau.specs.Card.{Entry, no_entry, trees_on}
use Rattle.tableau.specs.Form.{formula_formed}
use Rattle.records.specs.Raw.{entry_of}
use Rattle.records.specs.declared.FormulaRecord.{FormulaRecord}

-- the formulas, in order, and the formula of record i
abbrev pub formulas_of : List FormulaRecord → List Formula
formulas_of rs = trees_on [] (map entry_of rs)

abbrev pub formula_of : List FormulaRecord → ℕ → Formula
formula_of rs i = get_or (formulas_of rs) i bot

abbrev pub entry_at : List FormulaRecord → ℕ → Entry
entry_at rs i = get_or (map entry_of rs) i no_entry

-- the list of a card's formulas
pub record Table (spec : Spec) (rs : List FormulaRecord) : Type 0 where
  pub two : 2 ≤ length rs
  pub few : length rs ≤ 1024
  pub formed : (i : ℕ) → i < length rs → formula_formed spec i (entry_at rs i) ≡ true
  pub different : (i : ℕ) → i < length rs → (j : ℕ) → j < i → entry_at rs j ≡ entry_at rs i → ⊥

-- each formula of the set is one of the list's
abbrev pub Listed : List FormulaRecord → List Formula → Type 0
Listed rs S = (f : Formula) → f ∈ S → f ∈ formulas_of rs
