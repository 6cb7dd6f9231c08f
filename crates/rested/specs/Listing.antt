-- The formula records of a card: what they stand for, when a list of them is in form, and when slots index it.
use Rattle.std.specs.Prelude.{ℕ, List, map}
use Rattle.temporal.specs.Game.{Spec}
use Rattle.records.specs.declared.FormulaRecord.{FormulaRecord}
use Rattle.records.specs.Table.{Table}
use Rattle.index.specs.Keyed.{Indexed}
use Rattle.index.specs.declared.Slot.{Slot}
use Rattle.rested.specs.declared.key.FormulaKey.{FormulaKey}
use Rattle.rested.specs.Codes.{formula_code}

-- a card's list of formulas that has passed the tests of count, form and equal formulas: it has 2 to 1,024 entries, each is in form for
-- some specification, and none equals one before it
pub record InForm (rs : List FormulaRecord) : Type 0 where
  pub spec : Spec
  pub table : Table spec rs

-- a record as a key of the index, and the code of a key
abbrev pub key_of : FormulaRecord → FormulaKey
key_of f = record { formula = f }

abbrev pub key_code : FormulaKey → ℕ
key_code k = formula_code k.formula

-- the list is in form, and the slots index exactly this list
pub record Ready (rs : List FormulaRecord) (slots : List (Slot FormulaKey)) : Type 0 where
  pub listing : InForm rs
  pub indexed : Indexed key_code slots (map key_of rs)
