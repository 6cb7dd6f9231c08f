-- Formulas and the records that stand for them.
use Rattle.std.specs.Prelude.{◌≡◌, Result, Ok, Err}
use Rattle.tableau.specs.Card.{by_kind}
use Rattle.formulas.specs.declared.Formula.{Formula}
use Rattle.formulas.specs.declared.Formula.TheVariants as entry
use Rattle.records.specs.declared.FormulaRecord.{FormulaRecord}
use Rattle.records.specs.declared.kind.UnknownKind.{UnknownKind}

-- the record of a formula: the number of its kind, and 0 in each field that the kind doesn't use
abbrev pub recorded : Formula → FormulaRecord
recorded entry.False = record { kind = 0; variable = 0; a = 0; b = 0; n = 0; m = 0 }
recorded entry.True = record { kind = 1; variable = 0; a = 0; b = 0; n = 0; m = 0 }
recorded (entry.Variable v) = record { kind = 2; variable = v; a = 0; b = 0; n = 0; m = 0 }
recorded (entry.Negated v) = record { kind = 3; variable = v; a = 0; b = 0; n = 0; m = 0 }
recorded (entry.And a b) = record { kind = 4; variable = 0; a = a; b = b; n = 0; m = 0 }
recorded (entry.Or a b) = record { kind = 5; variable = 0; a = a; b = b; n = 0; m = 0 }
recorded (entry.Next n a) = record { kind = 6; variable = 0; a = a; b = 0; n = n; m = 0 }
recorded (entry.Always n m a) = record { kind = 7; variable = 0; a = a; b = 0; n = n; m = m }
recorded (entry.Eventually n m a) = record { kind = 8; variable = 0; a = a; b = 0; n = n; m = m }

-- the formula that a record names, whatever stands in the fields that its kind doesn't use; an error where no kind has its number
abbrev pub named : FormulaRecord → Result Formula UnknownKind
named r =
    by_kind r.kind (Ok entry.False) (Ok entry.True) (Ok (entry.Variable r.variable)) (Ok (entry.Negated r.variable))
    (Ok (entry.And r.a r.b)) (Ok (entry.Or r.a r.b)) (Ok (entry.Next r.n r.a)) (Ok (entry.Always r.n r.m r.a))
    (Ok (entry.Eventually r.n r.m r.a)) (Err (record { 0 = r.kind }))

-- the law that the record of a formula names the formula
abbrev pub NamedBack : Type 0
NamedBack = (f : Formula) → named (recorded f) ≡ Ok f
