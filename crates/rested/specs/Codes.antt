-- The code of a formula record as a key.
use Rattle.std.specs.Prelude.{ℕ, ◌+◌, ◌*◌}
use Rattle.records.specs.declared.FormulaRecord.{FormulaRecord}

-- every field counts, and the sum of such fields is below 2 ^ 32
abbrev pub formula_code : FormulaRecord → ℕ
formula_code f = f.kind * 2053 + f.variable * 8009 + (f.a * 1031 + f.b * 40503 + f.n * 10007 + f.m * 5003)
