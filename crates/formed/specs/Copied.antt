-- What a table of records holds.
use Rattle.std.specs.Prelude.{List, take}
use Rattle.records.specs.declared.FormulaRecord.{FormulaRecord}
use Rattle.formed.specs.declared.table.Records.{Records}

abbrev pub records_of : Records → List FormulaRecord
records_of r = take r.count r.table
