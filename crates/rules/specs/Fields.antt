-- The view of a specification's fields.
use Rattle.std.specs.Prelude.{ℕ, take}
use Rattle.normal.specs.declared.table.Formulas.{Formulas}
use Rattle.parser.specs.declared.table.Names.{Names}
use Rattle.parser.specs.Naming.{names_of}
use Rattle.rules.specs.Read.{View}

abbrev pub view_from : Names → Formulas → ℕ → View
view_from ns fs third = record {
  names = names_of ns;
  formulas = take fs.count fs.table;
  initial = fs.initial;
  safety = fs.safety;
  third = third;
}
