-- What a specification shows.
use Rattle.std.specs.Prelude.{Ok, Err, Result}
use Rattle.faults.specs.declared.Fault.{Fault}
use Rattle.rules.specs.declared.specification.Specification.{Specification}
use Rattle.rules.specs.Read.{View}
use Rattle.rules.specs.Fields.{view_from}

abbrev pub view : Specification → View
view s = view_from s.names s.formulas s.third

abbrev pub view_result : Result Specification Fault → Result View Fault
view_result (Ok s) = Ok (view s)
view_result (Err f) = Err f
