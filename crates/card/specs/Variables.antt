-- How many variables a specification has.
use Rattle.std.specs.Prelude.{◌≡◌}
use Rattle.temporal.specs.Game.{Spec}
use Rattle.card.specs.declared.variables.Variables.{Variables}

-- the specification has so many variables of each kind
abbrev pub HasVariables : Spec → Variables → Type 0
HasVariables spec v = (spec.environment ≡ v.environment) × (spec.system ≡ v.system)
