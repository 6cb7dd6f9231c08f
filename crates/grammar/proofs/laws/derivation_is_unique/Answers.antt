use Rattle.grammar.proofs.laws.derivation_is_unique.Goals as goal
use Rattle.grammar.proofs.Reading.{derivation_is_unique}

pub returns : goal.returns
returns c = derivation_is_unique
