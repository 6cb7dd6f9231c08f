use Rattle.grammar.proofs.laws.derived_formulas_are_fine.Goals as goal
use Rattle.grammar.proofs.Fine.{derived_formulas_are_fine}

pub returns : goal.returns
returns c = derived_formulas_are_fine
