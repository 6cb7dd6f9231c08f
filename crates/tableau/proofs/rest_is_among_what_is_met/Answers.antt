use Rattle.tableau.proofs.rest_is_among_what_is_met.Goals as goal
use Rattle.tableau.proofs.Rests.{rest_met}

pub returns : goal.returns
returns c = rest_met
