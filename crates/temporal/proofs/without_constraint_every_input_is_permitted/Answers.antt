use Rattle.temporal.proofs.without_constraint_every_input_is_permitted.Goals as goal
use Rattle.temporal.proofs.Runs.{base_permitted, base_wellformed}

pub returns : goal.returns
returns c = λ spec q. (base_permitted spec q, base_wellformed spec q)
