use Rattle.temporal.proofs.rest_is_exact.Goals as goal
use Rattle.temporal.proofs.Truth.{exact_at}

pub returns : goal.returns
returns c = exact_at
