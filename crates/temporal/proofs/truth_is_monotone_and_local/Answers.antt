use Rattle.temporal.proofs.truth_is_monotone_and_local.Goals as goal
use Rattle.temporal.proofs.Truth.{monotone_at, local_at}

pub returns : goal.returns
returns c = record { monotone = monotone_at; local = local_at }
