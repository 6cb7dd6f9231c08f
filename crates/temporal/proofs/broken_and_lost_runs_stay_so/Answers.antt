use Rattle.temporal.proofs.broken_and_lost_runs_stay_so.Goals as goal
use Rattle.temporal.proofs.Runs.{any_padding, complete_stays, broken_stays, lost_stays}

pub returns : goal.returns
returns c = record { padding = any_padding; complete = complete_stays; broken = broken_stays; lost = lost_stays }
