use Rattle.temporal.proofs.rules_see_the_past_alone.Goals as goal
use Rattle.temporal.proofs.Runs.{replied_means, asked_means}

pub returns : goal.returns
returns c = record { replied = replied_means; asked = asked_means }
