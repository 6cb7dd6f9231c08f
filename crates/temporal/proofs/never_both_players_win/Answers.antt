use Rattle.temporal.proofs.never_both_players_win.Goals as goal
use Rattle.temporal.proofs.Runs.{never_both}

pub returns : goal.returns
returns c = never_both
