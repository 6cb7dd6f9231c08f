use Rattle.tableau.proofs.verdict_names_the_winner.Goals as goal
use Rattle.tableau.proofs.Laws.{verdict_names_winner, judged_depth_bounds_play, verdicts_agree}

pub returns : goal.returns
returns c = record { winner = verdict_names_winner; depth = judged_depth_bounds_play; agree = verdicts_agree }
