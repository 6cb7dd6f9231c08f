use Rattle.tableau.proofs.closed_cards_win_for_the_environment.Goals as goal
use Rattle.tableau.proofs.Laws.{closed_play_ends, closed_end_lost, closed_inputs_win, closed_breaks_within, closed_environment_wins}

pub returns : goal.returns
returns c = record {
  ends = closed_play_ends;
  lost = closed_end_lost;
  inputs = closed_inputs_win;
  within = closed_breaks_within;
  wins = closed_environment_wins;
}
