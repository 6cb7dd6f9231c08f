use Rattle.tableau.proofs.open_cards_win_for_the_system.Goals as goal
use Rattle.tableau.proofs.Laws.{open_play_never_lost, open_replies_win, open_system_wins}

pub returns : goal.returns
returns c = record { play = open_play_never_lost; replies = open_replies_win; wins = open_system_wins }
