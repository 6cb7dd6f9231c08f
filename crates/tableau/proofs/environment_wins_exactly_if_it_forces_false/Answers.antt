use Rattle.tableau.proofs.environment_wins_exactly_if_it_forces_false.Goals as goal
use Rattle.tableau.proofs.Forces.{forces_suc}
use Rattle.tableau.proofs.Laws.{forces_by_set, forces_wins}

pub returns : goal.returns
returns c = record { set = forces_by_set; later = forces_suc; wins = forces_wins }
