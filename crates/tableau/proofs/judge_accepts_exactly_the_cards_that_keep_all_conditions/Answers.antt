use Rattle.tableau.proofs.judge_accepts_exactly_the_cards_that_keep_all_conditions.Goals as goal
use Rattle.tableau.proofs.Order.{accepts, refuses}
use Rattle.tableau.proofs.Laws.{depth_of_nodes, different_formulas}

pub returns : goal.returns
returns c = record { accepts = accepts; refuses = refuses; depths = depth_of_nodes; different = different_formulas }
