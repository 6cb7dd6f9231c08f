use Rattle.tableau.proofs.covering_is_sound.Goals as goal
use Rattle.tableau.proofs.Cover.{covers_true, covers_more}

pub returns : goal.returns
returns c = record { sound = covers_true; monotone = covers_more }
