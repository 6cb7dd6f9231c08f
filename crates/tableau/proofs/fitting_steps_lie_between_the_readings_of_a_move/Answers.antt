use Rattle.tableau.proofs.fitting_steps_lie_between_the_readings_of_a_move.Goals as goal
use Rattle.tableau.proofs.Fits.{cautious_reading, reading_generous}

pub returns : goal.returns
returns c = λ m x p q. (cautious_reading m x p q, reading_generous m x p q)
