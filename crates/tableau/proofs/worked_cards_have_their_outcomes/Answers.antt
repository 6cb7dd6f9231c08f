use Rattle.std.proofs.Common.{refl}
use Rattle.tableau.proofs.worked_cards_have_their_outcomes.Goals as goal

pub returns : goal.returns
returns c = record { worked = refl; wrong = refl; unusual = refl; coverings = refl; met = refl }
