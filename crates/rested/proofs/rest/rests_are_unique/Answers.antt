use Rattle.rested.proofs.Found.{one_answer}
use Rattle.rested.proofs.rest.rests_are_unique.Goals as goal

pub returns : goal.returns
returns c = one_answer
