use Rattle.index.proofs.Insertions.{one_insertion}
use Rattle.index.proofs.insertion_is_unique.Goals as goal

pub returns : goal.returns
returns g c = one_insertion g.K.Key.coded
