use Rattle.index.proofs.Lookups.{one_lookup}
use Rattle.index.proofs.lookup_is_unique.Goals as goal

pub returns : goal.returns
returns g c = one_lookup g.K.Key.coded
