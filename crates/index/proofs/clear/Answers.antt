use Rattle.std.proofs.Common.{◌≡◌, [], length, sym, subst, rules}
use Rattle.std.proofs.Common.{replicate}
use Rattle.index.specs.Keyed.{free_slot, Indexed}
use Rattle.index.proofs.Insertions.{freed_indexed}
use Rattle.index.proofs.clear.Goals as goal

pub returns-clause-model : goal.returns-clause-model
returns-clause-model g c =
    let all : c.fill.new.self ≡ replicate (length c.args.slots.now) free_slot = search rules in
    subst (λ s. Indexed g.K.Key.coded s []) (sym all) (freed_indexed g.K.Key.coded (length c.args.slots.now))
