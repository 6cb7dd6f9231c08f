use Rattle.std.proofs.Common.{arith}
use Rattle.card.proofs.Walk.{first_left}
use Rattle.card.proofs.entry.EntriesIterator.next.Goals as goal

pub returns-clause-steps : goal.returns-clause-steps
returns-clause-steps g c =
    let xs = g.E.Entry.listed (g.S.CardSource.card c.args.self.now.source.now) in
    first_left xs c.args.self.now.next c.at-entry.result (omega arith) c.at-entry.ensures
