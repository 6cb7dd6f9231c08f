use Rattle.std.proofs.Common.{rules}
use Rattle.index.proofs.Probes.{slot_entered}
use Rattle.index.proofs.Slot.holding.Goals as goal

pub returns-in_default : goal.returns-in_default
returns-in_default g c = search (rules, slot_entered)
