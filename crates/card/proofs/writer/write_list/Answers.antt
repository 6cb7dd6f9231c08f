use Rattle.std.proofs.Common.{◌+◌, drop, arith}
use Rattle.std.specs.List.{flat_map}
use Rattle.card.specs.Written.{put_at}
use Rattle.card.proofs.Puts.{put_next}
use Rattle.card.proofs.writer.write_list.Goals as goal

pub loop-entry-preserved : goal.loop-entry-preserved
loop-entry-preserved g c =
    let left = drop c.loop-entry.entry-iterator.next (g.E.Entry.listed (g.S.CardSource.card c.loop-entry.entry-iterator.source.now)) in
    let rest = drop c.next.new.self.next (g.E.Entry.listed (g.S.CardSource.card c.next.new.self.source.now)) in
    let whole = flat_map g.E.Stored.bytes_of (g.E.Entry.listed (g.S.CardSource.card c.args.source.now)) in
    let h = put_next g.E.Stored.bytes_of g.E.Stored.SIZE g.met.E.Stored.sized left rest c.in-Some.entry c.loop-entry.output c.put.new.output
    (put_at c.args.output.now c.args.at whole)
    c.loop-entry.end (c.loop-entry.end + c.SIZE-end.result) c.in-Some.ensures.steps c.loop-entry.invariant.2 c.loop-entry.invariant.3
    c.put.ensures (omega (arith, c.SIZE-end.ensures)) in
    (tt, tt, h.0, h.1)
