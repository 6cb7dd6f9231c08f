use Rattle.std.proofs.Common.{◌≡◌, ◌+◌, ◌*◌, ◌≤◌, length, drop}
use Rattle.std.specs.List.{flat_map}
use Rattle.card.specs.Written.{put_at}
use Rattle.card.proofs.writer.write_list.Given as goal

-- what is left, put over the output, gives the whole
abbrev pub invariant-loop-entry : goal.invariant-loop-entry
invariant-loop-entry g l =
    let it = l.entry-iterator in
    let left = drop it.next (g.E.Entry.listed (g.S.CardSource.card it.source.now)) in
    let whole = g.E.Entry.listed (g.S.CardSource.card l.source) in
    (goal.iterator-loop-entry g).can_next it
    × (goal.iterator-loop-entry g).is_finite it
    × (l.end + g.E.Stored.SIZE * length left ≤ length l.output)
    × (put_at l.output l.end (flat_map g.E.Stored.bytes_of left) ≡ put_at l.initial.output l.at (flat_map g.E.Stored.bytes_of whole))
