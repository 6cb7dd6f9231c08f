use Rattle.std.proofs.Common.{◌≡◌, length, drop}
use Rattle.temporal.specs.Game.{Spec}
use Rattle.records.specs.Raw.{model}
use Rattle.formed.specs.Sizes.{HasSizes}
use Rattle.formed.proofs.Rows.{Left}
use Rattle.formed.proofs.entries.list_formed.Given as goal

-- so many entries were taken; what is left of the conditions gives the answer
abbrev pub invariant-loop-i : goal.invariant-loop-i
invariant-loop-i g l =
    let c = g.S.CardSource.card l.source in
    let xs = g.E.Entry.listed c in
    let it = l.i-iterator in
    (goal.iterator-loop-i g).can_next it
    × (goal.iterator-loop-i g).is_finite it
    × (drop it.iter.next (g.E.Entry.listed (g.S.CardSource.card it.iter.source.now)) ≡ drop it.count xs)
    × ((spec : Spec) → HasSizes spec c l.sizes → Left g.E.Formed.condition (length xs) it.count spec (model c))
