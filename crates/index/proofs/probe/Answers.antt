use Rattle.std.proofs.Common.{◌≡◌, ◌<◌, length, rules}
use Rattle.std.specs.Fn.{FnReturnsAt}
use Rattle.index.specs.Keyed.{home}
use Rattle.index.proofs.Halves.{stops_after, stops_before}
use Rattle.index.proofs.probe.Goals as goal

pub returns-in-Some : goal.returns-in-Some
returns-in-Some g c =
    let within : c.in_ok-home.home < length c.args.slots.now = search rules in
    let begun : c.in_ok-home.home ≡ home g.K.Key.coded (length c.args.slots.now) c.args.key.now = search rules in
    stops_after (FnReturnsAt g.F.Fn c.args.stops) c.args.slots.now c.in_ok-home.home within g.K.Key.coded c.args.key.now begun
    c.in-Some.further c.split_at.result.1.now c.split_at.ensures.back c.in-Some.ensures

pub returns : goal.returns
returns g c =
    let within : c.in_ok-home.home < length c.args.slots.now = search rules in
    let begun : c.in_ok-home.home ≡ home g.K.Key.coded (length c.args.slots.now) c.args.key.now = search rules in
    stops_before (FnReturnsAt g.F.Fn c.args.stops) c.args.slots.now c.in_ok-home.home within g.K.Key.coded c.args.key.now begun
    c.first_at-in-None.result c.split_at.result.0.now c.split_at.result.1.now c.split_at.ensures.front c.split_at.ensures.back c.in-None.ensures
    c.first_at-in-None.ensures
