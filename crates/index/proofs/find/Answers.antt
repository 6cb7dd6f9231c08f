use Rattle.std.proofs.Common.{◌≡◌, None, length, refl, sym, subst, rules}
use Rattle.std.proofs.lemmas.Option.{slice_get_read}
use Rattle.std.specs.Option.{option_map}
use Rattle.index.specs.Keyed.{Looked}
use Rattle.index.proofs.Lookups.{looked_found, looked_nowhere, looked_there}
use Rattle.index.proofs.find.Goals as goal

pub returns-in_err-at : goal.returns-in_err-at
returns-in_err-at g c =
    let code = g.K.Key.coded in
    let miss : Looked g.K.Key.coded c.args.slots.now c.args.key.now None =
    looked_nowhere code _ c.args.slots.now c.args.key.now (λ s b h. search rules) c.in_err-at.ensures in
    let value : Looked g.K.Key.coded c.args.slots.now c.args.key.now c.from_residual.result =
    subst (Looked g.K.Key.coded c.args.slots.now c.args.key.now) (sym c.from_residual.ensures) miss in
    record { value = value; model = looked_found code c.args.slots.now c.args.key.now c.from_residual.result value }

pub returns : goal.returns
returns g c =
    let code = g.K.Key.coded in
    let there : Looked g.K.Key.coded c.args.slots.now c.args.key.now (option_map (λ x. x.number) c.index-slots-at.result.held) =
    looked_there code _ c.args.slots.now c.args.key.now (λ s b h. search rules) c.in_ok-at.at c.index-slots-at.result c.in_ok-at.ensures.1
    (slice_get_read c.args.slots.now (length c.args.slots.now) c.in_ok-at.at c.index-slots-at.result refl c.in_ok-at.ensures.0 c.index-slots-at.is) in
    let same : option_map (λ x. x.number) c.index-slots-at.result.held ≡ c.map.result = search rules in
    let value : Looked g.K.Key.coded c.args.slots.now c.args.key.now c.map.result =
    subst (Looked g.K.Key.coded c.args.slots.now c.args.key.now) same there in
    record { value = value; model = looked_found code c.args.slots.now c.args.key.now c.map.result value }
