use Rattle.std.proofs.Common.{true, false, set, ap, refl, rules}
use Rattle.index.specs.Keyed.{Inserted}
use Rattle.index.proofs.Insertions.{inserted_indexed, inserted_full, inserted_length, vacant_there, vacant_nowhere}
use Rattle.index.proofs.insert.Goals as goal

pub returns-in-Some : goal.returns-in-Some
returns-in-Some g c =
    let code = g.K.Key.coded in
    let slots = c.args.slots.now in
    let after = set c.args.slots.now c.in-Some.at c.holding.result in
    let done : Inserted g.K.Key.coded c.args.slots.now c.args.key c.args.number true (set c.args.slots.now c.in-Some.at c.holding.result) = (
      c.in-Some.at,
      vacant_there code _ slots c.args.key (λ s b h. search rules) c.in-Some.at c.in-Some.ensures.1,
      ap (set c.args.slots.now c.in-Some.at) c.holding.ensures,
    ) in
    record {
      value = done;
      model = inserted_indexed code slots c.args.key c.args.number true after done;
      full = inserted_full code slots c.args.key c.args.number true after done;
      len = inserted_length code slots c.args.key c.args.number true after done;
    }

pub returns-in-None : goal.returns-in-None
returns-in-None g c =
    let code = g.K.Key.coded in
    let slots = c.args.slots.now in
    let done : Inserted g.K.Key.coded c.args.slots.now c.args.key c.args.number false c.args.slots.now =
    (vacant_nowhere code _ slots c.args.key (λ s b h. search rules) c.in-None.ensures, refl) in
    record {
      value = done;
      model = inserted_indexed code slots c.args.key c.args.number false slots done;
      full = inserted_full code slots c.args.key c.args.number false slots done;
      len = refl;
    }
