use Rattle.std.proofs.Common.{refl}
use Rattle.normal.proofs.Whole.{empty_sound, first_sound, begun}
use Rattle.normal.proofs.builder.Builder.new.Goals as goal

pub add-requires : goal.add-requires
add-requires c = record { sound = empty_sound c.args.slots.now c.requires.clear c.requires.room; parts = refl }

pub add-requires-2 : goal.add-requires-2
add-requires-2 c = record {
  sound = first_sound c.add.new.slots c.add.new.self c.add.result c.add.ensures;
  parts = refl;
}

pub returns : goal.returns
returns c =
    begun c.add.new.slots c.add.new.self c.add.result c.add.ensures
    c.add-2.new.slots c.add-2.new.self c.add-2.result c.add-2.ensures
