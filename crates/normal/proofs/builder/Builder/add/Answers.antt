use Rattle.std.proofs.Common.{◌≡◌, ◌<◌, length, sym, arith}
use Rattle.normal.specs.Building.{entries_of}
use Rattle.normal.proofs.Adding.{entries_length, added_old, added_full, added_new}
use Rattle.normal.proofs.builder.Builder.add.Goals as goal

pub returns-in-Some : goal.returns-in-Some
returns-in-Some c =
    added_old c.args.slots.now c.args.self.now c.requires.sound c.args.entry c.in-Some.i
    (c.in-Some.ensures.model (entries_of c.args.self.now) c.requires.sound.indexed)

pub returns-then-self-eq256 : goal.returns-then-self-eq256
returns-then-self-eq256 c =
    added_full c.args.slots.now c.args.self.now c.requires.sound c.args.entry c.requires.parts
    (c.in_default.ensures.model (entries_of c.args.self.now) c.requires.sound.indexed) c.if-self-eq256.true

pub returns : goal.returns
returns c =
    let b = c.args.self.now in
    let s = c.requires.sound in
    let low : c.args.self.now.count < 256 = omega (arith, c.requires.sound.few, c.if-self-eq256.false) in
    let len : c.args.self.now.count ≡ length (entries_of c.args.self.now) =
    sym (entries_length c.args.slots.now c.args.self.now c.requires.sound) in
    let done = c.insert.ensures.model (entries_of c.args.self.now) c.requires.sound.indexed len (omega (arith, low))
    (omega (arith, low, c.requires.sound.room)) in
    added_new c.args.slots.now c.args.self.now c.requires.sound c.args.entry c.requires.parts
    (c.in_default.ensures.model (entries_of c.args.self.now) c.requires.sound.indexed) low
    c.insert.new.slots c.insert.ensures.len done.1
