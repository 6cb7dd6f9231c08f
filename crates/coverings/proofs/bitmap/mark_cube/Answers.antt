use Rattle.std.proofs.Common.{ℕ, ◌-◌, ◌/◌, ◌^◌, ◌<◌, ◌≤◌, sym, refl, subst, arith, pow_pos, pow_mono}
use lib.Bits.{bit_or, and_le_r, or_lt, xor_lt}
use Rattle.coverings.specs.declared.cube.Cube.{Cube}
use Rattle.coverings.specs.Bitmap.{free_high}
use Rattle.coverings.proofs.Bits.{and_twice}
use Rattle.coverings.proofs.Subsets.{turn_stops, turn_next, turn_ends}
use Rattle.coverings.proofs.bitmap.mark_cube.Goals as goal

free_lt : (high : ℕ) (cube : Cube) → high ≤ 10 → cube.mask < 2 ^ 16 → free_high high cube < 2 ^ 10
free_lt high cube h m =
    let p : 2 ^ high ≤ 2 ^ 10 = pow_mono h in
    let a : 2 ^ high - 1 < 2 ^ 10 = omega (arith, pow_pos high) in
    let b : cube.mask / 64 < 2 ^ 10 = omega arith in
    xor_lt 10 (bit_or (2 ^ high - 1) (cube.mask / 64)) (cube.mask / 64) (or_lt 10 (2 ^ high - 1) (cube.mask / 64) a b) b

pub mark_word-requires : goal.mark_word-requires
mark_word-requires c =
    let m : c.args.cube.mask < 2 ^ 16 = omega arith in
    let v : c.args.cube.values / 64 < 2 ^ 10 = omega arith in
    let f : c.free_high-free.result < 2 ^ 10 =
    subst (λ (k : ℕ). k < 2 ^ 10) (sym c.free_high-free.ensures) (free_lt c.args.high c.args.cube c.requires m) in
    let s = c.subsets.invariant.0 in
    or_lt 10 (c.args.cube.values / 64) c.subsets.rest v
    (omega (arith, and_le_r c.subsets.rest c.free_high-free.result))

pub returns-then-not-mark_word : goal.returns-then-not-mark_word
returns-then-not-mark_word c = λ formed.
    turn_stops c.args.high c.args.cube formed c.args.words.now c.subsets.rest (c.args.cube.values / 64)
    c.free_high-free.result c.low_word-word.result refl c.free_high-free.ensures c.low_word-word.ensures
    c.subsets.invariant.0 c.subsets.words
    (c.subsets.invariant.2 c.args.cube formed refl c.free_high-free.ensures c.low_word-word.ensures)
    c.mark_word.result c.mark_word.ensures.value c.if-not-mark_word.true

pub returns-then-rest-eq0 : goal.returns-then-rest-eq0
returns-then-rest-eq0 c = λ formed.
    let p : 2 ^ c.args.high ≤ 2 ^ 10 = pow_mono c.requires in
    let n = c.subsets.invariant.1 in
    turn_ends c.args.high c.args.cube formed c.args.words.now c.subsets.rest (c.args.cube.values / 64)
    c.free_high-free.result c.low_word-word.result refl c.free_high-free.ensures c.low_word-word.ensures
    c.subsets.invariant.0 c.subsets.words
    (c.subsets.invariant.2 c.args.cube formed refl c.free_high-free.ensures c.low_word-word.ensures)
    c.mark_word.result c.mark_word.ensures.value c.mark_word.new.words c.mark_word.ensures.marks
    (omega arith) c.if-not-mark_word.false c.if-rest-eq0.true

pub subsets-preserved : goal.subsets-preserved
subsets-preserved c =
    let p : 2 ^ c.args.high ≤ 2 ^ 10 = pow_mono c.requires in
    let n = c.subsets.invariant.1 in
    let m : c.args.cube.mask < 2 ^ 16 = omega arith in
    let g : c.free_high-free.result < 2 ^ 10 =
    subst (λ (k : ℕ). k < 2 ^ 10) (sym c.free_high-free.ensures) (free_lt c.args.high c.args.cube c.requires m) in (
      and_twice 10 (c.subsets.rest - 1) c.free_high-free.result g,
      omega arith,
      λ cube formed v f w.
          turn_next c.args.high cube formed c.args.words.now c.subsets.rest (c.args.cube.values / 64)
          c.free_high-free.result c.low_word-word.result v f w c.subsets.invariant.0 c.subsets.words
          (c.subsets.invariant.2 cube formed v f w)
          c.mark_word.result c.mark_word.ensures.value c.mark_word.new.words c.mark_word.ensures.marks
          (omega arith) c.if-not-mark_word.false (omega arith),
    )
