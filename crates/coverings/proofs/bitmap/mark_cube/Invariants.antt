use Rattle.std.proofs.Common.{◌≡◌, ◌+◌, ◌/◌, ltb, length}
use lib.Bits.{bit_and}
use Rattle.coverings.specs.declared.cube.Cube.{Cube}
use Rattle.coverings.specs.Cubes.{Formed, low_word}
use Rattle.coverings.specs.Bitmap.{free_high}
use Rattle.coverings.proofs.Subsets.{Done}
use Rattle.coverings.proofs.bitmap.mark_cube.Given as goal

-- the words of all larger subsets are marked
abbrev pub invariant-subsets : goal.invariant-subsets
invariant-subsets l =
    (bit_and l.rest l.free ≡ l.rest) × (length l.words ≡ 1024)
    × ((cube : Cube) (formed : Formed (6 + l.high) cube)
    → l.fixed ≡ cube.values / 64 → l.free ≡ free_high l.high cube → l.word ≡ low_word cube
    → Done l.high cube formed l.initial.words (ltb l.rest) l.words)

abbrev pub decreases-subsets : goal.decreases-subsets
decreases-subsets l = l.rest
