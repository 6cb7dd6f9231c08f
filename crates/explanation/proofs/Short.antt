-- How long texts and words are.
use Rattle.std.proofs.Common.{ℕ, ◌≤◌, List, length, ap, arith, length-take}
use Rattle.names.specs.declared.Name.{Name}
use Rattle.names.specs.Words.{at_most15, word_of}
use Rattle.lines.proofs.Pieces.{Made, made_whole}

-- a line made of at most 20 bytes shows at most 20
pub made_short : {s xs : List ℕ} {n : ℕ} → Made s xs n → n ≤ 20 → length s ≤ 20
made_short m h = let e = ap length (made_whole m (omega arith)) in omega (arith, e, m.short)

-- a name's word has at most 15 bytes
pub word_short : (x : Name) → length (word_of x) ≤ 15
word_short x =
    let e = length-take (at_most15 x.length) x.bytes in
    let h : at_most15 x.length ≤ 15 = grind arith in
    omega (arith, e, h)
