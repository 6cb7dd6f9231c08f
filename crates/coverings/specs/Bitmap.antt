-- Bitmaps over valuations: bit l of word h stands for the valuation 64 h + l.
use Rattle.std.specs.Prelude.{◌≡◌, ℕ, ◌+◌, ◌-◌, ◌/◌, ◌^◌, ◌<◌, Bool, true, cond, List, MatchBool, ◌==◌, bit_and, bit_or, bit_xor, slice_index, slice_set}
use Rattle.coverings.specs.declared.cube.Cube.{Cube}
use Rattle.coverings.specs.Cubes.{Formed, low_word, agrees_high}

-- ── words ──
-- no bit in common
abbrev pub apart : ℕ → ℕ → Bool
apart a b = bit_and a b == 0

-- the bits of a word marked in word h
abbrev pub join_word : List ℕ → ℕ → ℕ → List ℕ
join_word ws h w = slice_set ws h (bit_or (slice_index ws h) w)

abbrev pub full_word : ℕ → Bool
full_word w = w == 0xffff_ffff_ffff_ffff

-- ── cubes ──
-- the variables above the low six, so many of them, that a cube leaves free
abbrev pub free_high : ℕ → Cube → ℕ
free_high high c = bit_xor (bit_or (2 ^ high - 1) (c.mask / 64)) (c.mask / 64)

-- no valuation of the cube is marked
abbrev pub Apart : ℕ → Cube → List ℕ → Type 0
Apart high c ws = (h : ℕ) → h < 2 ^ high → agrees_high h c ≡ true → apart (slice_index ws h) (low_word c) ≡ true

-- word h with those of the cube's valuations marked that it has
abbrev pub joined_word : Cube → List ℕ → ℕ → ℕ
joined_word c ws h = cond (agrees_high h c) (bit_or (slice_index ws h) (low_word c)) (slice_index ws h)

-- the valuations of the cube are marked too
abbrev pub Joined : ℕ → Cube → List ℕ → List ℕ → Type 0
Joined high c ws xs = (h : ℕ) → h < 2 ^ high → slice_index xs h ≡ joined_word c ws h

-- from ws to xs: the cube is marked, and nothing of it was before; or something of it was, and the answer is false
abbrev pub Marks : ℕ → Cube → List ℕ → Bool → List ℕ → Type 0
Marks high c ws r xs = Formed (6 + high) c → MatchBool r (Apart high c ws × Joined high c ws xs) (Apart high c ws → ⊥)

-- ── all ──
abbrev pub Full : List ℕ → ℕ → Type 0
Full ws high = (h : ℕ) → h < 2 ^ high → full_word (slice_index ws h) ≡ true
