-- Words, their names, and the codes of names.
use Rattle.std.specs.Prelude.{◌≡◌, ℕ, ◌+◌, ◌-◌, ◌*◌, ◌%◌, ◌≤◌, Bool, cond, ◌&&◌, List, ◌++◌, length, take, replicate, fold, ◌==◌, nat_le, nat_lt, slice_index}
use Rattle.names.specs.declared.Name.{Name}

-- a length, cut to 15
abbrev pub at_most15 : ℕ → ℕ
at_most15 n = cond (nat_lt n 15) n 15

-- The name of a word: its bytes with zeros after them, 15 in all, and its length. A longer word is cut to its first 15 bytes.
abbrev pub name_of : List ℕ → Name
name_of w = record { bytes = take 15 (w ++ replicate 15 0); length = at_most15 (length w) }

-- the word that a name is of
abbrev pub word_of : Name → List ℕ
word_of n = take (at_most15 n.length) n.bytes

-- the law that the name of a word of at most 15 bytes gives the word back
abbrev pub KeepsWords : Type 0
KeepsWords = (w : List ℕ) → length w ≤ 15 → word_of (name_of w) ≡ w

-- whether a word names a variable of the environment: its last two bytes are `_` and `e`
abbrev pub is_environment : List ℕ → Bool
is_environment w = nat_le 2 (length w) && slice_index w (length w - 2) == 95 && slice_index w (length w - 1) == 101

-- a code after one more byte: it stays below the prime 65521
abbrev pub next_code : ℕ → ℕ → ℕ
next_code code b = (code * 31 + b) % 65521

-- the code of a name is that of its 15 bytes, one after another
abbrev pub name_code : Name → ℕ
name_code n = fold next_code 0 n.bytes
