-- What it is to be the decimal digits of a number. Contracts name them `decimal n`, the standard library's word for what
-- `{}` writes of n; that these are the digits of n is what `push_number` ensures beside it.
use Rattle.std.specs.Prelude.{◌≡◌, ℕ, ◌+◌, ◌-◌, ◌*◌, true, List, [], ◌∷◌, slice_index_or}
use Rattle.std.specs.Str.{all_ascii_digits}

-- the number that digits go on to write after those of n: 48 is the byte of the digit 0
abbrev pub read_on : ℕ → List ℕ → ℕ
read_on n [] = n
read_on n (c ∷ cs) = read_on (10 * n + (c - 48)) cs

-- ds are digits, the most significant first; read back they give n, and a zero comes first only where it stands alone
pub record DigitsOf (n : ℕ) (ds : List ℕ) : Type 0 where
  pub digits : all_ascii_digits ds ≡ true
  pub number : read_on 0 ds ≡ n
  pub front : slice_index_or ds 0 0 ≡ 48 → ds ≡ 48 ∷ []
