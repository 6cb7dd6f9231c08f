-- Cubes: the valuations that agree with what is fixed of some variables.
use Rattle.std.specs.Prelude.{◌≡◌, ℕ, ◌-◌, ◌/◌, ◌^◌, ◌<◌, Bool, cond, ◌==◌, bit_and}
use Rattle.temporal.specs.Game.{bit}
use Rattle.tableau.specs.Moves.{Move}
use Rattle.coverings.specs.declared.cube.Cube.{Cube}
use Rattle.coverings.specs.declared.cube.Side.{Side}
use Rattle.coverings.specs.declared.cube.Side.TheVariants.{Environment, System}

-- the valuation v agrees with what the cube fixes
abbrev pub agrees : ℕ → Cube → Bool
agrees v c = bit_and v c.mask == c.values

-- the cube is one over n variables: values lie inside the mask, the mask inside the variables
pub record Formed (n : ℕ) (c : Cube) : Type 0 where
  pub inside : bit_and c.values c.mask ≡ c.values
  pub below : c.mask < 2 ^ n

-- what a move fixes of one side's variables
abbrev pub cube_of : Side → Move → Cube
cube_of Environment m = record { mask = m.env_mask; values = m.env_values }
cube_of System m = record { mask = m.sys_mask; values = m.sys_values }

-- ── the low six variables: bit l of a word stands for their valuation l ──
-- the valuations in which variable i is true
abbrev pub column : ℕ → ℕ
column i =
    cond (i == 0) 0xaaaa_aaaa_aaaa_aaaa (cond (i == 1) 0xcccc_cccc_cccc_cccc (cond (i == 2) 0xf0f0_f0f0_f0f0_f0f0
    (cond (i == 3) 0xff00_ff00_ff00_ff00 (cond (i == 4) 0xffff_0000_ffff_0000 0xffff_ffff_0000_0000))))

-- those in which it has the value, or all if it is not fixed
abbrev pub literal_word : ℕ → Bool → Bool → ℕ
literal_word i fixed value = cond fixed (cond value (column i) (0xffff_ffff_ffff_ffff - column i)) 0xffff_ffff_ffff_ffff

abbrev pub literal_of : Cube → ℕ → ℕ
literal_of c i = literal_word i (bit c.mask i) (bit c.values i)

-- those that agree with the cube
abbrev pub low_word : Cube → ℕ
low_word c =
    bit_and (bit_and (bit_and (literal_of c 0) (literal_of c 1)) (literal_of c 2))
    (bit_and (bit_and (literal_of c 3) (literal_of c 4)) (literal_of c 5))

-- ── the variables above them ──
-- their valuation h agrees with what the cube fixes of them
abbrev pub agrees_high : ℕ → Cube → Bool
agrees_high h c = bit_and h (c.mask / 64) == c.values / 64
