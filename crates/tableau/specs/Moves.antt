-- Moves: which steps fit one, and the two readings that a move gives.
use Rattle.std.specs.Prelude.{ℕ, Bool, cond, not, ◌&&◌, List, [], ◌∷◌, ◌==◌, bit_and}
use Rattle.std.specs.Bool.{beq}
use Rattle.temporal.specs.Formula.{Reading}
use Rattle.temporal.specs.Game.{value}

-- where a move leads: to the end, which is no number, or to a node
pub data Target : Type 0 where
  end : Target
  node : ℕ → Target

-- bit i of a mask is set if the move fixes variable i of that kind; bit i of the values is then what it fixes it to
pub record Move : Type 0 where
  pub env_mask : ℕ
  pub env_values : ℕ
  pub sys_mask : ℕ
  pub sys_values : ℕ
  pub target : Target

-- the input e agrees with what the move fixes
abbrev pub fits_env : ℕ → Move → Bool
fits_env e m = bit_and e m.env_mask == m.env_values

-- the reply s agrees with what the move fixes
abbrev pub fits_sys : ℕ → Move → Bool
fits_sys s m = bit_and s m.sys_mask == m.sys_values

-- counts a literal as true only if the move fixes it so
abbrev pub cautious : Move → Reading
cautious m s i = value m.env_mask m.sys_mask i && beq (value m.env_values m.sys_values i) s

-- counts a literal as false only if the move fixes the opposite
abbrev pub generous : Move → Reading
generous m s i = not (cautious m (not s) i)

-- a move that fixes nothing, where there is none
abbrev pub no_move : Move
no_move = record { env_mask = 0; env_values = 0; sys_mask = 0; sys_values = 0; target = end }

-- the first of the moves
abbrev pub first_move : List Move → Move
first_move [] = no_move
first_move (m ∷ ms) = m

-- the first of the moves that passes a test
abbrev pub first_fit : (Move → Bool) → List Move → Move
first_fit p [] = no_move
first_fit p (m ∷ ms) = cond (p m) m (first_fit p ms)
