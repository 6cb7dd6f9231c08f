-- What it is to decide whether the moves of a node cover.
use Rattle.std.specs.Prelude.{◌≡◌, ℕ, ◌+◌, ◌^◌, ◌<◌, ◌≤◌, Bool, true, List, map, length, nat_eq}
use Rattle.temporal.specs.Formula.{top}
use Rattle.temporal.specs.Game.{Spec}
use Rattle.tableau.specs.Lists.{span, all, count}
use Rattle.tableau.specs.Moves.{Move}
use Rattle.tableau.specs.Card.{kind_of, move_at}
use Rattle.tableau.specs.Form.{move_formed}
use Rattle.tableau.specs.Conditions.{same_input, keeps_covering}
use Rattle.records.specs.declared.NodeRecord.{NodeRecord}
use Rattle.records.specs.Raw.{RawCard, model}
use Rattle.card.specs.declared.variables.Variables.{Variables}
use Rattle.card.specs.Variables.{HasVariables}
use Rattle.coverings.specs.declared.cube.Side.{Side}
use Rattle.coverings.specs.Cubes.{agrees, Formed, cube_of}

-- the moves of a node
abbrev pub moves_from : RawCard → NodeRecord → List Move
moves_from c x = map (move_at (model c)) (span x.move_count x.first_move)

-- each valuation of n variables agrees with exactly one of the moves
abbrev pub once : Side → ℕ → List Move → Bool
once side n ms = all (λ v. nat_eq (count (λ m. agrees v (cube_of side m)) ms) 1) (span (2 ^ n) 0)

-- at most 16 variables, and moves that fix only such
pub record Cubes (side : Side) (c : RawCard) (n : ℕ) : Type 0 where
  pub few : n ≤ 16
  pub formed : (m : ℕ) → Formed n (cube_of side (move_at (model c) m))

abbrev pub DecidesOnce : Side → RawCard → ℕ → NodeRecord → Bool → Type 0
DecidesOnce side c n x r = Cubes side c n → r ≡ once side n (moves_from c x)

-- the moves have the input of the first
abbrev pub alike : RawCard → NodeRecord → Bool
alike c x = all (same_input (move_at (model c) x.first_move)) (moves_from c x)

-- what is known when coverings are judged
pub record Ready (c : RawCard) (spec : Spec) (variables : Variables) (x : NodeRecord) : Type 0 where
  pub sizes : HasVariables spec variables
  pub few_inputs : variables.environment ≤ 16
  pub few_replies : variables.system ≤ 16
  pub unconstrained : spec.third ≡ top
  pub moves : (m : ℕ) → m < length c.moves → move_formed spec (move_at (model c) m) ≡ true
  pub inside : x.first_move + x.move_count ≤ length c.moves

abbrev pub DecidesCovering : RawCard → Variables → NodeRecord → Bool → Type 0
DecidesCovering c variables x r =
    (spec : Spec) → Ready c spec variables x → r ≡ keeps_covering (kind_of (model c)) spec (moves_from c x)
