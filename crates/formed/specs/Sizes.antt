-- The form of entries depends on how many variables a specification has, on how long the card's lists are, and on nothing else.
use Rattle.std.specs.Prelude.{◌≡◌, ℕ, Bool, false, ◌||◌, length, ◌==◌, nat_le}
use Rattle.temporal.specs.Formula.{bot}
use Rattle.temporal.specs.Game.{Spec}
use Rattle.tableau.specs.Card.{Entry, by_kind}
use Rattle.tableau.specs.Form.{constant_formed, literal_formed, pair_formed, next_formed, range_formed}
use Rattle.records.specs.Raw.{RawCard}
use Rattle.card.specs.declared.variables.Variables.{Variables}
use Rattle.card.specs.Variables.{HasVariables}
use Rattle.formed.specs.declared.form.Sizes.{Sizes}

-- a specification with so many variables
abbrev pub sized : Variables → Spec
sized v = record { environment = v.environment; system = v.system; initial = bot; safety = bot; third = bot }

-- the sizes are those of the specification and of the card
pub record HasSizes (spec : Spec) (c : RawCard) (sizes : Sizes) : Type 0 where
  pub variables : HasVariables spec sizes.variables
  pub formulas : sizes.formulas ≡ length c.formulas
  pub labels : sizes.labels ≡ length c.labels
  pub moves : sizes.moves ≡ length c.moves

-- the two parts of the form of a formula: its place, and the fields by its kind
abbrev pub place_formed : ℕ → Entry → Bool
place_formed i f = nat_le 2 i || f.kind == i

abbrev pub kind_formed : Spec → ℕ → Entry → Bool
kind_formed spec i f =
    by_kind f.kind (constant_formed f) (constant_formed f) (literal_formed spec f) (literal_formed spec f)
    (pair_formed i f) (pair_formed i f) (next_formed i f) (range_formed i f) (range_formed i f) false
