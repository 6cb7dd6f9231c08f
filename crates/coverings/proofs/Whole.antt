-- The covering of a node by its parts: exactly one move for each valuation, and one input on a closed card.
use Rattle.std.proofs.Common.{◌≡◌, ℕ, ◌^◌, ◌<◌, ◌≤◌, Bool, true, not, ◌&&◌, ◌||◌, eqb, ltb, List, map, length, sym, refl, ap, ◌∙◌, subst, inl, inr, arith, pow_pos, ltb-true, lt-ltb, eq-eqb, eqb-true}
use lib.Bits.{bit_and, and_le_r}
use lib.ListN.{length-map, get_or-eq_default}
use Rattle.std.proofs.lemmas.Bool.{cases_lt}
use Rattle.temporal.specs.Formula.{holds}
use Rattle.temporal.specs.Parts.{◌∈◌}
use Rattle.temporal.specs.Game.{Spec, allowed, reading}
use Rattle.temporal.proofs.Truth.{and_out, and_in, both_ways}
use Rattle.temporal.proofs.Tells.{Tells, self_tells}
use Rattle.tableau.specs.Lists.{span, all, count}
use Rattle.tableau.specs.Moves.{Move, no_move, fits_env, fits_sys}
use Rattle.tableau.specs.Card.{opened, closed, kind_of, move_at}
use Rattle.tableau.specs.Form.{move_formed}
use Rattle.tableau.specs.Conditions.{permitted, same_input, keeps_covering}
use Rattle.tableau.proofs.Tests.{all_tells}
use Rattle.tableau.proofs.Joined.{place_in, in_place}
use Rattle.records.specs.declared.NodeRecord.{NodeRecord}
use Rattle.records.specs.Raw.{RawCard, move_of, model}
use Rattle.card.specs.declared.variables.Variables.{Variables}
use Rattle.coverings.specs.declared.cube.Side.{Side}
use Rattle.coverings.specs.declared.cube.Side.TheVariants.{Environment, System}
use Rattle.coverings.specs.Cubes.{Formed, cube_of}
use Rattle.coverings.specs.Coverings.{moves_from, once, Cubes, alike, Ready}

-- a move in form, as its two cubes
module _ (spec : Spec) (m : Move) (ok : move_formed spec m ≡ true) where
  abbrev env_inside : Bool
  env_inside = eqb (bit_and m.env_values m.env_mask) m.env_values

  abbrev sys_inside : Bool
  sys_inside = eqb (bit_and m.sys_values m.sys_mask) m.sys_values

  abbrev env_below : Bool
  env_below = ltb m.env_mask (2 ^ spec.environment)

  abbrev sys_below : Bool
  sys_below = ltb m.sys_mask (2 ^ spec.system)

  formed_environment : Formed spec.environment (cube_of Environment m)
  formed_environment =
      let a = and_out env_inside (sys_inside && (env_below && sys_below)) ok in
      let b = and_out sys_inside (env_below && sys_below) a.1 in
      let d = and_out env_below sys_below b.1 in
      record { inside = eqb-true _ _ a.0; below = ltb-true m.env_mask (2 ^ spec.environment) d.0 }

  formed_system : Formed spec.system (cube_of System m)
  formed_system =
      let a = and_out env_inside (sys_inside && (env_below && sys_below)) ok in
      let b = and_out sys_inside (env_below && sys_below) a.1 in
      let d = and_out env_below sys_below b.1 in
      record { inside = eqb-true _ _ b.0; below = ltb-true m.sys_mask (2 ^ spec.system) d.1 }

formed_none : (side : Side) (n : ℕ) → Formed n (cube_of side no_move)
formed_none Environment n = record { inside = refl; below = pow_pos n }
formed_none System n = record { inside = refl; below = pow_pos n }

module _ (c : RawCard) (spec : Spec) (variables : Variables) (x : NodeRecord) (ready : Ready c spec variables x) where
  -- ── the cubes ──
  past : (m : ℕ) → length c.moves ≤ m → move_at (model c) m ≡ no_move
  past m l =
      get_or-eq_default (map move_of c.moves) no_move
      (subst (λ (n : ℕ). n ≤ m) (sym (length-map c.moves move_of)) l)

  each_environment : (m : ℕ) → Formed variables.environment (cube_of Environment (move_at (model c) m))
  each_environment m = elim (cases_lt m (length c.moves)) [
    | inl l ↦ subst (λ (n : ℕ). Formed n (cube_of Environment (move_at (model c) m))) ready.sizes.0
        (formed_environment spec (move_at (model c) m) (ready.moves m l))
    | inr l ↦ subst (λ (y : Move). Formed variables.environment (cube_of Environment y)) (sym (past m l)) (formed_none Environment variables.environment)
  ]

  each_system : (m : ℕ) → Formed variables.system (cube_of System (move_at (model c) m))
  each_system m = elim (cases_lt m (length c.moves)) [
    | inl l ↦ subst (λ (n : ℕ). Formed n (cube_of System (move_at (model c) m))) ready.sizes.1
        (formed_system spec (move_at (model c) m) (ready.moves m l))
    | inr l ↦ subst (λ (y : Move). Formed variables.system (cube_of System y)) (sym (past m l)) (formed_none System variables.system)
  ]

  pub inputs : Cubes Environment c variables.environment
  inputs = record { few = ready.few_inputs; formed = each_environment }

  pub replies : Cubes System c variables.system
  replies = record { few = ready.few_replies; formed = each_system }

  abbrev ms : List Move
  ms = moves_from c x

  -- ── open cards ──
  pub open_kept : opened ≡ kind_of (model c) → once Environment variables.environment ms ≡ keeps_covering (kind_of (model c)) spec ms
  open_kept e =
      sym (ap (λ k. keeps_covering k spec ms) (sym e)
      ∙ (λ j. all (λ v. not (holds (λ k. reading (record { env = v; sys = 0 })) (ready.unconstrained j)) || eqb (count (fits_env v) ms) 1)
      (span (2 ^ ready.sizes.0 j) 0)))

  -- ── closed cards ──
  abbrev first : Move
  first = move_at (model c) x.first_move

  -- the input of each move is permitted
  input_permitted : (m : Move) → m ∈ ms → permitted spec m.env_values ≡ true
  input_permitted m i =
      and_in (ltb m.env_values (2 ^ spec.environment)) (allowed spec m.env_values)
      (lt-ltb m.env_values (2 ^ spec.environment) below)
      (ap (holds (λ k. reading (record { env = m.env_values; sys = 0 }))) ready.unconstrained)
    where
      below : m.env_values < 2 ^ spec.environment
      below =
          let p = place_in (move_at (model c)) x.move_count x.first_move i in
          let f = subst (λ (y : Move). Formed variables.environment (cube_of Environment y)) p.2 (each_environment p.0) in
          let l = and_le_r m.env_values m.env_mask in
          let e = ap (λ (n : ℕ). 2 ^ n) ready.sizes.0 in
          omega (arith, f.inside, f.below)

  same_parts : (m k : Move) → same_input m k ≡ true → (m.env_mask ≡ k.env_mask) × (m.env_values ≡ k.env_values)
  same_parts m k h =
      let r = and_out (eqb m.env_mask k.env_mask) (eqb m.env_values k.env_values) h in
      (eqb-true m.env_mask k.env_mask r.0, eqb-true m.env_values k.env_values r.1)

  like : (m k : Move) → same_input first m ≡ true → same_input first k ≡ true → same_input m k ≡ true
  like m k p q =
      let a = same_parts first m p in
      let b = same_parts first k q in
      and_in (eqb m.env_mask k.env_mask) (eqb m.env_values k.env_values)
      (eq-eqb m.env_mask k.env_mask (sym a.0 ∙ b.0)) (eq-eqb m.env_values k.env_values (sym a.1 ∙ b.1))

  all_in : (p : Move → Bool) (ys : List Move) → Tells (all p ys) ((m : Move) → m ∈ ys → p m ≡ true)
  all_in p ys = all_tells p (λ m. p m ≡ true) (λ m. self_tells (p m)) ys

  abbrev one_input : Move → Bool
  one_input m = all (same_input m) ms && permitted spec m.env_values

  -- one input for all, by comparing with the first move
  one_input_alike : alike c x ≡ all one_input ms
  one_input_alike = both_ways (alike c x) (all one_input ms) to from
    where
      to : alike c x ≡ true → all one_input ms ≡ true
      to h =
          let f = (all_in (same_input first) ms).0 h in
          (all_in one_input ms).1 (λ m i. and_in (all (same_input m) ms) (permitted spec m.env_values)
          ((all_in (same_input m) ms).1 (λ k j. like m k (f m i) (f k j))) (input_permitted m i))

      from : all one_input ms ≡ true → alike c x ≡ true
      from h =
          let f = (all_in one_input ms).0 h in
          (all_in (same_input first) ms).1 (λ m i.
          let p = place_in (move_at (model c)) x.move_count x.first_move i in
          let o = f first (in_place (move_at (model c)) x.move_count x.first_move x.first_move (omega arith, omega arith)) in
          let r = and_out (all (same_input first) ms) (permitted spec first.env_values) o in
          (all_in (same_input first) ms).0 r.0 m i)

  pub closed_kept : closed ≡ kind_of (model c) → (alike c x && once System variables.system ms) ≡ keeps_covering (kind_of (model c)) spec ms
  closed_kept e =
      (λ j. one_input_alike j && all (λ v. eqb (count (fits_sys v) ms) 1) (span (2 ^ sym ready.sizes.1 j) 0))
      ∙ ap (λ k. keeps_covering k spec ms) e
