-- What the limits of counts and kind say of a card's first conditions.
use Rattle.std.proofs.Common.{◌≡◌, ℕ, Bool, true, false, cond, ◌||◌, eqb, length, None, Ok, Err, Option, Result, refl, ◌∙◌, arith}
use Rattle.temporal.specs.Game.{Spec}
use Rattle.tableau.specs.Conditions.{Fault, fault_at}
use Rattle.tableau.specs.Judge.{judged_by}
use Rattle.records.specs.Raw.{RawCard, model}
use Rattle.card.specs.Trailer.{refused_field}
use Rattle.card.specs.Limits.{formulas_right, labels_right, nodes_right, moves_right, kind_right, unless, wrong_count}
use Rattle.card.proofs.Model.{model_formulas, model_nodes, model_moves}
use Rattle.judged.specs.Judged.{judgment}
use Rattle.formed.specs.Conditions.{count_conditions}

-- kinds 1 and 2 are the kinds from 1 to 2
pub kind_limits : (k : ℕ) → (eqb k 1 || eqb k 2) ≡ kind_right k
kind_limits k = grind arith

-- the judge's answer for a wrong field, or for none
abbrev answer : Option ℕ → Result (Unit {0}) Fault
answer o = judgment (refused_field o)

tested : Bool → Bool → Bool → Bool → Bool → Result (Unit {0}) Fault
tested f l n m k =
    cond f (cond l (cond n (cond m (cond k (Ok tt) (Err (fault_at 8 4 8))) (Err (fault_at 8 4 7))) (Err (fault_at 8 4 5))) (Err (fault_at 8 4 3)))
    (Err (fault_at 8 4 1))

first_wrong : (f l n m k : Bool) → tested f l n m k ≡ answer (unless f 1 (unless l 3 (unless n 5 (unless m 7 (unless k 8 None)))))
unfolding tested
first_wrong false l n m k = refl
first_wrong true false n m k = refl
first_wrong true true false m k = refl
first_wrong true true true false k = refl
first_wrong true true true true false = refl
first_wrong true true true true true = refl

counts_judged : (spec : Spec) (c : RawCard) → judged_by spec (model c) count_conditions ≡ answer (wrong_count c)
unfolding tested
counts_judged spec c =
    (λ i. tested (formulas_right (model_formulas c i)) (labels_right (length c.labels)) (nodes_right (model_nodes c i))
    (moves_right (model_moves c i)) (kind_limits c.kind i))
    ∙ first_wrong (formulas_right (length c.formulas)) (labels_right (length c.labels)) (nodes_right (length c.nodes))
    (moves_right (length c.moves)) (kind_right c.kind)
