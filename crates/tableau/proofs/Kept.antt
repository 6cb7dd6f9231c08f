-- Each test of a condition tells whether the condition is kept.
use Rattle.std.proofs.Common.{◌≡◌, ℕ, ◌+◌, ◌^◌, true, not, ◌&&◌, ◌||◌, eqb, ltb, leb, List, [], ◌∷◌, length, ap}
use lib.Bits.{bit_and}
use Rattle.temporal.specs.Formula.{Formula, bot, Reading, same}
use Rattle.temporal.specs.Parts.{◌∈◌, member}
use Rattle.temporal.specs.Game.{Spec, allowed, Permitted}
use Rattle.temporal.proofs.Tells.{Tells, and_tells, or_tells, if_tells, not_tells, by_tells, eq_tells, lt_tells, le_tells, self_tells}
use Rattle.temporal.proofs.Same.{same_tells, member_tells}
use Rattle.tableau.specs.Lists.{span, all, count}
use Rattle.tableau.specs.Moves.{Target, end, node, Move, fits_env, fits_sys}
use Rattle.tableau.specs.Cover.{held, covers}
use Rattle.tableau.specs.Met.{met, rests}
use Rattle.tableau.specs.Card.{Entry, Node, Card, CardKind, opened, closed, kind_of, formula_at, node_at, move_at, trees, label_tree}
use Rattle.tableau.specs.Card.{label_of, moves_of}
use Rattle.tableau.specs.Form.{formula_formed, node_formed, move_formed}
use Rattle.tableau.specs.Conditions.{same_entry, is_new, spec_formulas, listed, keeps_root, keeps_label, permitted, same_input, keeps_covering}
use Rattle.tableau.specs.Conditions.{keeps_target, reading_of, keeps_rests, keeps_step, obligations, Condition, formula_count, label_count}
use Rattle.tableau.specs.Conditions.{node_count, move_count, kind_known, formula_form, label_form, node_form, move_form, new_formula}
use Rattle.tableau.specs.Conditions.{spec_listed, root_kept, label_kept, covering_kept, target_kept, rests_kept, step_kept, kept}
use Rattle.tableau.specs.Acceptable.{NodeFormed, MoveFormed, IsNew, Listed, CoversAll, RootKept, LabelKept, SameInput, InputsSplit}
use Rattle.tableau.specs.Acceptable.{RepliesSplit, OneInput, CoveringKept, TargetKept, RestsKept, StepKept, Kept}
use Rattle.tableau.proofs.Tests.{always_tells, never_tells, all_tells, below_tells}

node_tells : (c : Card) (x : Node) → Tells (node_formed (length c.labels) (length c.moves) x) (NodeFormed c x)
node_tells c x =
    by_tells (node_formed (length c.labels) (length c.moves) x)
    (and_tells (leb (x.first_label + x.label_count) (length c.labels)) _ (le_tells _ _)
    (and_tells (leb (x.first_move + x.move_count) (length c.moves)) _ (le_tells _ _) (le_tells _ _)))
    (λ r. record { labels = r.0; moves = r.1.0; some = r.1.1 }) (λ r. (r.labels, (r.moves, r.some)))

move_tells : (spec : Spec) (m : Move) → Tells (move_formed spec m) (MoveFormed spec m)
move_tells spec m =
    by_tells (move_formed spec m)
    (and_tells (eqb (bit_and m.env_values m.env_mask) m.env_values) _ (eq_tells _ _)
    (and_tells (eqb (bit_and m.sys_values m.sys_mask) m.sys_values) _ (eq_tells _ _)
    (and_tells (ltb m.env_mask (2 ^ spec.environment)) _ (lt_tells _ _) (lt_tells _ _))))
    (λ r. record { env = r.0; sys = r.1.0; env_mask = r.1.1.0; sys_mask = r.1.1.1 })
    (λ r. (r.env, (r.sys, (r.env_mask, r.sys_mask))))

pub entry_tells : (f g : Entry) → Tells (same_entry f g) (f ≡ g)
entry_tells f g =
    by_tells (same_entry f g)
    (and_tells (eqb f.kind g.kind) _ (eq_tells _ _) (and_tells (eqb f.variable g.variable) _ (eq_tells _ _)
    (and_tells (eqb f.a g.a) _ (eq_tells _ _) (and_tells (eqb f.b g.b) _ (eq_tells _ _)
    (and_tells (eqb f.n g.n) _ (eq_tells _ _) (eq_tells _ _))))))
    (λ r. λ i. record {
      kind = r.0 i;
      variable = r.1.0 i;
      a = r.1.1.0 i;
      b = r.1.1.1.0 i;
      n = r.1.1.1.1.0 i;
      m = r.1.1.1.1.1 i;
    })
    (λ e. (
      ap (λ (h : Entry). h.kind) e,
      (
        ap (λ (h : Entry). h.variable) e,
        (
          ap (λ (h : Entry). h.a) e,
          (ap (λ (h : Entry). h.b) e, (ap (λ (h : Entry). h.n) e, ap (λ (h : Entry). h.m) e)),
        ),
      ),
    ))

new_tells : (c : Card) (i : ℕ) → Tells (is_new c i) (IsNew c i)
new_tells c i =
    below_tells (λ j. not (same_entry (formula_at c j) (formula_at c i))) (λ j. formula_at c j ≡ formula_at c i → ⊥)
    (λ j. not_tells (same_entry (formula_at c j) (formula_at c i)) (entry_tells (formula_at c j) (formula_at c i))) i

listed_tells : (c : Card) (fs : List Formula) → Tells (listed c fs) (Listed c fs)
listed_tells c fs = all_tells (λ f. member f (trees c)) (λ f. f ∈ trees c) (λ f. member_tells f (trees c)) fs

covers_tells : (S fs : List Formula) → Tells (all (covers S) fs) (CoversAll S fs)
covers_tells S fs = all_tells (covers S) (λ f. covers S f ≡ true) (λ f. self_tells (covers S f)) fs

root_tells : (k : CardKind) (spec : Spec) (L : List Formula) → Tells (keeps_root k spec L) (RootKept k spec L)
root_tells opened spec L = self_tells (covers L spec.initial)
root_tells closed spec L = covers_tells (spec.initial ∷ []) L

label_tells : (k : CardKind) (f : Formula) → Tells (keeps_label k f) (LabelKept k f)
label_tells opened f = not_tells (same f bot) (same_tells f bot)
label_tells closed f = always_tells

permitted_tells : (spec : Spec) (e : ℕ) → Tells (permitted spec e) (Permitted spec e)
permitted_tells spec e =
    and_tells (ltb e (2 ^ spec.environment)) (allowed spec e) (lt_tells _ _) (self_tells (allowed spec e))

inputs_tells : (spec : Spec) (ms : List Move)
    → Tells (all (λ e. not (allowed spec e) || eqb (count (fits_env e) ms) 1) (span (2 ^ spec.environment) 0)) (InputsSplit spec ms)
inputs_tells spec ms =
    by_tells _
    (below_tells (λ e. not (allowed spec e) || eqb (count (fits_env e) ms) 1) (λ e. allowed spec e ≡ true → count (fits_env e) ms ≡ 1)
    (λ e. if_tells (allowed spec e) (eqb (count (fits_env e) ms) 1) (eq_tells _ _)) (2 ^ spec.environment))
    (λ f e p. f e p.0 p.1) (λ f e l a. f e (l, a))

input_tells : (spec : Spec) (ms : List Move)
    → Tells (all (λ m. all (same_input m) ms && permitted spec m.env_values) ms) (OneInput spec ms)
input_tells spec ms =
    all_tells (λ m. all (same_input m) ms && permitted spec m.env_values)
    (λ m. ((k : Move) → k ∈ ms → SameInput m k) × Permitted spec m.env_values)
    (λ m. and_tells (all (same_input m) ms) (permitted spec m.env_values)
    (all_tells (same_input m) (SameInput m)
    (λ k. and_tells (eqb m.env_mask k.env_mask) (eqb m.env_values k.env_values) (eq_tells _ _) (eq_tells _ _)) ms)
    (permitted_tells spec m.env_values)) ms

replies_tells : (spec : Spec) (ms : List Move)
    → Tells (all (λ s. eqb (count (fits_sys s) ms) 1) (span (2 ^ spec.system) 0)) (RepliesSplit spec ms)
replies_tells spec ms =
    below_tells (λ s. eqb (count (fits_sys s) ms) 1) (λ s. count (fits_sys s) ms ≡ 1) (λ s. eq_tells _ _) (2 ^ spec.system)

covering_tells : (k : CardKind) (spec : Spec) (ms : List Move) → Tells (keeps_covering k spec ms) (CoveringKept k spec ms)
covering_tells opened spec ms = inputs_tells spec ms
covering_tells closed spec ms =
    and_tells (all (λ m. all (same_input m) ms && permitted spec m.env_values) ms) _ (input_tells spec ms) (replies_tells spec ms)

target_tells : (k : CardKind) (nodes n : ℕ) (g : Target) → Tells (keeps_target k nodes n g) (TargetKept k nodes n g)
target_tells opened nodes n end = never_tells
target_tells opened nodes n (node k) = lt_tells k nodes
target_tells closed nodes n end = always_tells
target_tells closed nodes n (node k) = and_tells (ltb n k) (ltb k nodes) (lt_tells n k) (lt_tells k nodes)

rests_tells : (c : Card) (R : Reading) (fs : List Formula) → Tells (keeps_rests c R fs) (RestsKept c R fs)
rests_tells c R fs = all_tells (λ f. listed c (met R f)) (λ f. Listed c (met R f)) (λ f. listed_tells c (met R f)) fs

step_tells : (k : CardKind) (c : Card) (rs : List Formula) (g : Target) → Tells (keeps_step k c rs g) (StepKept k c rs g)
step_tells opened c rs end = never_tells
step_tells opened c rs (node k) = covers_tells (label_of c k) rs
step_tells closed c rs end = member_tells bot (held rs)
step_tells closed c rs (node k) = covers_tells rs (label_of c k)

pub kept_tells : (spec : Spec) (c : Card) (x : Condition) → Tells (kept spec c x) (Kept spec c x)
kept_tells spec c formula_count = and_tells (leb 2 (length c.formulas)) _ (le_tells _ _) (le_tells _ _)
kept_tells spec c label_count = le_tells _ _
kept_tells spec c node_count = and_tells (leb 1 (length c.nodes)) _ (le_tells _ _) (le_tells _ _)
kept_tells spec c move_count = and_tells (leb 1 (length c.moves)) _ (le_tells _ _) (le_tells _ _)
kept_tells spec c kind_known = or_tells (eqb c.kind 1) (eqb c.kind 2) (eq_tells _ _) (eq_tells _ _)
kept_tells spec c (formula_form i) = self_tells (formula_formed spec i (formula_at c i))
kept_tells spec c (label_form i) = lt_tells _ _
kept_tells spec c (node_form i) = node_tells c (node_at c i)
kept_tells spec c (move_form i) = move_tells spec (move_at c i)
kept_tells spec c (new_formula i) = new_tells c i
kept_tells spec c spec_listed = listed_tells c (spec_formulas spec)
kept_tells spec c root_kept = root_tells (kind_of c) spec (label_of c 0)
kept_tells spec c (label_kept l) = label_tells (kind_of c) (label_tree c l)
kept_tells spec c (covering_kept n) = covering_tells (kind_of c) spec (moves_of c n)
kept_tells spec c (target_kept n m) = target_tells (kind_of c) (length c.nodes) n (move_at c m).target
kept_tells spec c (rests_kept n m) = rests_tells c (reading_of (kind_of c) (move_at c m)) (obligations spec c n)
kept_tells spec c (step_kept n m) =
    step_tells (kind_of c) c (rests (reading_of (kind_of c) (move_at c m)) (obligations spec c n)) (move_at c m).target
