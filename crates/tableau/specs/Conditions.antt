-- The conditions of a card, each with its place; the test of each; the fault that each gives; and the order in which they are judged.
use Rattle.std.specs.Prelude.{ℕ, ◌^◌, Bool, true, false, not, ◌&&◌, ◌||◌, List, [], ◌∷◌, ◌++◌, map, length, ◌==◌, nat_eq, nat_le, nat_lt}
use Rattle.temporal.specs.Formula.{Formula, bot, Reading, same}
use Rattle.temporal.specs.Parts.{member, parts_of}
use Rattle.temporal.specs.Game.{Spec, allowed}
use Rattle.tableau.specs.Lists.{span, all, count, concat_map}
use Rattle.tableau.specs.Moves.{Target, end, node, Move, fits_env, fits_sys, cautious, generous}
use Rattle.tableau.specs.Cover.{held, covers}
use Rattle.tableau.specs.Met.{met, rests}
use Rattle.tableau.specs.Card.{Entry, Card, CardKind, opened, closed, kind_of, formula_at, label_at, node_at, move_at, trees, label_tree}
use Rattle.tableau.specs.Card.{label_places, move_places, label_of, moves_of}
use Rattle.tableau.specs.Form.{formula_formed, label_formed, node_formed, move_formed}

-- ── equal formulas ──
abbrev pub same_entry : Entry → Entry → Bool
same_entry f g =
    (f.kind == g.kind) && (f.variable == g.variable && (f.a == g.a && (f.b == g.b
    && (f.n == g.n && f.m == g.m))))

-- no entry before entry i equals it
abbrev pub is_new : Card → ℕ → Bool
is_new c i = all (λ j. not (same_entry (formula_at c j) (formula_at c i))) (span i 0)

-- ── listed formulas ──
-- the two constants, the initial and the safety formula, and all their parts
abbrev pub spec_formulas : Spec → List Formula
spec_formulas spec = parts_of spec.initial spec.safety

-- the card's list has all these formulas
abbrev pub listed : Card → List Formula → Bool
listed c fs = all (λ f. member f (trees c)) fs

-- ── the root: L is the label of node 0 ──
-- open: it covers the initial formula; closed: the initial formula alone covers all of it
abbrev pub keeps_root : CardKind → Spec → List Formula → Bool
keeps_root opened spec L = covers L spec.initial
keeps_root closed spec L = all (covers (spec.initial ∷ [])) L

-- ── labels: an open label has no false ──
abbrev pub keeps_label : CardKind → Formula → Bool
keeps_label opened f = not (same f bot)
keeps_label closed f = true

-- ── covering: ms are the moves of a node ──
abbrev pub permitted : Spec → ℕ → Bool
permitted spec e = nat_lt e (2 ^ spec.environment) && allowed spec e

abbrev pub same_input : Move → Move → Bool
same_input m k = m.env_mask == k.env_mask && m.env_values == k.env_values

-- open: each permitted input fits exactly one move; closed: all moves have the same input mask and values,
-- the input with those values, free variables false, is permitted, and each reply fits exactly one move
abbrev pub keeps_covering : CardKind → Spec → List Move → Bool
keeps_covering opened spec ms = all (λ e. not (allowed spec e) || count (fits_env e) ms == 1) (span (2 ^ spec.environment) 0)
keeps_covering closed spec ms =
    all (λ m. all (same_input m) ms && permitted spec m.env_values) ms
    && all (λ s. nat_eq (count (fits_sys s) ms) 1) (span (2 ^ spec.system) 0)

-- ── targets of node n in a card of so many nodes ──
-- open: a node; closed: the end, or a node above n
abbrev pub keeps_target : CardKind → ℕ → ℕ → Target → Bool
keeps_target opened nodes n end = false
keeps_target opened nodes n (node k) = nat_lt k nodes
keeps_target closed nodes n end = true
keeps_target closed nodes n (node k) = nat_lt n k && nat_lt k nodes

-- ── rests and steps: fs are the safety formula and the label of a node ──
-- rests are taken by the cautious reading of a move if the card is open, by the generous one if it is closed
abbrev pub reading_of : CardKind → Move → Reading
reading_of opened m = cautious m
reading_of closed m = generous m

abbrev pub keeps_rests : Card → Reading → List Formula → Bool
keeps_rests c R fs = all (λ f. listed c (met R f)) fs

-- rs are the rests. Open: the target's label covers them; closed: they cover the target's label, or hold false at the end
abbrev pub keeps_step : CardKind → Card → List Formula → Target → Bool
keeps_step opened c rs end = false
keeps_step opened c rs (node k) = all (covers (label_of c k)) rs
keeps_step closed c rs end = member bot (held rs)
keeps_step closed c rs (node k) = all (covers rs) (label_of c k)

-- ── all conditions ──
pub data Condition : Type 0 where
  formula_count : Condition
  label_count : Condition
  node_count : Condition
  move_count : Condition
  kind_known : Condition
  formula_form : ℕ → Condition
  label_form : ℕ → Condition
  node_form : ℕ → Condition
  move_form : ℕ → Condition
  new_formula : ℕ → Condition  -- formula entry
  spec_listed : Condition
  root_kept : Condition
  label_kept : ℕ → Condition  -- label entry
  covering_kept : ℕ → Condition  -- node
  target_kept : ℕ → ℕ → Condition  -- node, move
  rests_kept : ℕ → ℕ → Condition  -- node, move
  step_kept : ℕ → ℕ → Condition  -- node, move

-- the formulas whose rests a move of node n is judged by
abbrev pub obligations : Spec → Card → ℕ → List Formula
obligations spec c n = spec.safety ∷ label_of c n

-- is the condition kept?
abbrev pub kept : Spec → Card → Condition → Bool
kept spec c formula_count = nat_le 2 (length c.formulas) && nat_le (length c.formulas) 1024
kept spec c label_count = nat_le (length c.labels) 4096
kept spec c node_count = nat_le 1 (length c.nodes) && nat_le (length c.nodes) 1024
kept spec c move_count = nat_le 1 (length c.moves) && nat_le (length c.moves) 2048
kept spec c kind_known = c.kind == 1 || c.kind == 2
kept spec c (formula_form i) = formula_formed spec i (formula_at c i)
kept spec c (label_form i) = label_formed (length c.formulas) (label_at c i)
kept spec c (node_form i) = node_formed (length c.labels) (length c.moves) (node_at c i)
kept spec c (move_form i) = move_formed spec (move_at c i)
kept spec c (new_formula i) = is_new c i
kept spec c spec_listed = listed c (spec_formulas spec)
kept spec c root_kept = keeps_root (kind_of c) spec (label_of c 0)
kept spec c (label_kept l) = keeps_label (kind_of c) (label_tree c l)
kept spec c (covering_kept n) = keeps_covering (kind_of c) spec (moves_of c n)
kept spec c (target_kept n m) = keeps_target (kind_of c) (length c.nodes) n (move_at c m).target
kept spec c (rests_kept n m) = keeps_rests c (reading_of (kind_of c) (move_at c m)) (obligations spec c n)
kept spec c (step_kept n m) =
    keeps_step (kind_of c) c (rests (reading_of (kind_of c) (move_at c m)) (obligations spec c n)) (move_at c m).target

-- ── faults ──
-- the number of the refusal, the list (0 formulas, 1 labels, 2 nodes, 3 moves, 4 kind and counts), and the place in that list
pub record Fault : Type 0 where
  pub number : ℕ
  pub list : ℕ
  pub place : ℕ

abbrev pub fault_at : ℕ → ℕ → ℕ → Fault
fault_at number list place = record { number = number; list = list; place = place }

-- the fault of a condition that is not kept; the counts are fields 1, 3, 5 and 7 of a card file's trailer, the kind is field 8
abbrev pub fault : Condition → Fault
fault formula_count = fault_at 8 4 1
fault label_count = fault_at 8 4 3
fault node_count = fault_at 8 4 5
fault move_count = fault_at 8 4 7
fault kind_known = fault_at 8 4 8
fault (formula_form i) = fault_at 9 0 i
fault (label_form i) = fault_at 9 1 i
fault (node_form i) = fault_at 9 2 i
fault (move_form i) = fault_at 9 3 i
fault (new_formula i) = fault_at 10 0 i
fault spec_listed = fault_at 11 0 0
fault root_kept = fault_at 12 2 0
fault (label_kept l) = fault_at 13 1 l
fault (covering_kept n) = fault_at 14 2 n
fault (target_kept n m) = fault_at 15 3 m
fault (rests_kept n m) = fault_at 11 3 m
fault (step_kept n m) = fault_at 16 3 m

-- ── the order ──
-- counts and kind, the form of all entries list by list, equal formulas, the specification's formulas
abbrev pub before_root : Card → List Condition
before_root c =
    formula_count ∷ (label_count ∷ (node_count ∷ (move_count ∷ (kind_known ∷ (
    map formula_form (span (length c.formulas) 0) ++ (
    map label_form (span (length c.labels) 0) ++ (
    map node_form (span (length c.nodes) 0) ++ (
    map move_form (span (length c.moves) 0) ++ (
    map new_formula (span (length c.formulas) 0) ++ (
    spec_listed ∷ []))))))))))

abbrev pub at_root : List Condition
at_root = root_kept ∷ []

abbrev pub at_move : ℕ → ℕ → List Condition
at_move n m = rests_kept n m ∷ (step_kept n m ∷ [])

-- all labels of the node, its covering, the targets of all its moves, then move by move the rests and the step
abbrev pub at_node : Card → ℕ → List Condition
at_node c n =
    map label_kept (label_places c n)
    ++ (covering_kept n ∷ (map (target_kept n) (move_places c n) ++ concat_map (at_move n) (move_places c n)))

-- node by node, those never reached among them
abbrev pub at_nodes : Card → List Condition
at_nodes c = concat_map (at_node c) (span (length c.nodes) 0)

abbrev pub order : Card → List Condition
order c = before_root c ++ (at_root ++ at_nodes c)
