-- The tableau of an acceptable card keeps the conditions node by node, so the laws of open and closed tableaux are laws of cards.
use Rattle.std.proofs.Common.{◌≡◌, ℕ, zero, suc, ◌+◌, ◌<◌, ◌≤◌, List, ◌∷◌, map, length, refl, subst, arith}
use native.Mathlib.Decide.{ℕ_discrete}
use Rattle.temporal.specs.Formula.{Formula, bot, Fine}
use Rattle.temporal.specs.Parts.{◌∈◌, first, later}
use Rattle.temporal.specs.Game.{Spec}
use Rattle.tableau.specs.Lists.{span}
use Rattle.tableau.specs.Moves.{Target, end, node, Move}
use Rattle.tableau.specs.Met.{rests}
use Rattle.tableau.specs.Card.{Card, CardKind, opened, closed, kind_of, label_at, move_at, label_tree, label_of, moves_of}
use Rattle.tableau.specs.Conditions.{reading_of, obligations}
use Rattle.tableau.specs.Acceptable.{MoveOf, MoveFormed, CoversAll, RootKept, LabelKept, CoveringKept, TargetKept}
use Rattle.tableau.specs.Acceptable.{StepKept, Acceptable}
use Rattle.tableau.proofs.Trees.{good_list, trees_good}
use Rattle.tableau.proofs.Tableau.{tableau, label_in, IsNode, OpenMove, OpenTableau, ClosedStep, rests_by, ClosedNode}
use Rattle.tableau.proofs.Tableau.{ClosedTableau}

-- ── numbers in a row ──
-- what is mapped from numbers in a row stands at one of them
pub place_in : {A : Type 0} (f : ℕ → A) (n i : ℕ) {x : A} → x ∈ map f (span n i) → (k : ℕ) × ((i ≤ k) × (k < i + n)) × (f k ≡ x)
place_in f zero i m = elim m [ ]
place_in f (suc n) i first = (i, (omega arith, omega arith), refl)
place_in f (suc n) i (later m) = let r = place_in f n (suc i) m in (r.0, (omega arith, omega arith), r.2)

pub in_place : {A : Type 0} (f : ℕ → A) (n i k : ℕ) → (i ≤ k) × (k < i + n) → f k ∈ map f (span n i)
in_place f zero i k l = absurd (omega arith)
in_place {A} f (suc n) i k l = go (ℕ_discrete i k) (in_place f n (suc i) k)
  where
    go : Dec (i ≡ k) → ((suc i ≤ k) × (k < suc i + n) → f k ∈ map f (span n (suc i))) → f k ∈ (f i ∷ map f (span n (suc i)))
    go (yes e) ih = subst (λ (j : ℕ). f j ∈ (f i ∷ map f (span n (suc i)))) e first
    go (no d) ih = later (ih (omega arith, omega arith))

module _ (spec : Spec) (c : Card) (ok : Acceptable spec c) where
  abbrev N : ℕ
  N = length c.nodes

  pub label_fine : (n : ℕ) → n < N → (h : Formula) → h ∈ label_of c n → Fine spec.environment spec.system h
  label_fine n l h m =
      let r = place_in (label_tree c) _ _ m in
      let k : label_at c r.0 < length c.formulas = ok.labels r.0 (omega (arith, (ok.formed n l).labels)) in
      subst (Fine spec.environment spec.system) r.2 (trees_good spec c (good_list spec c ok) (label_at c r.0) k).0

  move_formed_lem : (n : ℕ) → n < N → (m : ℕ) → MoveOf c n m → MoveFormed spec (move_at c m)
  move_formed_lem n l m o = ok.moves m (omega (arith, (ok.formed n l).moves))

  -- what holds of the moves at a node's places holds of the node's moves
  by_place : (P : Move → Type 0) (n : ℕ) → ((m : ℕ) → MoveOf c n m → P (move_at c m)) → (m : Move) → m ∈ moves_of c n → P m
  by_place P n h m i = let r = place_in (move_at c) _ _ i in subst P r.2 (h r.0 r.1)

  abbrev rests_at : CardKind → ℕ → ℕ → List Formula
  rests_at k n m = rests (reading_of k (move_at c m)) (obligations spec c n)

  -- ── open ──
  target_inside : (n : ℕ) (g : Target) → TargetKept opened N n g → IsNode (tableau c) g
  target_inside n end t = t
  target_inside n (node k) t = t

  step_covers : (rs : List Formula) (g : Target) → StepKept opened c rs g → CoversAll (label_in (tableau c) g) rs
  step_covers rs end s = absurd s
  step_covers rs (node k) s = s

  module _ (w : kind_of c ≡ opened) where
    open_move : (n : ℕ) (l : n < N) (m : ℕ) → MoveOf c n m → OpenMove spec (tableau c) ((tableau c).at n) (move_at c m)
    open_move n l m o = record {
      formed = move_formed_lem n l m o;
      inside = target_inside n (move_at c m).target
          (subst (λ (k : CardKind). TargetKept k N n (move_at c m).target) w ((ok.nodes n l).targets m o));
      step = step_covers (rests_at opened n m) (move_at c m).target
          (subst (λ (k : CardKind). StepKept k c (rests_at k n m) (move_at c m).target) w ((ok.nodes n l).moved m o).step);
    }

    no_false : (n : ℕ) → n < N → bot ∈ label_of c n → ⊥
    no_false n l i =
        let r = place_in (label_tree c) _ _ i in
        subst (λ (k : CardKind). LabelKept k (label_tree c r.0)) w ((ok.nodes n l).labels r.0 r.1) r.2

    pub open_tableau : OpenTableau spec (tableau c)
    open_tableau = record {
      some = ok.a_node;
      root = subst (λ (k : CardKind). RootKept k spec (label_of c 0)) w ok.root;
      nodes = λ n l. record {
        fine = label_fine n l;
        no_false = no_false n l;
        split = subst (λ (k : CardKind). CoveringKept k spec (moves_of c n)) w (ok.nodes n l).covering;
        step = by_place (OpenMove spec (tableau c) ((tableau c).at n)) n (open_move n l);
      };
    }

  -- ── closed ──
  closed_step : (n : ℕ) (rs : List Formula) (g : Target) → TargetKept closed N n g → StepKept closed c rs g → ClosedStep (tableau c) n rs g
  closed_step n rs end t s = s
  closed_step n rs (node k) t s = (t.0, t.1, s)

  module _ (w : kind_of c ≡ closed) where
    closed_move : (n : ℕ) (l : n < N) (m : ℕ) → MoveOf c n m
        → ClosedStep (tableau c) n (rests_by spec ((tableau c).at n) (move_at c m)) (move_at c m).target
    closed_move n l m o =
        closed_step n (rests_at closed n m) (move_at c m).target
        (subst (λ (k : CardKind). TargetKept k N n (move_at c m).target) w ((ok.nodes n l).targets m o))
        (subst (λ (k : CardKind). StepKept k c (rests_at k n m) (move_at c m).target) w ((ok.nodes n l).moved m o).step)

    closed_node : (n : ℕ) → n < N → CoveringKept closed spec (moves_of c n) → ClosedNode spec (tableau c) n ((tableau c).at n)
    closed_node n l covering = record {
      formed = by_place (MoveFormed spec) n (move_formed_lem n l);
      input = covering.0;
      split = covering.1;
      step = by_place (λ m. ClosedStep (tableau c) n (rests_by spec ((tableau c).at n) m) m.target) n (closed_move n l);
    }

    pub closed_tableau : ClosedTableau spec (tableau c)
    closed_tableau = record {
      some = ok.a_node;
      root = subst (λ (k : CardKind). RootKept k spec (label_of c 0)) w ok.root;
      nodes = λ n l. closed_node n l (subst (λ (k : CardKind). CoveringKept k spec (moves_of c n)) w (ok.nodes n l).covering);
    }
