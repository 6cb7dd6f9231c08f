-- Every well-formed specification has an acceptable card.
use Rattle.std.proofs.Common.{◌≡◌, ℕ, ◌<◌, ◌≤◌, max, Bool, ◌⊎◌, List, [], ◌∷◌, length, get_or, sym, refl, subst, inl, inr, arith, pow_pos}
use Rattle.temporal.specs.Formula.{Formula, bot, top, rest}
use Rattle.temporal.specs.Parts.{◌∈◌, first, later}
use Rattle.temporal.specs.Game.{Spec, WellFormed}
use Rattle.temporal.proofs.Lists.{at_member, place, in_cons, cast, one_member}
use Rattle.temporal.proofs.Parts.{constants, parts_only}
use Rattle.tableau.specs.Lists.{count}
use Rattle.tableau.specs.Moves.{Target, end, node, Move}
use Rattle.tableau.specs.Met.{rests}
use Rattle.tableau.specs.Card.{Entry, Card, CardKind, opened, closed, kind_of, label_at, node_at, move_at, trees, label_tree, label_of}
use Rattle.tableau.specs.Card.{moves_of}
use Rattle.tableau.specs.Conditions.{spec_formulas, reading_of, obligations}
use Rattle.tableau.specs.Acceptable.{LabelOf, MoveOf, NodeFormed, MoveFormed, CoversAll, RootKept, LabelKept, CoveringKept, TargetKept}
use Rattle.tableau.specs.Acceptable.{RestsKept, StepKept, NodeKept, Acceptable, AcceptableOpen, AcceptableClosed}
use Rattle.tableau.specs.Forces.{Forces}
use Rattle.tableau.proofs.Trees.{length_trees}
use Rattle.tableau.proofs.Joined.{place_in, in_place}
use Rattle.tableau.proofs.Tableau.{Vertex, tableau, nowhere, drawing, Rising, IsNode, label_in, OpenTableau, ClosedStep}
use Rattle.tableau.proofs.Tableau.{ClosedTableau}
use Rattle.tableau.proofs.Weight.{weight, Light, light_rest, light_met, light_part}
use Rattle.tableau.proofs.Table.{Built, table}
use Rattle.tableau.proofs.Board.{Universe, board}
use Rattle.tableau.proofs.DrawOpen.{open_or_forced}
use Rattle.tableau.proofs.DrawClosed.{forced}
use Rattle.tableau.proofs.Numbers.{card, card_size, card_tableau, labels_formed, nodes_formed, move_from}

-- ── a card whose tableau keeps the conditions keeps them at its places ──
module _ (spec : Spec) (c : Card) (k : CardKind) (w : kind_of c ≡ k)
    (listed : (n : ℕ) → n < length c.nodes → (m : ℕ) → MoveOf c n m
    → RestsKept c (reading_of (kind_of c) (move_at c m)) (obligations spec c n)) where
  abbrev N : ℕ
  N = length c.nodes

  abbrev rests_at : CardKind → ℕ → ℕ → List Formula
  rests_at k n m = rests (reading_of k (move_at c m)) (obligations spec c n)

  node_kept : (n : ℕ) → n < N
      → ((l : ℕ) → LabelOf c n l → LabelKept k (label_tree c l))
      → CoveringKept k spec (moves_of c n)
      → ((m : ℕ) → MoveOf c n m → TargetKept k N n (move_at c m).target × StepKept k c (rests_at k n m) (move_at c m).target)
      → NodeKept spec c n
  node_kept n l labels covering moves = record {
    labels = λ i o. subst (λ (k : CardKind). LabelKept k (label_tree c i)) (sym w) (labels i o);
    covering = subst (λ (k : CardKind). CoveringKept k spec (moves_of c n)) (sym w) covering;
    targets = λ m o. subst (λ (k : CardKind). TargetKept k N n (move_at c m).target) (sym w) (moves m o).0;
    moved = λ m o. record {
      rested = listed n l m o;
      step = subst (λ (k : CardKind). StepKept k c (rests_at k n m) (move_at c m).target) (sym w) (moves m o).1;
    };
  }

module _ (spec : Spec) (c : Card) where
  open_targets : (n : ℕ) (rs : List Formula) (g : Target) → IsNode (tableau c) g → CoversAll (label_in (tableau c) g) rs
      → TargetKept opened (length c.nodes) n g × StepKept opened c rs g
  open_targets n rs end i s = absurd i
  open_targets n rs (node k) i s = (i, s)

  closed_targets : (n : ℕ) (rs : List Formula) (g : Target) → ClosedStep (tableau c) n rs g
      → TargetKept closed (length c.nodes) n g × StepKept closed c rs g
  closed_targets n rs end s = (tt, s)
  closed_targets n rs (node k) s = ((s.0, s.1), s.2)

  abbrev RestsListed : Type 0
  RestsListed = (n : ℕ) → n < length c.nodes → (m : ℕ) → MoveOf c n m
      → RestsKept c (reading_of (kind_of c) (move_at c m)) (obligations spec c n)

  open_kept : kind_of c ≡ opened → RestsListed → OpenTableau spec (tableau c) → (n : ℕ) → n < length c.nodes → NodeKept spec c n
  open_kept w listed T n l =
      let x = T.nodes n l in
      node_kept spec c opened w listed n l
      (λ i o e. x.no_false (cast e (in_place (label_tree c) _ _ i o))) x.split
      (λ m o. let s = x.step (move_at c m) (in_place (move_at c) _ _ m o) in
      open_targets n (rests_at spec c opened w listed opened n m) (move_at c m).target s.inside s.step)

  closed_kept : kind_of c ≡ closed → RestsListed → ClosedTableau spec (tableau c) → (n : ℕ) → n < length c.nodes → NodeKept spec c n
  closed_kept w listed T n l =
      let x = T.nodes n l in
      node_kept spec c closed w listed n l (λ i o. tt) (x.input, x.split)
      (λ m o. closed_targets n (rests_at spec c closed w listed closed n m) (move_at c m).target
      (x.step (move_at c m) (in_place (move_at c) _ _ m o)))

-- ── the card of a drawing over all light formulas ──
module _ (spec : Spec) (w : WellFormed spec) where
  heaviest : ℕ
  heaviest = max (weight spec.initial) (weight spec.safety)

  abbrev Lt : Formula → Type 0
  Lt f = Light spec.environment spec.system heaviest f

  abbrev all_light : (es : List Entry) × (fs : List Formula) × Built spec heaviest es fs × ((g : Formula) → Lt g → g ∈ fs)
  all_light = table spec heaviest

  entries : List Entry
  entries = all_light.0

  U : List Formula
  U = all_light.1

  built : Built spec heaviest entries U
  unfolding entries U
  built = all_light.2

  has : (g : Formula) → Lt g → g ∈ U
  unfolding U
  has = all_light.3

  initial_light : Lt spec.initial
  unfolding heaviest
  initial_light = (w.initial, omega arith)

  safety_light : Lt spec.safety
  unfolding heaviest
  safety_light = (w.safety, omega arith)

  universe : Universe spec U
  universe = record {
    fine = λ h m. (built.light h m).0;
    has_initial = has spec.initial initial_light;
    has_safety = has spec.safety safety_light;
    has_bot = has bot (tt, omega arith);
    closed = λ R h m. has (rest R h) (light_rest spec.environment spec.system heaviest R h (built.light h m));
  }

  parts_light : (g : Formula) → g ∈ spec_formulas spec → Lt g
  parts_light g m = elim (parts_only spec.initial spec.safety g m) [
    | inl j ↦ constant_light g j
    | inr (inl p) ↦ light_part spec.environment spec.system heaviest spec.initial initial_light g p
    | inr (inr p) ↦ light_part spec.environment spec.system heaviest spec.safety safety_light g p
  ]
    where
      constant_light : (g : Formula) → g ∈ constants → Lt g
      constant_light g first = (tt, omega arith)
      constant_light g (later m) = one_member top Lt (tt, omega arith) g m

  module _ (kind : ℕ) (vs : List Vertex) (all : Rising U vs) where
    abbrev c : Card
    c = card kind entries U built.same vs all

    in_trees : (g : Formula) → Lt g → g ∈ trees c
    in_trees g l = subst (λ (fs : List Formula). g ∈ fs) (sym built.same) (has g l)

    trees_light : (g : Formula) → g ∈ trees c → Lt g
    trees_light g m = built.light g (subst (λ (fs : List Formula). g ∈ fs) built.same m)

    label_number : (i : ℕ) → i < length c.labels → label_at c i < length entries
    label_number i l = subst (λ (n : ℕ). label_at c i < n) built.size (labels_formed kind entries U built.same vs all i l)

    module _ (formed : (n : ℕ) → n < length c.nodes → NodeFormed c (node_at c n)) where
      label_light : (n : ℕ) → n < length c.nodes → (h : Formula) → h ∈ label_of c n → Lt h
      label_light n l h m =
          let r = place_in (label_tree c) _ _ m in
          let q : label_at c r.0 < length entries = label_number r.0 (omega (arith, (formed n l).labels)) in
          trees_light h (cast r.2 (at_member (trees c) (label_at c r.0) bot (omega (arith, length_trees [] entries))))

      rests_listed : RestsListed spec c
      rests_listed n l m o h i g j =
          in_trees g (light_met spec.environment spec.system heaviest (reading_of (kind_of c) (move_at c m)) h
          (elim (in_cons i) [ inl e ↦ subst Lt (sym e) safety_light | inr k ↦ label_light n l h k ]) g j)

    -- the card is acceptable if its nodes are in form and keep their conditions, and its moves are in form
    numbered_card : 0 < length vs → ((x : Vertex) → x ∈ vs → 1 ≤ length x.moves)
        → ((x : Vertex) → x ∈ vs → (m : Move) → m ∈ x.moves → MoveFormed spec m)
        → (c.kind ≡ 1) ⊎ (c.kind ≡ 2) → RootKept (kind_of c) spec (label_of c 0)
        → (RestsListed spec c → (n : ℕ) → n < length c.nodes → NodeKept spec c n) → Acceptable spec c
    numbered_card some moved moves known root nodes = record {
      two_formulas = built.two;
      a_node = a_node;
      a_move = omega (arith, (formed 0 a_node).moves, (formed 0 a_node).some);
      known = known;
      formulas = built.formed;
      labels = label_number;
      formed = formed;
      moves = λ m l. let r = move_from kind entries U built.same vs all m l in moves r.0 r.1 (move_at c m) r.2;
      different = built.different;
      listed = λ g m. in_trees g (parts_light g m);
      root = root;
      nodes = nodes (rests_listed formed);
    }
      where
        size : length c.nodes ≡ length vs
        size = card_size kind entries U built.same vs all

        a_node : 1 ≤ length c.nodes
        a_node = omega (arith, size)

        formed : (n : ℕ) → n < length c.nodes → NodeFormed c (node_at c n)
        formed n l = nodes_formed kind entries U built.same vs all n
            (moved (get_or vs n nowhere) (at_member vs n nowhere (omega (arith, size))))

  nonempty : (p : Move → Bool) (ms : List Move) → count p ms ≡ 1 → 1 ≤ length ms
  nonempty p [] h = absurd (omega arith)
  nonempty p (m ∷ ms) h = omega arith

  by_place : (vs : List Vertex) (P : Vertex → Type 0) → ((n : ℕ) → n < length vs → P (get_or vs n nowhere)) → (x : Vertex) → x ∈ vs → P x
  by_place vs P h x m = let r = place nowhere vs x m in subst P r.2 (h r.0 r.1)

  open_card : (vs : List Vertex) → OpenTableau spec (drawing vs) → Rising U vs → (c : Card) × AcceptableOpen spec c
  open_card vs ok all =
      let T = subst (OpenTableau spec) (sym (card_tableau 1 entries U built.same vs all)) ok in (
        c 1 vs all,
        (
          numbered_card 1 vs all ok.some
              (by_place vs (λ x. 1 ≤ length x.moves)
              (λ n l. nonempty _ (get_or vs n nowhere).moves ((ok.nodes n l).split w.input w.permitted)))
              (by_place vs (λ x. (m : Move) → m ∈ x.moves → MoveFormed spec m) (λ n l m i. ((ok.nodes n l).step m i).formed))
              (inl refl) T.root (λ listed. open_kept spec (c 1 vs all) refl listed T),
          refl,
        ),
      )

  closed_card : (vs : List Vertex) → ClosedTableau spec (drawing vs) → Rising U vs → (c : Card) × AcceptableClosed spec c
  closed_card vs ok all =
      let T = subst (ClosedTableau spec) (sym (card_tableau 2 entries U built.same vs all)) ok in (
        c 2 vs all,
        (
          numbered_card 2 vs all ok.some
              (by_place vs (λ x. 1 ≤ length x.moves)
              (λ n l. nonempty _ (get_or vs n nowhere).moves ((ok.nodes n l).split 0 (pow_pos spec.system))))
              (by_place vs (λ x. (m : Move) → m ∈ x.moves → MoveFormed spec m) (λ n l m i. (ok.nodes n l).formed m i))
              (inr refl) T.root (λ listed. closed_kept spec (c 2 vs all) refl listed T),
          refl,
        ),
      )

  -- the system has a card, or the environment forces false from the initial formula
  pub open_or_forces : ((c : Card) × AcceptableOpen spec c) ⊎ ((k : ℕ) × Forces spec k (spec.initial ∷ []))
  open_or_forces = elim (open_or_forced spec w U (board spec U universe)) [ inl p ↦ inl (open_card p.0 p.1 p.2) | inr f ↦ inr f ]

  -- if it does, the environment has a card
  pub forced_card : (k : ℕ) → Forces spec k (spec.initial ∷ []) → (c : Card) × AcceptableClosed spec c
  forced_card k f = let q = forced spec w U (board spec U universe) k f in closed_card q.0 q.1 q.2
