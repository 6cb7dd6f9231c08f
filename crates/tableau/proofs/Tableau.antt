-- A card with formulas for numbers, and its conditions node by node.
use Rattle.std.proofs.Common.{◌≡◌, ℕ, ◌<◌, true, List, [], ◌∷◌, length, get_or}
use Rattle.temporal.specs.Formula.{Formula, bot, Fine}
use Rattle.temporal.specs.Parts.{◌∈◌}
use Rattle.temporal.specs.Game.{Spec}
use Rattle.tableau.specs.Moves.{Target, end, node, Move, cautious, generous}
use Rattle.tableau.specs.Cover.{held, covers}
use Rattle.tableau.specs.Met.{rests}
use Rattle.tableau.specs.Card.{Card, label_of, moves_of}
use Rattle.tableau.proofs.Positions.{Sub}
use Rattle.tableau.specs.Acceptable.{MoveFormed, CoversAll, InputsSplit, OneInput, RepliesSplit}

pub record Vertex : Type 0 where
  pub label : List Formula
  pub moves : List Move

pub record Tableau : Type 0 where
  pub size : ℕ
  pub at : ℕ → Vertex

-- the tableau of a card
abbrev pub tableau : Card → Tableau
tableau c = record { size = length c.nodes; at = λ n. record { label = label_of c n; moves = moves_of c n } }

-- the tableau of a list of vertices
abbrev pub nowhere : Vertex
nowhere = record { label = []; moves = [] }

abbrev pub drawing : List Vertex → Tableau
drawing vs = record { size = length vs; at = λ n. get_or vs n nowhere }

-- each label has its formulas in the order of U
abbrev pub Rising : List Formula → List Vertex → Type 0
Rising U vs = (x : Vertex) → x ∈ vs → Sub x.label U

abbrev pub moves_in : Tableau → ℕ → List Move
moves_in T n = (T.at n).moves

-- the label at a place, and whether the place is a node
abbrev pub label_in : Tableau → Target → List Formula
label_in T end = []
label_in T (node n) = (T.at n).label

abbrev pub IsNode : Tableau → Target → Type 0
IsNode T end = ⊥
IsNode T (node n) = n < T.size

-- ── open ──
pub record OpenMove (spec : Spec) (T : Tableau) (x : Vertex) (m : Move) : Type 0 where
  pub formed : MoveFormed spec m
  pub inside : IsNode T m.target
  pub step : CoversAll (label_in T m.target) (rests (cautious m) (spec.safety ∷ x.label))

pub record OpenNode (spec : Spec) (T : Tableau) (x : Vertex) : Type 0 where
  pub fine : (h : Formula) → h ∈ x.label → Fine spec.environment spec.system h
  pub no_false : bot ∈ x.label → ⊥
  pub split : InputsSplit spec x.moves
  pub step : (m : Move) → m ∈ x.moves → OpenMove spec T x m

pub record OpenTableau (spec : Spec) (T : Tableau) : Type 0 where
  pub some : 0 < T.size
  pub root : covers (T.at 0).label spec.initial ≡ true
  pub nodes : (n : ℕ) → n < T.size → OpenNode spec T (T.at n)

-- ── closed ──
-- a target of node n is the end, with false held by the rests, or a later node whose label they cover
abbrev pub ClosedStep : Tableau → ℕ → List Formula → Target → Type 0
ClosedStep T n rs end = bot ∈ held rs
ClosedStep T n rs (node k) = (n < k) × (k < T.size) × CoversAll rs (T.at k).label

abbrev pub rests_by : Spec → Vertex → Move → List Formula
rests_by spec x m = rests (generous m) (spec.safety ∷ x.label)

pub record ClosedNode (spec : Spec) (T : Tableau) (n : ℕ) (x : Vertex) : Type 0 where
  pub formed : (m : Move) → m ∈ x.moves → MoveFormed spec m
  pub input : OneInput spec x.moves
  pub split : RepliesSplit spec x.moves
  pub step : (m : Move) → m ∈ x.moves → ClosedStep T n (rests_by spec x m) m.target

pub record ClosedTableau (spec : Spec) (T : Tableau) : Type 0 where
  pub some : 0 < T.size
  pub root : CoversAll (spec.initial ∷ []) (T.at 0).label
  pub nodes : (n : ℕ) → n < T.size → ClosedNode spec T n (T.at n)
