-- When a card is acceptable, in words; and what a refusal says.
use Rattle.std.specs.Prelude.{◌≡◌, ℕ, ◌+◌, ◌^◌, ◌<◌, ◌≤◌, true, ◌⊎◌, List, [], ◌∷◌, ◌++◌, length, ◌≢◌, bit_and}
use Rattle.temporal.specs.Formula.{Formula, bot, Reading}
use Rattle.temporal.specs.Parts.{◌∈◌}
use Rattle.temporal.specs.Game.{Spec, Permitted, Reply}
use Rattle.tableau.specs.Lists.{count}
use Rattle.tableau.specs.Moves.{Target, end, node, Move, fits_env, fits_sys}
use Rattle.tableau.specs.Cover.{held, covers}
use Rattle.tableau.specs.Met.{met, rests}
use Rattle.tableau.specs.Card.{Node, Card, CardKind, opened, closed, kind_of, formula_at, label_at, node_at, move_at, trees, label_tree}
use Rattle.tableau.specs.Card.{label_of, moves_of}
use Rattle.tableau.specs.Form.{formula_formed}
use Rattle.tableau.specs.Conditions.{Condition, formula_count, label_count, node_count, move_count, kind_known}
use Rattle.tableau.specs.Conditions.{formula_form, label_form, node_form, move_form, new_formula, spec_listed, root_kept, label_kept}
use Rattle.tableau.specs.Conditions.{covering_kept, target_kept, rests_kept, step_kept, spec_formulas, reading_of, obligations}
use Rattle.tableau.specs.Conditions.{Fault, fault, order}
use Rattle.tableau.specs.Judge.{Verdict, verdict_of, depth_of}

-- the largest counts
pub record WithinLimits (c : Card) : Type 0 where
  pub formulas : length c.formulas ≤ 1024
  pub labels : length c.labels ≤ 4096
  pub nodes : length c.nodes ≤ 1024
  pub moves : length c.moves ≤ 2048

-- l is the place of one of node n's label entries
abbrev pub LabelOf : Card → ℕ → ℕ → Type 0
LabelOf c n l = ((node_at c n).first_label ≤ l) × (l < (node_at c n).first_label + (node_at c n).label_count)

-- m is the place of one of node n's moves
abbrev pub MoveOf : Card → ℕ → ℕ → Type 0
MoveOf c n m = ((node_at c n).first_move ≤ m) × (m < (node_at c n).first_move + (node_at c n).move_count)

-- label and moves lie inside their lists, and there is a move
pub record NodeFormed (c : Card) (x : Node) : Type 0 where
  pub labels : x.first_label + x.label_count ≤ length c.labels
  pub moves : x.first_move + x.move_count ≤ length c.moves
  pub some : 1 ≤ x.move_count

-- values lie inside masks, masks inside the specification's variables
pub record MoveFormed (spec : Spec) (m : Move) : Type 0 where
  pub env : bit_and m.env_values m.env_mask ≡ m.env_values
  pub sys : bit_and m.sys_values m.sys_mask ≡ m.sys_values
  pub env_mask : m.env_mask < 2 ^ spec.environment
  pub sys_mask : m.sys_mask < 2 ^ spec.system

-- no entry before entry i equals it
abbrev pub IsNew : Card → ℕ → Type 0
IsNew c i = (j : ℕ) → j < i → formula_at c j ≢ formula_at c i

-- the card's list has all these formulas
abbrev pub Listed : Card → List Formula → Type 0
Listed c fs = (f : Formula) → f ∈ fs → f ∈ trees c

-- the set covers all these formulas
abbrev pub CoversAll : List Formula → List Formula → Type 0
CoversAll S fs = (f : Formula) → f ∈ fs → covers S f ≡ true

abbrev pub RootKept : CardKind → Spec → List Formula → Type 0
RootKept opened spec L = covers L spec.initial ≡ true
RootKept closed spec L = CoversAll (spec.initial ∷ []) L

abbrev pub LabelKept : CardKind → Formula → Type 0
LabelKept opened f = f ≡ bot → ⊥
LabelKept closed f = Unit {0}

abbrev pub SameInput : Move → Move → Type 0
SameInput m k = (m.env_mask ≡ k.env_mask) × (m.env_values ≡ k.env_values)

-- each permitted input fits exactly one move
abbrev pub InputsSplit : Spec → List Move → Type 0
InputsSplit spec ms = (e : ℕ) → Permitted spec e → count (fits_env e) ms ≡ 1

-- each reply fits exactly one move
abbrev pub RepliesSplit : Spec → List Move → Type 0
RepliesSplit spec ms = (s : ℕ) → Reply spec s → count (fits_sys s) ms ≡ 1

-- all moves have the same input mask and values, and the input with these values, free variables false, is permitted
abbrev pub OneInput : Spec → List Move → Type 0
OneInput spec ms = (m : Move) → m ∈ ms → ((k : Move) → k ∈ ms → SameInput m k) × Permitted spec m.env_values

abbrev pub CoveringKept : CardKind → Spec → List Move → Type 0
CoveringKept opened spec ms = InputsSplit spec ms
CoveringKept closed spec ms = OneInput spec ms × RepliesSplit spec ms

abbrev pub TargetKept : CardKind → ℕ → ℕ → Target → Type 0
TargetKept opened nodes n end = ⊥
TargetKept opened nodes n (node k) = k < nodes
TargetKept closed nodes n end = Unit {0}
TargetKept closed nodes n (node k) = (n < k) × (k < nodes)

abbrev pub RestsKept : Card → Reading → List Formula → Type 0
RestsKept c R fs = (f : Formula) → f ∈ fs → Listed c (met R f)

abbrev pub StepKept : CardKind → Card → List Formula → Target → Type 0
StepKept opened c rs end = ⊥
StepKept opened c rs (node k) = CoversAll (label_of c k) rs
StepKept closed c rs end = bot ∈ held rs
StepKept closed c rs (node k) = CoversAll rs (label_of c k)

-- the rests and the step of node n's move m
pub record MoveKept (spec : Spec) (c : Card) (n m : ℕ) : Type 0 where
  pub rested : RestsKept c (reading_of (kind_of c) (move_at c m)) (obligations spec c n)
  pub step : StepKept (kind_of c) c (rests (reading_of (kind_of c) (move_at c m)) (obligations spec c n)) (move_at c m).target

pub record NodeKept (spec : Spec) (c : Card) (n : ℕ) : Type 0 where
  pub labels : (l : ℕ) → LabelOf c n l → LabelKept (kind_of c) (label_tree c l)
  pub covering : CoveringKept (kind_of c) spec (moves_of c n)
  pub targets : (m : ℕ) → MoveOf c n m → TargetKept (kind_of c) (length c.nodes) n (move_at c m).target
  pub moved : (m : ℕ) → MoveOf c n m → MoveKept spec c n m

-- everything but the largest counts
pub record Acceptable (spec : Spec) (c : Card) : Type 0 where
  pub two_formulas : 2 ≤ length c.formulas
  pub a_node : 1 ≤ length c.nodes
  pub a_move : 1 ≤ length c.moves
  pub known : (c.kind ≡ 1) ⊎ (c.kind ≡ 2)
  pub formulas : (i : ℕ) → i < length c.formulas → formula_formed spec i (formula_at c i) ≡ true
  pub labels : (i : ℕ) → i < length c.labels → label_at c i < length c.formulas
  pub formed : (n : ℕ) → n < length c.nodes → NodeFormed c (node_at c n)
  pub moves : (m : ℕ) → m < length c.moves → MoveFormed spec (move_at c m)
  pub different : (i : ℕ) → i < length c.formulas → IsNew c i
  pub listed : Listed c (spec_formulas spec)
  pub root : RootKept (kind_of c) spec (label_of c 0)
  pub nodes : (n : ℕ) → n < length c.nodes → NodeKept spec c n

abbrev pub AcceptableOpen : Spec → Card → Type 0
AcceptableOpen spec c = Acceptable spec c × (kind_of c ≡ opened)

abbrev pub AcceptableClosed : Spec → Card → Type 0
AcceptableClosed spec c = Acceptable spec c × (kind_of c ≡ closed)

-- accepted with this verdict and depth
pub record Accepted (spec : Spec) (c : Card) (r : Verdict × ℕ) : Type 0 where
  pub limits : WithinLimits c
  pub good : Acceptable spec c
  pub verdict : r.0 ≡ verdict_of (kind_of c)
  pub depth : r.1 ≡ depth_of (kind_of c) c

-- what each condition means
abbrev pub Kept : Spec → Card → Condition → Type 0
Kept spec c formula_count = (2 ≤ length c.formulas) × (length c.formulas ≤ 1024)
Kept spec c label_count = length c.labels ≤ 4096
Kept spec c node_count = (1 ≤ length c.nodes) × (length c.nodes ≤ 1024)
Kept spec c move_count = (1 ≤ length c.moves) × (length c.moves ≤ 2048)
Kept spec c kind_known = (c.kind ≡ 1) ⊎ (c.kind ≡ 2)
Kept spec c (formula_form i) = formula_formed spec i (formula_at c i) ≡ true
Kept spec c (label_form i) = label_at c i < length c.formulas
Kept spec c (node_form i) = NodeFormed c (node_at c i)
Kept spec c (move_form i) = MoveFormed spec (move_at c i)
Kept spec c (new_formula i) = IsNew c i
Kept spec c spec_listed = Listed c (spec_formulas spec)
Kept spec c root_kept = RootKept (kind_of c) spec (label_of c 0)
Kept spec c (label_kept l) = LabelKept (kind_of c) (label_tree c l)
Kept spec c (covering_kept n) = CoveringKept (kind_of c) spec (moves_of c n)
Kept spec c (target_kept n m) = TargetKept (kind_of c) (length c.nodes) n (move_at c m).target
Kept spec c (rests_kept n m) = RestsKept c (reading_of (kind_of c) (move_at c m)) (obligations spec c n)
Kept spec c (step_kept n m) =
    StepKept (kind_of c) c (rests (reading_of (kind_of c) (move_at c m)) (obligations spec c n)) (move_at c m).target

-- some condition fails, every condition before it in the order is kept, and the fault is that condition's
pub record Refused (spec : Spec) (c : Card) (e : Fault) : Type 0 where
  pub before : List Condition
  pub broken : Condition
  pub behind : List Condition
  pub ordered : order c ≡ before ++ (broken ∷ behind)
  pub held : (x : Condition) → x ∈ before → Kept spec c x
  pub fails : Kept spec c broken → ⊥
  pub named : e ≡ fault broken
