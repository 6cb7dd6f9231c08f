-- The laws, as statements.
use Rattle.std.specs.Prelude.{◌≡◌, ℕ, suc, ◌+◌, ◌<◌, ◌≤◌, true, ◌⊎◌, ◌↔◌, List, [], ◌∷◌, ◌++◌, length, Ok, Err}
use Rattle.temporal.specs.Formula.{Formula, Reading, ◌⊆◌, holds, rest}
use Rattle.temporal.specs.Parts.{◌∈◌}
use Rattle.temporal.specs.Game.{Spec, Permitted, Reply, WellFormed, Step, Run, reading, Broken, InRange, Lost, Replied, Asked}
use Rattle.temporal.specs.Game.{SystemWins, EnvironmentWins, spec_reach}
use Rattle.tableau.specs.Moves.{Target, end, node, Move, fits_env, fits_sys, cautious, generous}
use Rattle.tableau.specs.Cover.{covers}
use Rattle.tableau.specs.Met.{met}
use Rattle.tableau.specs.Card.{Card, tree_at, moves_of}
use Rattle.tableau.specs.Conditions.{Fault}
use Rattle.tableau.specs.Judge.{Verdict, realizable, unrealizable, deepest, depth_at, judge}
use Rattle.tableau.specs.Acceptable.{Acceptable, AcceptableOpen, AcceptableClosed, Accepted, Refused}
use Rattle.tableau.specs.Plays.{Leads, reply_rule, input_rule}
use Rattle.tableau.specs.Forces.{Forces}

-- ── covering and readings ──
-- where all members of a set hold, everything that the set covers holds, for every sequence of readings
abbrev pub CoveringSound : Type 0
CoveringSound = (σ : ℕ → Reading) (S : List Formula) → ((h : Formula) → h ∈ S → holds σ h ≡ true)
    → (f : Formula) → covers S f ≡ true → holds σ f ≡ true

-- more members cover more; so only the set of members counts
abbrev pub CoveringMonotone : Type 0
CoveringMonotone = (S T : List Formula) → ((h : Formula) → h ∈ S → h ∈ T) → (f : Formula) → covers S f ≡ true → covers T f ≡ true

-- a step that fits a move counts as true all that the cautious reading does, and nothing that the generous one does not
abbrev pub FittingStepBetween : Type 0
FittingStepBetween = (m : Move) (x : Step) → fits_env x.env m ≡ true → fits_sys x.sys m ≡ true
    → (cautious m ⊆ reading x) × (reading x ⊆ generous m)

-- what is met where the rest of a formula is taken has that rest
abbrev pub RestMet : Type 0
RestMet = (R : Reading) (f : Formula) → rest R f ∈ met R f

-- ── the judge ──
-- a card is accepted exactly if it keeps every condition, with the verdict of its kind and its depth
abbrev pub JudgeAccepts : Type 0
JudgeAccepts = (spec : Spec) (c : Card) (r : Verdict × ℕ) → (judge spec c ≡ Ok r) ↔ Accepted spec c r

-- a fault comes exactly if its condition is the first in the order that fails
abbrev pub JudgeRefuses : Type 0
JudgeRefuses = (spec : Spec) (c : Card) (e : Fault) → (judge spec c ≡ Err e) ↔ Refused spec c e

-- the depth of each node of an acceptable closed card is 1 plus the largest depth of its targets
abbrev pub DepthOfNodes : Type 0
DepthOfNodes = (spec : Spec) (c : Card) → AcceptableClosed spec c
    → (n : ℕ) → n < length c.nodes → depth_at c n ≡ suc (deepest (depth_at c) (moves_of c n))

-- different entries of an acceptable card are different formulas
abbrev pub DifferentFormulas : Type 0
DifferentFormulas = (spec : Spec) (c : Card) → Acceptable spec c
    → (i j : ℕ) → i < length c.formulas → j < length c.formulas → tree_at c i ≡ tree_at c j → i ≡ j

-- ── open cards ──
-- a run that leads along the moves from node 0, by any steps that fit, is never lost
abbrev pub OpenPlayNeverLost : Type 0
OpenPlayNeverLost = (spec : Spec) (c : Card) → WellFormed spec → AcceptableOpen spec c
    → (r : Run) (g : Target) → Leads (moves_of c) (node 0) r g → Lost spec r → ⊥

-- the card's own replies are in range, and never lead to a lost run
abbrev pub OpenRepliesWin : Type 0
OpenRepliesWin = (spec : Spec) (c : Card) → WellFormed spec → AcceptableOpen spec c
    → ((is : List ℕ) → Reply spec (reply_rule (moves_of c) is))
    × ((r : Run) → InRange spec r → Replied (reply_rule (moves_of c)) r → Lost spec r → ⊥)

abbrev pub OpenSystemWins : Type 0
OpenSystemWins = (spec : Spec) (c : Card) → WellFormed spec → AcceptableOpen spec c → SystemWins spec

-- ── closed cards ──
-- a run along the moves from node 0 has at most as many turns as the card is deep, and fewer if it is not at the end
abbrev pub ClosedPlayEnds : Type 0
ClosedPlayEnds = (spec : Spec) (c : Card) → AcceptableClosed spec c → (r : Run) (g : Target) → Leads (moves_of c) (node 0) r g
    → (length r ≤ depth_at c 0) × ((k : ℕ) → g ≡ node k → length r < depth_at c 0)

-- a run that reaches the end is lost: every continuation by as many steps as the larger reach is broken
abbrev pub ClosedEndLost : Type 0
ClosedEndLost = (spec : Spec) (c : Card) → AcceptableClosed spec c → (r : Run) → Leads (moves_of c) (node 0) r end
    → Lost spec r × ((on : Run) → length on ≡ spec_reach spec → Broken spec (r ++ on))

-- the card's own inputs, with any permitted input d from the end on, are permitted;
-- after as many steps as the card is deep, every continuation by the larger reach is broken
abbrev pub ClosedInputsWin : Type 0
ClosedInputsWin = (spec : Spec) (c : Card) → AcceptableClosed spec c → (d : ℕ) → Permitted spec d
    → ((ss : List ℕ) → Permitted spec (input_rule (moves_of c) d ss))
    × ((r : Run) → InRange spec r → length r ≡ depth_at c 0 → Asked (input_rule (moves_of c) d) r
    → (on : Run) → length on ≡ spec_reach spec → Broken spec (r ++ on))

-- so every run of depth plus reach steps that the card's inputs lead is broken
abbrev pub ClosedBreaksWithin : Type 0
ClosedBreaksWithin = (spec : Spec) (c : Card) → AcceptableClosed spec c → (d : ℕ) → Permitted spec d
    → (r : Run) → InRange spec r → length r ≡ depth_at c 0 + spec_reach spec → Asked (input_rule (moves_of c) d) r → Broken spec r

abbrev pub ClosedEnvironmentWins : Type 0
ClosedEnvironmentWins = (spec : Spec) (c : Card) → WellFormed spec → AcceptableClosed spec c → EnvironmentWins spec

-- ── winners ──
-- the verdict of the judge names the winner
abbrev pub VerdictNamesWinner : Type 0
VerdictNamesWinner = (spec : Spec) (c : Card) (d : ℕ) → WellFormed spec
    → (judge spec c ≡ Ok (realizable, d) → SystemWins spec) × (judge spec c ≡ Ok (unrealizable, d) → EnvironmentWins spec)

-- the depth that the judge gives a closed card is that of node 0, and no run along the moves from there has more turns
abbrev pub JudgedDepthBoundsPlay : Type 0
JudgedDepthBoundsPlay = (spec : Spec) (c : Card) (d : ℕ) → judge spec c ≡ Ok (unrealizable, d)
    → (d ≡ depth_at c 0) × ((r : Run) (g : Target) → Leads (moves_of c) (node 0) r g → length r ≤ d)

-- any two verdicts on one specification agree
abbrev pub VerdictsAgree : Type 0
VerdictsAgree = (spec : Spec) (c d : Card) (u v : Verdict) (m n : ℕ) → WellFormed spec
    → judge spec c ≡ Ok (u, m) → judge spec d ≡ Ok (v, n) → u ≡ v

-- with no limit on lists and numbers every well-formed specification has an acceptable card
abbrev pub SomeCard : Type 0
SomeCard = (spec : Spec) → WellFormed spec → (c : Card) × Acceptable spec c

-- any two acceptable cards of one specification are of one kind
abbrev pub OneKind : Type 0
OneKind = (spec : Spec) (c d : Card) → WellFormed spec → Acceptable spec c → Acceptable spec d → c.kind ≡ d.kind

-- a player wins exactly if it has an acceptable card
abbrev pub WinnerHasCard : Type 0
WinnerHasCard = (spec : Spec) → WellFormed spec
    → (SystemWins spec ↔ ((c : Card) × AcceptableOpen spec c)) × (EnvironmentWins spec ↔ ((c : Card) × AcceptableClosed spec c))

-- one of the players wins
abbrev pub OneWins : Type 0
OneWins = (spec : Spec) → WellFormed spec → SystemWins spec ⊎ EnvironmentWins spec

-- ── forcing ──
-- only the set of formulas counts
abbrev pub ForcesBySet : Type 0
ForcesBySet = (spec : Spec) (k : ℕ) (S T : List Formula) → ((h : Formula) → h ∈ S ↔ h ∈ T) → Forces spec k S ↔ Forces spec k T

-- what is forced within k turns is forced within one more
abbrev pub ForcesLater : Type 0
ForcesLater = (spec : Spec) (k : ℕ) (S : List Formula) → Forces spec k S → Forces spec (suc k) S

-- the environment wins exactly if it forces false from the initial formula within some number of turns
abbrev pub ForcesWins : Type 0
ForcesWins = (spec : Spec) → WellFormed spec → EnvironmentWins spec ↔ ((k : ℕ) × Forces spec k (spec.initial ∷ []))
