-- What is known of a card when its root and its nodes are judged, and what judging them answers.
use Rattle.std.specs.Prelude.{◌≡◌, ℕ, ◌<◌, ◌≤◌, Bool, true, List, [], ◌∷◌, map, length, Option, Result}
use Rattle.temporal.specs.Formula.{top}
use Rattle.temporal.specs.Game.{Spec}
use Rattle.tableau.specs.Lists.{span, concat_map}
use Rattle.tableau.specs.Card.{kind_of, node_at, move_at}
use Rattle.tableau.specs.Conditions.{reading_of, label_kept, covering_kept, target_kept, at_move, at_node, at_nodes, obligations}
use Rattle.tableau.specs.Form.{move_formed}
use Rattle.tableau.specs.Acceptable.{NodeFormed}
use Rattle.faults.specs.declared.card.CardFault.{CardFault}
use Rattle.index.specs.declared.Slot.{Slot}
use Rattle.records.specs.declared.FormulaRecord.{FormulaRecord}
use Rattle.records.specs.declared.NodeRecord.{NodeRecord}
use Rattle.records.specs.declared.MoveRecord.{MoveRecord}
use Rattle.records.specs.Raw.{RawCard, model, move_of, node_of}
use Rattle.records.specs.Table.{Listed, formula_of}
use Rattle.covered.specs.Meaning.{Members}
use Rattle.rested.specs.declared.key.FormulaKey.{FormulaKey}
use Rattle.rested.specs.Listing.{Ready}
use Rattle.rested.specs.Rests.{AllRested}
use Rattle.card.specs.declared.entries.Kind.{Kind}
use Rattle.card.specs.Named.{kind_named}
use Rattle.card.specs.Variables.{HasVariables}
use Rattle.steps.specs.Sets.{Labelled, TakesRests}
use Rattle.judged.specs.Judged.{Judges}
use Rattle.coverings.specs.Coverings.{Ready as Splitting}
use Rattle.marking.specs.declared.terms.Terms.{Terms}

-- the label entries of a node are judged
abbrev pub JudgesLabels : RawCard → Kind → NodeRecord → Result (Unit {0}) CardFault → Type 0
JudgesLabels c kind x r =
    (spec : Spec) → Labelled spec c → kind_named kind ≡ kind_of (model c)
    → Judges spec (model c) (map label_kept (span x.label_count x.first_label)) r

-- the targets of node n's moves are judged, in a card of so many nodes
abbrev pub JudgesTargets : RawCard → Kind → ℕ → ℕ → NodeRecord → Result (Unit {0}) CardFault → Type 0
JudgesTargets c kind nodes n x r =
    (spec : Spec) → nodes ≡ length c.nodes → kind_named kind ≡ kind_of (model c)
    → Judges spec (model c) (map (target_kept n) (span x.move_count x.first_move)) r

-- the records are those of the card, the slots index them, the kind is the card's, and the marks are those of node n's label and
-- of the safety formula
pub record Prepared (spec : Spec) (c : RawCard) (kind : Kind) (rs : List FormulaRecord) (slots : List (Slot FormulaKey)) (ms : List Bool) (n : ℕ) : Type 0 where
  pub labelled : Labelled spec c
  pub records : rs ≡ c.formulas
  pub ready : Ready rs slots
  pub kinds : kind_named kind ≡ kind_of (model c)
  pub members : Members rs (obligations spec (model c) n) ms
  pub listed : Listed rs (obligations spec (model c) n)

-- the rests of what is marked, taken by a move's reading from a memo of the rest of each record
abbrev pub RestsBy : Kind → List FormulaRecord → List (Slot FormulaKey) → List Bool → MoveRecord → Option (List Bool) → Type 0
RestsBy kind rs slots ms m r =
    (memo : List (Option ℕ)) × (Ready rs slots → AllRested (reading_of (kind_named kind) (move_of m)) rs memo) × TakesRests (length rs) memo ms r

-- rests and step of move m are judged
abbrev pub JudgesMove : RawCard → Kind → List FormulaRecord → List (Slot FormulaKey) → List Bool → ℕ → Result (Unit {0}) CardFault → Type 0
JudgesMove c kind rs slots ms m r =
    (spec : Spec) (n : ℕ) → Prepared spec c kind rs slots ms n → Judges spec (model c) (at_move n m) r

-- rests and steps of all moves of a node are judged
abbrev pub JudgesMoves : RawCard → Kind → List FormulaRecord → List (Slot FormulaKey) → List Bool → NodeRecord → Result (Unit {0}) CardFault → Type 0
JudgesMoves c kind rs slots ms x r =
    (spec : Spec) (n : ℕ) → Prepared spec c kind rs slots ms n
    → Judges spec (model c) (concat_map (at_move n) (span x.move_count x.first_move)) r

-- the covering of node n, whose record is x, is judged
abbrev pub JudgesCovering : RawCard → Terms → NodeRecord → ℕ → Result (Unit {0}) CardFault → Type 0
JudgesCovering c terms x n r =
    (spec : Spec) → Splitting c spec terms.variables x → node_of x ≡ node_at (model c) n
    → Judges spec (model c) (covering_kept n ∷ []) r

-- what is known of a card once all before the root has been judged: its entries are of good form, the records are its formulas, the
-- slots index them, and the terms are those of the card and of the specification
pub record Known (spec : Spec) (c : RawCard) (terms : Terms) : Type 0 where
  pub labelled : Labelled spec c
  pub nodes : (n : ℕ) → n < length c.nodes → NodeFormed (model c) (node_at (model c) n)
  pub moves : (m : ℕ) → m < length c.moves → move_formed spec (move_at (model c) m) ≡ true
  pub records : terms.records.now ≡ c.formulas
  pub ready : Ready terms.records.now terms.slots.now
  pub kinds : kind_named terms.kind ≡ kind_of (model c)
  pub safety_below : terms.safety < length terms.records.now
  pub safety_is : formula_of terms.records.now terms.safety ≡ spec.safety
  pub variables : HasVariables spec terms.variables
  pub few_inputs : terms.variables.environment ≤ 16
  pub few_replies : terms.variables.system ≤ 16
  pub unconstrained : spec.third ≡ top

-- node n, whose record is x, is judged
abbrev pub JudgesNode : RawCard → Terms → NodeRecord → ℕ → Result (Unit {0}) CardFault → Type 0
JudgesNode c terms x n r =
    (spec : Spec) → Known spec c terms → n < length c.nodes → node_of x ≡ node_at (model c) n → Judges spec (model c) (at_node (model c) n) r

-- all nodes are judged
abbrev pub JudgesNodes : RawCard → Terms → Result (Unit {0}) CardFault → Type 0
JudgesNodes c terms r = (spec : Spec) → Known spec c terms → Judges spec (model c) (at_nodes (model c)) r
