-- Cards: a kind and four lists, of any length and with any numbers.
use Rattle.std.specs.Prelude.{ℕ, true, false, cond, List, [], ◌∷◌, ◌++◌, map, ◌==◌, slice_index, slice_index_or}
use Rattle.temporal.specs.Formula.{Formula, bot, top, lit, conj, disj, next, always, eventually}
use Rattle.tableau.specs.Lists.{span}
use Rattle.tableau.specs.Moves.{Move, no_move}

-- a formula by numbers. Its kind is 0 false, 1 true, 2 a variable, 3 a negated variable, 4 and, 5 or, 6 X, 7 G, 8 F;
-- a and b are the numbers of its parts, n and m its bounds
pub record Entry : Type 0 where
  pub kind : ℕ
  pub variable : ℕ
  pub a : ℕ
  pub b : ℕ
  pub n : ℕ
  pub m : ℕ

-- a node: its label is so many entries of the label list from the first on, and so are its moves in the move list
pub record Node : Type 0 where
  pub first_label : ℕ
  pub label_count : ℕ
  pub first_move : ℕ
  pub move_count : ℕ

-- kind 1 is an open card, 2 a closed one; a label entry is the number of a formula
pub record Card : Type 0 where
  pub kind : ℕ
  pub formulas : List Entry
  pub labels : List ℕ
  pub nodes : List Node
  pub moves : List Move

pub data CardKind : Type 0 where
  opened : CardKind
  closed : CardKind

abbrev pub kind_of : Card → CardKind
kind_of c = cond (c.kind == 1) opened closed

-- ── entries by number ──
abbrev pub no_entry : Entry
no_entry = record { kind = 0; variable = 0; a = 0; b = 0; n = 0; m = 0 }

abbrev pub no_node : Node
no_node = record { first_label = 0; label_count = 0; first_move = 0; move_count = 0 }

abbrev pub formula_at : Card → ℕ → Entry
formula_at c i = slice_index_or c.formulas i no_entry

abbrev pub label_at : Card → ℕ → ℕ
label_at c i = slice_index c.labels i

abbrev pub node_at : Card → ℕ → Node
node_at c i = slice_index_or c.nodes i no_node

abbrev pub move_at : Card → ℕ → Move
move_at c i = slice_index_or c.moves i no_move

-- ── formulas for numbers ──
-- one of nine by the kind's number, or the tenth
abbrev pub by_kind : {X : Type 0} → ℕ → X → X → X → X → X → X → X → X → X → X → X
by_kind k x0 x1 x2 x3 x4 x5 x6 x7 x8 none =
    cond (k == 0) x0 (cond (k == 1) x1 (cond (k == 2) x2 (cond (k == 3) x3 (cond (k == 4) x4
    (cond (k == 5) x5 (cond (k == 6) x6 (cond (k == 7) x7 (cond (k == 8) x8 none))))))))

-- the formula of a kind, with variable v, bounds n and m, parts x and y
abbrev pub build : ℕ → ℕ → ℕ → ℕ → Formula → Formula → Formula
build k v n m x y =
    by_kind k bot top (lit true v) (lit false v) (conj x y) (disj x y) (next n x) (always n m x) (eventually n m x) bot

-- the formula of an entry, where ts are the formulas before it
abbrev pub tree_of : List Formula → Entry → Formula
tree_of ts f = build f.kind f.variable f.n f.m (slice_index_or ts f.a bot) (slice_index_or ts f.b bot)

-- the formulas ts, and behind them those of the entries, each over all before it
abbrev pub trees_on : List Formula → List Entry → List Formula
trees_on ts [] = ts
trees_on ts (f ∷ fs) = trees_on (ts ++ (tree_of ts f ∷ [])) fs

abbrev pub trees : Card → List Formula
trees c = trees_on [] c.formulas

-- the formula of entry i, and of label entry i
abbrev pub tree_at : Card → ℕ → Formula
tree_at c i = slice_index_or (trees c) i bot

abbrev pub label_tree : Card → ℕ → Formula
label_tree c i = tree_at c (label_at c i)

-- ── a node's label and moves ──
-- their places in the two lists
abbrev pub label_places : Card → ℕ → List ℕ
label_places c n = span (node_at c n).label_count (node_at c n).first_label

abbrev pub move_places : Card → ℕ → List ℕ
move_places c n = span (node_at c n).move_count (node_at c n).first_move

abbrev pub label_of : Card → ℕ → List Formula
label_of c n = map (label_tree c) (label_places c n)

abbrev pub moves_of : Card → ℕ → List Move
moves_of c n = map (move_at c) (move_places c n)
