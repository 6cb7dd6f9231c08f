-- From vertices whose labels rise in the order of a formula list to a card by numbers.
use Rattle.std.proofs.Common.{◌≡◌, ℕ, zero, suc, ◌+◌, ◌<◌, ◌≤◌, ◌⊎◌, List, [], ◌∷◌, ◌++◌, map, length, get_or, sym, refl, ap, ◌∙◌, subst, inl, inr, append_assoc, arith, length-append}
use mathlib.Core.List.{map-map}
use Rattle.temporal.specs.Formula.{Formula, bot}
use Rattle.temporal.specs.Parts.{◌∈◌, first, later}
use Rattle.temporal.proofs.Lists.{at_member, in_append}
use Rattle.tableau.specs.Lists.{span}
use Rattle.tableau.specs.Moves.{Move, no_move}
use Rattle.tableau.specs.Card.{Entry, Node, Card, no_node, node_at, move_at, label_at, trees_on, label_of, moves_of}
use Rattle.tableau.specs.Acceptable.{NodeFormed}
use Rattle.tableau.proofs.Positions.{Sub, done, keep, skip}
use Rattle.tableau.proofs.Tableau.{Vertex, tableau, nowhere, drawing, Rising}

-- ── the numbers of a sublist rise strictly ──
pub numbers : {A : Type 0} {L U : List A} → Sub L U → ℕ → List ℕ
numbers done k = []
numbers (keep s) k = k ∷ numbers s (suc k)
numbers (skip s) k = numbers s (suc k)

numbers_below : {A : Type 0} {L U : List A} (s : Sub L U) (k b : ℕ) → k + length U ≤ b → (n : ℕ) → n ∈ numbers s k → n < b
unfolding numbers
numbers_below done k b h n m = elim m [ ]
numbers_below (keep s) k b h n first = omega arith
numbers_below (keep s) k b h n (later m) = numbers_below s (suc k) b (omega arith) n m
numbers_below (skip s) k b h n m = numbers_below s (suc k) b (omega arith) n m

numbers_back : {A : Type 0} {L U : List A} (d : A) (V : List A) (s : Sub L U) (k : ℕ)
    → ((j : ℕ) → get_or V (k + j) d ≡ get_or U j d) → map (λ n. get_or V n d) (numbers s k) ≡ L
unfolding numbers
numbers_back d V done k e = refl
numbers_back {A} d V (keep {x} {xs} s) k e =
    let p : get_or V k d ≡ x = ap (λ (n : ℕ). get_or V n d) (omega arith) ∙ e 0 in
    λ j. p j ∷ numbers_back d V s (suc k) (λ i. ap (λ (n : ℕ). get_or V n d) (omega arith) ∙ e (suc i)) j
numbers_back d V (skip s) k e = numbers_back d V s (suc k) (λ i. ap (λ (n : ℕ). get_or V n d) (omega arith) ∙ e (suc i))

-- ── what a stretch of a list has ──
get_or_behind : {A : Type 0} (xs ys : List A) (k i : ℕ) (d : A) → length xs ≡ i → get_or (xs ++ ys) (i + k) d ≡ get_or ys k d
get_or_behind [] ys k i d e = ap (λ (n : ℕ). get_or ys n d) (omega arith)
get_or_behind (x ∷ xs) ys k zero d e = absurd (omega arith)
get_or_behind (x ∷ xs) ys k (suc i) d e =
    let q : suc i + k ≡ suc (i + k) = omega arith in
    ap (λ (n : ℕ). get_or (x ∷ (xs ++ ys)) n d) q ∙ get_or_behind xs ys k i d (omega arith)

stretch : {A : Type 0} (d : A) (xs ys : List A) (i : ℕ) → ((k : ℕ) → k < length ys → get_or xs (i + k) d ≡ get_or ys k d)
    → map (λ n. get_or xs n d) (span (length ys) i) ≡ ys
stretch d xs [] i h = refl
stretch d xs (y ∷ ys) i h =
    let p : get_or xs i d ≡ y = ap (λ (n : ℕ). get_or xs n d) (omega arith) ∙ h 0 (omega arith) in
    λ j. p j ∷ stretch d xs ys (suc i) (λ k l. ap (λ (n : ℕ). get_or xs n d) (omega arith) ∙ h (suc k) (omega arith)) j

stretch_mid : {A : Type 0} (d : A) (all pre ys post : List A) (i : ℕ) → all ≡ pre ++ (ys ++ post) → length pre ≡ i
    → map (λ n. get_or all n d) (span (length ys) i) ≡ ys
stretch_mid d all pre ys post i e a = stretch d all ys i at
  where
    front : (ys post : List _) (k : ℕ) → k < length ys → get_or (ys ++ post) k d ≡ get_or ys k d
    front [] post k l = absurd (omega arith)
    front (y ∷ ys) post zero l = refl
    front (y ∷ ys) post (suc k) l = front ys post k (omega arith)

    at : (k : ℕ) → k < length ys → get_or all (i + k) d ≡ get_or ys k d
    at k l = ap (λ xs. get_or xs (i + k) d) e ∙ get_or_behind pre (ys ++ post) k i d a ∙ front ys post k l

-- ── nodes by number, laid one behind the other ──
pub record Numbered : Type 0 where
  pub label : List ℕ
  pub moves : List Move

abbrev none : Numbered
none = record { label = []; moves = [] }

pub all_labels : List Numbered → List ℕ
all_labels [] = []
all_labels (x ∷ xs) = x.label ++ all_labels xs

pub all_moves : List Numbered → List Move
all_moves [] = []
all_moves (x ∷ xs) = x.moves ++ all_moves xs

pub nodes_from_lem : ℕ → ℕ → List Numbered → List Node
nodes_from_lem lo mo [] = []
nodes_from_lem lo mo (x ∷ xs) =
    record { first_label = lo; label_count = length x.label; first_move = mo; move_count = length x.moves }
    ∷ nodes_from_lem (lo + length x.label) (mo + length x.moves) xs

length_nodes : (lo mo : ℕ) (xs : List Numbered) → length (nodes_from_lem lo mo xs) ≡ length xs
unfolding nodes_from_lem
length_nodes lo mo [] = refl
length_nodes lo mo (x ∷ xs) = ap suc (length_nodes (lo + length x.label) (mo + length x.moves) xs)

-- node n has its own label and moves, inside the lists
record Laid (labels : List ℕ) (moves : List Move) (x : Node) (y : Numbered) : Type 0 where
  label_is : map (λ i. get_or labels i 0) (span x.label_count x.first_label) ≡ y.label
  moves_is : map (λ i. get_or moves i no_move) (span x.move_count x.first_move) ≡ y.moves
  label_in : x.first_label + x.label_count ≤ length labels
  moves_in : x.first_move + x.move_count ≤ length moves
  moves_so_many : x.move_count ≡ length y.moves

laid : (labels : List ℕ) (moves : List Move) (xs : List Numbered) (n : ℕ) (pre : List ℕ) (mpre : List Move) (lo mo : ℕ)
    → length pre ≡ lo → length mpre ≡ mo → labels ≡ pre ++ all_labels xs → moves ≡ mpre ++ all_moves xs
    → Laid labels moves (get_or (nodes_from_lem lo mo xs) n no_node) (get_or xs n none)
unfolding nodes_from_lem all_labels all_moves
laid labels moves [] n pre mpre lo mo a b e f =
    record { label_is = refl; moves_is = refl; label_in = omega arith; moves_in = omega arith; moves_so_many = refl }
laid labels moves (x ∷ xs) zero pre mpre lo mo a b e f = record {
  label_is = stretch_mid 0 labels pre x.label (all_labels xs) lo e a;
  moves_is = stretch_mid no_move moves mpre x.moves (all_moves xs) mo f b;
  label_in = omega (arith, ap length e, length-append pre (x.label ++ all_labels xs), length-append x.label (all_labels xs));
  moves_in = omega (arith, ap length f, length-append mpre (x.moves ++ all_moves xs), length-append x.moves (all_moves xs));
  moves_so_many = refl;
}
laid labels moves (x ∷ xs) (suc n) pre mpre lo mo a b e f =
    laid labels moves xs n (pre ++ x.label) (mpre ++ x.moves) (lo + length x.label) (mo + length x.moves)
    (omega (arith, length-append pre x.label)) (omega (arith, length-append mpre x.moves))
    (e ∙ sym (append_assoc pre x.label (all_labels xs))) (f ∙ sym (append_assoc mpre x.moves (all_moves xs)))

-- ── the vertices, by number ──
module _ (U : List Formula) where
  pub numbered : (vs : List Vertex) → Rising U vs → List Numbered
  numbered [] all = []
  numbered (x ∷ vs) all = record { label = numbers (all x first) 0; moves = x.moves } ∷ numbered vs (λ y m. all y (later m))

  length_numbered : (vs : List Vertex) (all : Rising U vs) → length (numbered vs all) ≡ length vs
  unfolding numbered
  length_numbered [] all = refl
  length_numbered (x ∷ vs) all = ap suc (length_numbered vs (λ y m. all y (later m)))

  numbered_at : (vs : List Vertex) (all : Rising U vs) (n : ℕ)
      → (map (λ k. get_or U k bot) (get_or (numbered vs all) n none).label ≡ (get_or vs n nowhere).label)
      × ((get_or (numbered vs all) n none).moves ≡ (get_or vs n nowhere).moves)
  unfolding numbered
  numbered_at [] all n = (refl, refl)
  numbered_at (x ∷ vs) all zero = (numbers_back bot U (all x first) 0 (λ j. ap (λ (n : ℕ). get_or U n bot) (omega arith)), refl)
  numbered_at (x ∷ vs) all (suc n) = numbered_at vs (λ y m. all y (later m)) n

  labels_below : (vs : List Vertex) (all : Rising U vs) (k : ℕ) → k ∈ all_labels (numbered vs all) → k < length U
  unfolding numbered all_labels
  labels_below [] all k m = elim m [ ]
  labels_below (x ∷ vs) all k m =
      go (in_append (numbers (all x first) 0) (all_labels (numbered vs (λ y m. all y (later m)))) k m)
      (labels_below vs (λ y m. all y (later m)) k)
    where
      go : (k ∈ numbers (all x first) 0) ⊎ (k ∈ all_labels (numbered vs (λ y m. all y (later m))))
          → (k ∈ all_labels (numbered vs (λ y m. all y (later m))) → k < length U) → k < length U
      go (inl a) ih = numbers_below (all x first) 0 (length U) (omega arith) k a
      go (inr b) ih = ih b

  moves_from : (vs : List Vertex) (all : Rising U vs) (m : Move) → m ∈ all_moves (numbered vs all) → (x : Vertex) × (x ∈ vs)
      × (m ∈ x.moves)
  unfolding numbered all_moves
  moves_from [] all m i = elim i [ ]
  moves_from (x ∷ vs) all m i =
      go (in_append x.moves (all_moves (numbered vs (λ y m. all y (later m)))) m i) (moves_from vs (λ y m. all y (later m)) m)
    where
      go : (m ∈ x.moves) ⊎ (m ∈ all_moves (numbered vs (λ y m. all y (later m))))
          → (m ∈ all_moves (numbered vs (λ y m. all y (later m))) → (y : Vertex) × (y ∈ vs) × (m ∈ y.moves))
          → (y : Vertex) × (y ∈ (x ∷ vs)) × (m ∈ y.moves)
      go (inl a) ih = (x, first, a)
      go (inr b) ih = let r = ih b in (r.0, later r.1, r.2)

-- ── the card ──
module _ (kind : ℕ) (es : List Entry) (U : List Formula) (same : trees_on [] es ≡ U) (vs : List Vertex) (all : Rising U vs) where
  abbrev pub card : Card
  card = record {
    kind = kind;
    formulas = es;
    labels = all_labels (numbered U vs all);
    nodes = nodes_from_lem 0 0 (numbered U vs all);
    moves = all_moves (numbered U vs all);
  }

  pub card_size : length card.nodes ≡ length vs
  card_size = length_nodes 0 0 (numbered U vs all) ∙ length_numbered U vs all

  at : (n : ℕ) → Laid card.labels card.moves (node_at card n) (get_or (numbered U vs all) n none)
  at n = laid card.labels card.moves (numbered U vs all) n [] [] 0 0 refl refl refl refl

  label_at_lem : (n : ℕ) → label_of card n ≡ (get_or vs n nowhere).label
  label_at_lem n =
      sym (map-map (λ k. get_or (trees_on [] es) k bot) (λ i. get_or card.labels i 0)
      (span (node_at card n).label_count (node_at card n).first_label))
      ∙ ap (map (λ k. get_or (trees_on [] es) k bot)) (at n).label_is
      ∙ ap (λ (fs : List Formula). map (λ k. get_or fs k bot) (get_or (numbered U vs all) n none).label) same
      ∙ (numbered_at U vs all n).0

  moves_at : (n : ℕ) → moves_of card n ≡ (get_or vs n nowhere).moves
  moves_at n = (at n).moves_is ∙ (numbered_at U vs all n).1

  -- the card is the drawing, by numbers
  pub card_tableau : tableau card ≡ drawing vs
  card_tableau = λ i. record { size = card_size i; at = λ n. record { label = label_at_lem n i; moves = moves_at n i } }

  pub labels_formed : (i : ℕ) → i < length card.labels → label_at card i < length U
  labels_formed i l = labels_below U vs all (label_at card i) (at_member card.labels i 0 l)

  pub nodes_formed : (n : ℕ) → 1 ≤ length (get_or vs n nowhere).moves → NodeFormed card (node_at card n)
  nodes_formed n l = record {
    labels = (at n).label_in;
    moves = (at n).moves_in;
    some = subst (λ (k : ℕ). 1 ≤ k) (sym ((at n).moves_so_many ∙ ap length (numbered_at U vs all n).1)) l;
  }

  pub move_from : (i : ℕ) → i < length card.moves → (x : Vertex) × (x ∈ vs) × (move_at card i ∈ x.moves)
  move_from i l = moves_from U vs all (move_at card i) (at_member card.moves i no_move l)
