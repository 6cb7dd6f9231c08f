-- What the formulas of nodes are made of.
use Rattle.std.proofs.Common.{◌≡◌, ℕ, ◌<◌, Bool, true, false, not, List, length, get_or, Some, None, Option, sym, refl, ap, ◌∙◌, subst, arith}
use Rattle.std.specs.List.{slice_get}
use Rattle.std.proofs.lemmas.Option.{slice_get-get_or}
use Rattle.temporal.specs.Formula.{Formula as Tree, bot, top, lit, conj, disj, next, always, eventually}
use Rattle.temporal.specs.Formula.{Kind, is_bot, is_top, other, kind, constant, conjoin_by, disjoin_by, unless_constant}
use Rattle.temporal.specs.Written.{Written, truth, variable, negation, normal, later, throughout, within}
use Rattle.nodes.specs.declared.node.Node.{Node}
use Rattle.nodes.specs.declared.node.Node.TheVariants as node
use Rattle.nodes.specs.declared.node.Prefix.{Prefix}
use Rattle.nodes.specs.declared.node.Prefix.TheVariants as prefix
use Rattle.nodes.specs.declared.node.Connective.{Connective}
use Rattle.nodes.specs.declared.node.Connective.TheVariants as connective
use Rattle.nodes.specs.Trees.{trees_of, grow, constant_of, parts_below}
use Rattle.normal.specs.declared.operand.Operand.{Operand}
use Rattle.formulas.specs.declared.junction.Junction.{Junction}
use Rattle.formulas.specs.declared.junction.Junction.TheVariants.{And, Or}
use Rattle.normal.specs.declared.constants.Plan.{Plan}
use Rattle.normal.specs.declared.constants.Plan.TheVariants.{Constant, First, Second, Both}
use Rattle.formulas.specs.Junctions.{under}
use Rattle.normal.specs.Constants.{known, junction, opposite, plan_of, joint, constant_at}
use Rattle.normal.specs.Operands.{Given, Negates, formula_of, operand, unary_of, binary_of, both_of, equivalence_of}
use Rattle.normal.proofs.Folding.{kind_junction, kind_opposite}
use Rattle.normal.proofs.Places.{parts_below_lem, unary_below, binary_below, tree_at_lem}

-- ── constants ──
pub known_constant : (f : Tree) (x : Bool) → known (kind f) ≡ Some x → f ≡ constant x
known_constant bot x e = let s : false ≡ x = cc in ap constant s
known_constant top x e = let s : true ≡ x = cc in ap constant s
known_constant (lit s i) x e = let z : ◌≡◌ {A = ℕ} 0 1 = cc in absurd (omega arith)
known_constant (conj f g) x e = let z : ◌≡◌ {A = ℕ} 0 1 = cc in absurd (omega arith)
known_constant (disj f g) x e = let z : ◌≡◌ {A = ℕ} 0 1 = cc in absurd (omega arith)
known_constant (next n f) x e = let z : ◌≡◌ {A = ℕ} 0 1 = cc in absurd (omega arith)
known_constant (always n m f) x e = let z : ◌≡◌ {A = ℕ} 0 1 = cc in absurd (omega arith)
known_constant (eventually n m f) x e = let z : ◌≡◌ {A = ℕ} 0 1 = cc in absurd (omega arith)

pub known_other : (k : Kind) → known k ≡ None → k ≡ other
known_other is_bot e = let z : ◌≡◌ {A = ℕ} 0 1 = cc in absurd (omega arith)
known_other is_top e = let z : ◌≡◌ {A = ℕ} 0 1 = cc in absurd (omega arith)
known_other other e = refl

-- the constant of a node or of its negation, by that of the node
abbrev pub signed_by : Bool → Option Bool → Option Bool
signed_by true a = a
signed_by false a = opposite a

-- the negation of an operand, by its node and its sign
pub negation_is : {o m : Operand} → Negates o m → m ≡ operand o.node (not o.sign)
negation_is n = λ j. record { node = n.node j; sign = n.sign j }

module _ {ns : List Node} {cs : List (Option Bool)} (given : Given ns cs) where
  signed_by_lem : (s : Bool) (i : ℕ) → i < length ns → signed_by s (get_or cs i None) ≡ known (kind (normal s (get_or (trees_of ns) i truth)))
  unfolding constant_at
  signed_by_lem true i h = given.known i h
  signed_by_lem false i h = ap opposite (given.known i h) ∙ sym (kind_opposite (get_or (trees_of ns) i truth))

  -- the constant that an operand is
  pub signed_is : (o : Operand) → o.node < length ns → signed_by o.sign (get_or cs o.node None) ≡ known (kind (formula_of ns o))
  unfolding formula_of
  signed_is o h = signed_by_lem o.sign o.node h

-- ── conjunctions and disjunctions ──
abbrev pub whole_of : Junction → Tree → Tree → Tree
whole_of And f g = conj f g
whole_of Or f g = disj f g

-- what a plan says of a conjunction or disjunction w of f and g
abbrev pub Says : Junction → Plan → Tree → Tree → Tree → Type 0
Says op (Constant x) w f g = w ≡ constant x
Says op First w f g = w ≡ f
Says op Second w f g = w ≡ g
Says op Both w f g = w ≡ whole_of op f g

pub plan_says : (op : Junction) (f g : Tree) → Says op (plan_of op (known (kind f)) (known (kind g))) (junction op f g) f g
plan_says And f g = go (kind f) (kind g)
  where
    go : (k l : Kind) → Says And (plan_of And (known k) (known l)) (conjoin_by k l f g) f g
    go is_bot l = refl
    go is_top l = refl
    go other is_bot = refl
    go other is_top = refl
    go other other = refl
plan_says Or f g = go (kind f) (kind g)
  where
    go : (k l : Kind) → Says Or (plan_of Or (known k) (known l)) (disjoin_by k l f g) f g
    go is_bot l = refl
    go is_top l = refl
    go other is_bot = refl
    go other is_top = refl
    go other other = refl

module _ (ns : List Node) where
  pub pair_plan : (op : Junction) (a b : Operand) {x y : Option Bool} {p : Plan}
      → x ≡ known (kind (formula_of ns a)) → y ≡ known (kind (formula_of ns b)) → p ≡ plan_of op x y
      → Says op p (junction op (formula_of ns a) (formula_of ns b)) (formula_of ns a) (formula_of ns b)
  pair_plan op a b {x} {y} {p} ex ey ep =
      let f = formula_of ns a in
      let g = formula_of ns b in
      let e : p ≡ plan_of op (known (kind (formula_of ns a))) (known (kind (formula_of ns b))) =
      ep ∙ (λ j. plan_of op (ex j) (ey j)) in
      subst (λ (q : Plan). Says op q (junction op f g) f g) (sym e) (plan_says op f g)

  half : (a b : Operand) {x y z : Option Bool}
      → x ≡ known (kind (formula_of ns a)) → y ≡ known (kind (formula_of ns b)) → z ≡ joint And x y
      → z ≡ known (kind (junction And (formula_of ns a) (formula_of ns b)))
  half a b ex ey ez = ez ∙ (λ j. joint And (ex j) (ey j)) ∙ sym (kind_junction And (formula_of ns a) (formula_of ns b))

  -- an equivalence, where m and n are the negations of its two operands
  pub equivalence_plan : (a b : ℕ) (s : Bool) {m n : Operand} {x y z w both neither : Option Bool} {l : Plan}
      → Negates (operand a true) m → Negates (operand b s) n
      → x ≡ known (kind (formula_of ns (operand a true))) → y ≡ known (kind (formula_of ns (operand b s)))
      → z ≡ known (kind (formula_of ns m)) → w ≡ known (kind (formula_of ns n))
      → both ≡ joint And x y → neither ≡ joint And z w → l ≡ plan_of Or both neither
      → Says Or l (equivalence_of ns a b s) (both_of ns a b s) (junction And (formula_of ns m) (formula_of ns n))
  equivalence_plan a b s {m} {n} {x} {y} {z} {w} {both} {neither} {l} am bn ex ey ez ew e g el =
      let p = operand a true in
      let q = operand b s in
      let f = both_of ns a b s in
      let h = junction And (formula_of ns m) (formula_of ns n) in
      let is : equivalence_of ns a b s ≡ junction Or (both_of ns a b s) (junction And (formula_of ns m) (formula_of ns n)) =
      λ j. junction Or (both_of ns a b s) (junction And (formula_of ns (sym (negation_is am) j)) (formula_of ns (sym (negation_is bn) j))) in
      let e' : l ≡ plan_of Or (known (kind (both_of ns a b s)))
      (known (kind (junction And (formula_of ns m) (formula_of ns n)))) =
      el ∙ (λ j. plan_of Or (half (operand a true) (operand b s) ex ey e j) (half m n ez ew g j)) in
      subst (λ (t : Tree). Says Or l t f h) (sym is) (subst (λ (t : Plan). Says Or t (junction Or f h) f h) (sym e') (plan_says Or f h))

-- ── nodes ──
literal : (s : Bool) (v : ℕ) → normal s (variable v) ≡ lit s v
literal true v = refl
literal false v = refl

constant_kind : (s b : Bool) → kind (normal s (constant_of b)) ≡ other → ⊥
constant_kind true true e = let z : ◌≡◌ {A = ℕ} 0 1 = cc in omega arith
constant_kind true false e = let z : ◌≡◌ {A = ℕ} 0 1 = cc in omega arith
constant_kind false true e = let z : ◌≡◌ {A = ℕ} 0 1 = cc in omega arith
constant_kind false false e = let z : ◌≡◌ {A = ℕ} 0 1 = cc in omega arith

module _ {ns : List Node} {cs : List (Option Bool)} (given : Given ns cs) (o : Operand) (h : o.node < length ns) where
  -- the node of an operand
  abbrev here : Node
  here = get_or ns o.node (node.Constant false)

  at_node_lem : (n : Node) → here ≡ n → slice_get ns o.node ≡ Some n
  at_node_lem n e = slice_get-get_or ns o.node (node.Constant false) h ∙ ap Some e

  below : (n : Node) → here ≡ n → parts_below o.node n ≡ true
  below n e = parts_below_lem ns o.node n given.ordered (at_node_lem n e)

  grown : (n : Node) → here ≡ n → formula_of ns o ≡ normal o.sign (grow (trees_of ns) n)
  unfolding formula_of
  grown n e = ap (normal o.sign) (tree_at_lem ns o.node n given.ordered (at_node_lem n e))

  pub node_constant_lem : (b : Bool) → here ≡ node.Constant b → kind (formula_of ns o) ≡ other → ⊥
  node_constant_lem b e k = constant_kind o.sign b (ap kind (sym (grown (node.Constant b) e)) ∙ k)

  pub node_variable : (v : ℕ) → here ≡ node.Variable v → formula_of ns o ≡ lit o.sign v
  node_variable v e = grown (node.Variable v) e ∙ literal o.sign v

  pub node_unary : (p : Prefix) (a : ℕ) → here ≡ node.Unary p a → (a < o.node) × (formula_of ns o ≡ unary_of ns p (operand a o.sign))
  unfolding unary_of
  node_unary p a e = (unary_below o.node a p (below (node.Unary p a) e), grown (node.Unary p a) e)

  pub node_binary : (c : Connective) (a b : ℕ) → here ≡ node.Binary c a b
      → (a < o.node) × (b < o.node) × (formula_of ns o ≡ binary_of ns c a b o.sign)
  unfolding binary_of
  node_binary c a b e =
      let l = binary_below o.node a b c (below (node.Binary c a b) e) in (l.0, l.1, grown (node.Binary c a b) e)

-- ── under a unary operator ──
pub unary_not : (ns : List Node) (o : Operand) → unary_of ns prefix.Not o ≡ formula_of ns (operand o.node (not o.sign))
unfolding unary_of formula_of
unary_not ns o = go o.sign
  where
    go : (s : Bool)
        → normal s (negation (get_or (trees_of ns) o.node truth)) ≡ normal (not s) (get_or (trees_of ns) o.node truth)
    go true = refl
    go false = refl

unless_other : (k : Kind) (w : Tree) → kind (unless_constant k w) ≡ other → unless_constant k w ≡ w
unless_other is_bot w e = let z : ◌≡◌ {A = ℕ} 0 1 = cc in absurd (omega arith)
unless_other is_top w e = let z : ◌≡◌ {A = ℕ} 0 1 = cc in absurd (omega arith)
unless_other other w e = refl

abbrev pub bounded_tree : Bool → ℕ → ℕ → Tree → Tree
bounded_tree true n m f = always n m f
bounded_tree false n m f = eventually n m f

next_by : (s : Bool) (n : ℕ) (w : Written) → kind (normal s (later n w)) ≡ other → normal s (later n w) ≡ next n (normal s w)
next_by true n w e = unless_other (kind (normal true w)) (next n (normal true w)) e
next_by false n w e = unless_other (kind (normal false w)) (next n (normal false w)) e

always_by : (s : Bool) (n m : ℕ) (w : Written) → kind (normal s (throughout n m w)) ≡ other
    → normal s (throughout n m w) ≡ bounded_tree s n m (normal s w)
always_by true n m w e = unless_other (kind (normal true w)) (always n m (normal true w)) e
always_by false n m w e = unless_other (kind (normal false w)) (eventually n m (normal false w)) e

eventually_by : (s : Bool) (n m : ℕ) (w : Written) → kind (normal s (within n m w)) ≡ other
    → normal s (within n m w) ≡ bounded_tree (not s) n m (normal s w)
eventually_by true n m w e = unless_other (kind (normal true w)) (eventually n m (normal true w)) e
eventually_by false n m w e = unless_other (kind (normal false w)) (always n m (normal false w)) e

module _ (ns : List Node) (o : Operand) where
  pub unary_next : (n : ℕ) → kind (unary_of ns (prefix.Next n) o) ≡ other → unary_of ns (prefix.Next n) o ≡ next n (formula_of ns o)
  unfolding unary_of formula_of
  unary_next n e = next_by o.sign n (get_or (trees_of ns) o.node truth) e

  pub unary_always : (n m : ℕ) → kind (unary_of ns (prefix.Always n m) o) ≡ other
      → unary_of ns (prefix.Always n m) o ≡ bounded_tree o.sign n m (formula_of ns o)
  unfolding unary_of formula_of
  unary_always n m e = always_by o.sign n m (get_or (trees_of ns) o.node truth) e

  pub unary_eventually : (n m : ℕ) → kind (unary_of ns (prefix.Eventually n m) o) ≡ other
      → unary_of ns (prefix.Eventually n m) o ≡ bounded_tree (not o.sign) n m (formula_of ns o)
  unfolding unary_of formula_of
  unary_eventually n m e = eventually_by o.sign n m (get_or (trees_of ns) o.node truth) e

-- ── under a binary operator ──
module _ (ns : List Node) (a b : ℕ) where
  pub binary_and : (s : Bool)
      → binary_of ns connective.And a b s ≡ junction (under And s) (formula_of ns (operand a s)) (formula_of ns (operand b s))
  unfolding binary_of formula_of
  binary_and true = refl
  binary_and false = refl

  pub binary_or : (s : Bool)
      → binary_of ns connective.Or a b s ≡ junction (under Or s) (formula_of ns (operand a s)) (formula_of ns (operand b s))
  unfolding binary_of formula_of
  binary_or true = refl
  binary_or false = refl

  pub binary_implies : (s : Bool)
      → binary_of ns connective.Implies a b s ≡ junction (under Or s) (formula_of ns (operand a (not s))) (formula_of ns (operand b s))
  unfolding binary_of formula_of
  binary_implies true = refl
  binary_implies false = refl

  pub binary_equivalent : (s : Bool) → binary_of ns connective.Equivalent a b s ≡ equivalence_of ns a b s
  unfolding binary_of formula_of
  binary_equivalent true = refl
  binary_equivalent false = refl
