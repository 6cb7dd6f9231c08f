-- The nodes at their places: their parts, their trees, their constants.
use Rattle.std.proofs.Common.{◌≡◌, ℕ, zero, suc, ◌+◌, ◌<◌, Bool, true, false, ltb, List, [], ◌∷◌, get_or, Some, None, Option, sym, refl, ap, ◌∙◌, subst, arith}
use Rattle.std.specs.List.{slice_get}
use Rattle.std.proofs.lemmas.Bool.{and_parts, ltb-true}
use Rattle.temporal.specs.Formula.{next, always, eventually, kind}
use Rattle.temporal.specs.Written.{Written, truth, normal}
use Rattle.nodes.specs.declared.node.Node.{Node}
use Rattle.nodes.specs.declared.node.Node.TheVariants as node
use Rattle.nodes.specs.declared.node.Prefix.{Prefix}
use Rattle.nodes.specs.declared.node.Prefix.TheVariants as prefix
use Rattle.nodes.specs.declared.node.Connective.{Connective}
use Rattle.nodes.specs.declared.node.Connective.TheVariants as connective
use Rattle.nodes.specs.Trees.{grow, apply, join, trees_of, parts_below, ordered_from, ordered}
use Rattle.formulas.proofs.Folds.{Alike, built_at}
use Rattle.formulas.specs.declared.junction.Junction.TheVariants.{And, Or}
use Rattle.normal.specs.Constants.{known, junction, joint, under_prefix, under_connective, node_constant, constant_at}
use Rattle.normal.proofs.Filled.{Filled, filled_at}
use Rattle.normal.proofs.Folding.{kind_unless, kind_junction, kind_opposite}

alike : Alike grow truth parts_below
alike ts us (node.Constant b) i h k = refl
alike ts us (node.Variable v) i h k = refl
alike ts us (node.Unary p a) i h k = ap (apply p) (k a (ltb-true a i h))
alike ts us (node.Binary c a b) i h k =
    let p = and_parts (ltb a i) (ltb b i) h in λ j. join c (k a (ltb-true a i p.0) j) (k b (ltb-true b i p.1) j)

from_at : (i : ℕ) (ns : List Node) (j : ℕ) (n : Node) → ordered_from i ns ≡ true → slice_get ns j ≡ Some n → parts_below (i + j) n ≡ true
from_at i [] j n o e = let z : ◌≡◌ {A = ℕ} 0 1 = cc in absurd (omega arith)
from_at i (x ∷ ns) zero n o e =
    let s : x ≡ n = cc in
    let k : i + 0 ≡ i = omega arith in
    rw k (subst (λ (y : Node). parts_below i y ≡ true) s (and_parts (parts_below i x) (ordered_from (suc i) ns) o).0)
from_at i (x ∷ ns) (suc j) n o e =
    let k : i + suc j ≡ suc i + j = omega arith in
    rw k (from_at (suc i) ns j n (and_parts (parts_below i x) (ordered_from (suc i) ns) o).1 e)

-- the parts of a node stand before it
pub parts_below_lem : (ns : List Node) (i : ℕ) (n : Node) → ordered ns ≡ true → slice_get ns i ≡ Some n → parts_below i n ≡ true
parts_below_lem ns i n o e =
    let k : 0 + i ≡ i = omega arith in subst (λ (j : ℕ). parts_below j n ≡ true) k (from_at 0 ns i n o e)

pub unary_below : (i a : ℕ) (p : Prefix) → parts_below i (node.Unary p a) ≡ true → a < i
unary_below i a p h = ltb-true a i h

pub binary_below : (i a b : ℕ) (c : Connective) → parts_below i (node.Binary c a b) ≡ true → (a < i) × (b < i)
binary_below i a b c h = let p = and_parts (ltb a i) (ltb b i) h in (ltb-true a i p.0, ltb-true b i p.1)

-- a node stands for what it is built of
pub tree_at_lem : (ns : List Node) (i : ℕ) (n : Node) → ordered ns ≡ true → slice_get ns i ≡ Some n
    → get_or (trees_of ns) i truth ≡ grow (trees_of ns) n
tree_at_lem ns i n o e = built_at grow truth parts_below alike ns i n e (parts_below_lem ns i n o e)

-- ── constants ──
abbrev K : Written → Option Bool
K w = known (kind (normal true w))

under_prefix_lem : (p : Prefix) (w : Written) → K (apply p w) ≡ under_prefix p (K w)
under_prefix_lem prefix.Not w = kind_opposite w
under_prefix_lem (prefix.Next n) w = ap known (kind_unless (kind (normal true w)) (next n (normal true w)) refl)
under_prefix_lem (prefix.Always n m) w = ap known (kind_unless (kind (normal true w)) (always n m (normal true w)) refl)
under_prefix_lem (prefix.Eventually n m) w = ap known (kind_unless (kind (normal true w)) (eventually n m (normal true w)) refl)

under_connective_lem : (c : Connective) (w v : Written) → K (join c w v) ≡ under_connective c (K w) (K v)
under_connective_lem connective.And w v = kind_junction And (normal true w) (normal true v)
under_connective_lem connective.Or w v = kind_junction Or (normal true w) (normal true v)
under_connective_lem connective.Implies w v =
    kind_junction Or (normal false w) (normal true v) ∙ ap (λ a. joint Or a (K v)) (kind_opposite w)
under_connective_lem connective.Equivalent w v =
    kind_junction Or (junction And (normal true w) (normal true v)) (junction And (normal false w) (normal false v))
    ∙ (λ j. joint Or (kind_junction And (normal true w) (normal true v) j) (kind_junction And (normal false w) (normal false v) j))
    ∙ (λ j. joint Or (joint And (K w) (K v)) (joint And (kind_opposite w j) (kind_opposite v j)))

grown : (ts : List Written) (cs : List (Option Bool)) (i : ℕ) (n : Node) → parts_below i n ≡ true
    → ((k : ℕ) → k < i → get_or cs k None ≡ K (get_or ts k truth)) → node_constant cs n ≡ K (grow ts n)
grown ts cs i (node.Constant true) b h = refl
grown ts cs i (node.Constant false) b h = refl
grown ts cs i (node.Variable v) b h = refl
grown ts cs i (node.Unary p a) b h = ap (under_prefix p) (h a (unary_below i a p b)) ∙ sym (under_prefix_lem p (get_or ts a truth))
grown ts cs i (node.Binary c x y) b h =
    let l = binary_below i x y c b in
    (λ j. under_connective c (h x l.0 j) (h y l.1 j)) ∙ sym (under_connective_lem c (get_or ts x truth) (get_or ts y truth))

-- the constant of a node, by a list of the constants before it
pub constant_step : (ns : List Node) (cs : List (Option Bool)) (i : ℕ) (n : Node) → ordered ns ≡ true → slice_get ns i ≡ Some n
    → Filled (constant_at ns) None i cs → node_constant cs n ≡ constant_at ns i
unfolding constant_at
constant_step ns cs i n o e f =
    grown (trees_of ns) cs i n (parts_below_lem ns i n o e) (λ k h. filled_at (constant_at ns) None cs i k f h)
    ∙ ap K (sym (tree_at_lem ns i n o e))
