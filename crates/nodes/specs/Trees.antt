-- The formulas that a list of nodes stands for, each built of earlier ones.
use Rattle.std.specs.Prelude.{ℕ, suc, Bool, true, false, ◌&&◌, List, [], ◌∷◌, ◌++◌, fold, nat_lt, slice_index_or}
use Rattle.temporal.specs.Written.{Written, falsity, truth, variable, negation, later, throughout, within, conjunction, disjunction, implication, equivalence}
use Rattle.nodes.specs.declared.node.Node.{Node}
use Rattle.nodes.specs.declared.node.Node.TheVariants as node
use Rattle.nodes.specs.declared.node.Prefix.{Prefix}
use Rattle.nodes.specs.declared.node.Prefix.TheVariants as prefix
use Rattle.nodes.specs.declared.node.Connective.{Connective}
use Rattle.nodes.specs.declared.node.Connective.TheVariants as connective

abbrev pub constant_of : Bool → Written
constant_of true = truth
constant_of false = falsity

-- a unary operator before t
abbrev pub apply : Prefix → Written → Written
apply prefix.Not t = negation t
apply (prefix.Next n) t = later n t
apply (prefix.Always n m) t = throughout n m t
apply (prefix.Eventually n m) t = within n m t

-- t and u under a binary operator
abbrev pub join : Connective → Written → Written → Written
join connective.And t u = conjunction t u
join connective.Or t u = disjunction t u
join connective.Implies t u = implication t u
join connective.Equivalent t u = equivalence t u

-- what a node stands for, given what the nodes before it stand for
abbrev pub grow : List Written → Node → Written
grow ts (node.Constant b) = constant_of b
grow ts (node.Variable v) = variable v
grow ts (node.Unary p a) = apply p (slice_index_or ts a truth)
grow ts (node.Binary c a b) = join c (slice_index_or ts a truth) (slice_index_or ts b truth)

abbrev pub trees_of : List Node → List Written
trees_of ns = fold (λ ts n. ts ++ grow ts n ∷ []) [] ns

-- the parts of a node stand before place i
abbrev pub parts_below : ℕ → Node → Bool
parts_below i (node.Constant b) = true
parts_below i (node.Variable v) = true
parts_below i (node.Unary p a) = nat_lt a i
parts_below i (node.Binary c a b) = nat_lt a i && nat_lt b i

-- parts before wholes, in a list whose first node has the place i
abbrev pub ordered_from : ℕ → List Node → Bool
ordered_from i [] = true
ordered_from i (x ∷ xs) = parts_below i x && ordered_from (suc i) xs

abbrev pub ordered : List Node → Bool
ordered ns = ordered_from 0 ns
