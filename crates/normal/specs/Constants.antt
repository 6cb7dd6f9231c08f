-- Which formulas have a constant as their normal form.
use Rattle.std.specs.Prelude.{◌≡◌, ℕ, ◌<◌, Bool, true, false, not, List, length, Some, None, Option, slice_index_or}
use Rattle.temporal.specs.Formula.{Formula, Kind, is_bot, is_top, other, kind, conjoin, disjoin}
use Rattle.temporal.specs.Written.{truth, normal}
use Rattle.nodes.specs.declared.node.Node.{Node}
use Rattle.nodes.specs.declared.node.Node.TheVariants as node
use Rattle.nodes.specs.declared.node.Prefix.{Prefix}
use Rattle.nodes.specs.declared.node.Prefix.TheVariants as prefix
use Rattle.nodes.specs.declared.node.Connective.{Connective}
use Rattle.nodes.specs.declared.node.Connective.TheVariants as connective
use Rattle.nodes.specs.Trees.{trees_of}
use Rattle.formulas.specs.declared.junction.Junction.{Junction}
use Rattle.formulas.specs.declared.junction.Junction.TheVariants.{And, Or}
use Rattle.normal.specs.declared.constants.Plan.{Plan}
use Rattle.normal.specs.declared.constants.Plan.TheVariants.{Constant, First, Second, Both}

-- the constant that a formula of this kind is
abbrev pub known : Kind → Option Bool
known is_bot = Some false
known is_top = Some true
known other = None

-- the conjunction or disjunction of two formulas, simplified
abbrev pub junction : Junction → Formula → Formula → Formula
junction And f g = conjoin f g
junction Or f g = disjoin f g

abbrev pub opposite : Option Bool → Option Bool
opposite (Some b) = Some (not b)
opposite None = None

-- how to make a conjunction or disjunction whose parts are these constants, if any: it is a constant, or one part, or it needs both
abbrev pub plan_of : Junction → Option Bool → Option Bool → Plan
plan_of And (Some true) b = Second
plan_of And (Some false) b = Constant false
plan_of And None (Some true) = First
plan_of And None (Some false) = Constant false
plan_of And None None = Both
plan_of Or (Some false) b = Second
plan_of Or (Some true) b = Constant true
plan_of Or None (Some false) = First
plan_of Or None (Some true) = Constant true
plan_of Or None None = Both

-- the constant that is made so
abbrev pub planned : Plan → Option Bool → Option Bool → Option Bool
planned (Constant x) a b = Some x
planned First a b = a
planned Second a b = b
planned Both a b = None

-- the constant that a conjunction or disjunction is, given those that its parts are
abbrev pub joint : Junction → Option Bool → Option Bool → Option Bool
joint op a b = planned (plan_of op a b) a b

abbrev pub under_prefix : Prefix → Option Bool → Option Bool
under_prefix prefix.Not a = opposite a
under_prefix (prefix.Next n) a = a
under_prefix (prefix.Always n m) a = a
under_prefix (prefix.Eventually n m) a = a

abbrev pub under_connective : Connective → Option Bool → Option Bool → Option Bool
under_connective connective.And a b = joint And a b
under_connective connective.Or a b = joint Or a b
under_connective connective.Implies a b = joint Or (opposite a) b
under_connective connective.Equivalent a b = joint Or (joint And a b) (joint And (opposite a) (opposite b))

-- the constant that a node is, given those that the nodes before it are
abbrev pub node_constant : List (Option Bool) → Node → Option Bool
node_constant cs (node.Constant b) = Some b
node_constant cs (node.Variable v) = None
node_constant cs (node.Unary p a) = under_prefix p (slice_index_or cs a None)
node_constant cs (node.Binary c a b) = under_connective c (slice_index_or cs a None) (slice_index_or cs b None)

-- the constant that the normal form of node i is
unfoldable pub constant_at : List Node → ℕ → Option Bool
constant_at ns i = known (kind (normal true (slice_index_or (trees_of ns) i truth)))

-- a list has the constant of each node
abbrev pub Known : List Node → List (Option Bool) → Type 0
Known ns cs = (i : ℕ) → i < length ns → slice_index_or cs i None ≡ constant_at ns i
