-- Operands, which are nodes and their negations, and what they stand for, also under the operators.
use Rattle.std.specs.Prelude.{◌≡◌, ℕ, ◌+◌, ◌*◌, ◌≤◌, Bool, true, false, not, List, length, Option, slice_index_or}
use Rattle.temporal.specs.Formula.{Formula as Tree}
use Rattle.temporal.specs.Written.{truth, normal}
use Rattle.nodes.specs.declared.node.Node.{Node}
use Rattle.nodes.specs.declared.node.Prefix.{Prefix}
use Rattle.nodes.specs.declared.node.Connective.{Connective}
use Rattle.nodes.specs.Trees.{trees_of, apply, join, ordered as in_order}
use Rattle.normal.specs.declared.operand.Operand.{Operand}
use Rattle.formulas.specs.declared.junction.Junction.TheVariants.{And, Or}
use Rattle.normal.specs.Constants.{Known, junction}

-- the place of node i (true) or its negation (false) among all operands
abbrev pub place_of : Bool → ℕ → ℕ
place_of true i = 2 * i + 1
place_of false i = 2 * i

-- the formula that an operand stands for
unfoldable pub formula_of : List Node → Operand → Tree
formula_of ns o = normal o.sign (slice_index_or (trees_of ns) o.node truth)

-- node i (true) or its negation (false)
abbrev pub operand : ℕ → Bool → Operand
operand i s = record { node = i; sign = s }

-- m is the negation of o
pub record Negates (o m : Operand) : Type 0 where
  pub node : m.node ≡ o.node
  pub sign : m.sign ≡ not o.sign

-- what an operand stands for under a unary operator, or two under a binary one
unfoldable pub unary_of : List Node → Prefix → Operand → Tree
unary_of ns p o = normal o.sign (apply p (slice_index_or (trees_of ns) o.node truth))

unfoldable pub binary_of : List Node → Connective → ℕ → ℕ → Bool → Tree
binary_of ns c a b s = normal s (join c (slice_index_or (trees_of ns) a truth) (slice_index_or (trees_of ns) b truth))

-- the two conjunctions that an equivalence is made of
abbrev pub both_of : List Node → ℕ → ℕ → Bool → Tree
both_of ns a b s = junction And (formula_of ns (operand a true)) (formula_of ns (operand b s))

abbrev pub neither_of : List Node → ℕ → ℕ → Bool → Tree
neither_of ns a b s = junction And (formula_of ns (operand a false)) (formula_of ns (operand b (not s)))

abbrev pub equivalence_of : List Node → ℕ → ℕ → Bool → Tree
equivalence_of ns a b s = junction Or (both_of ns a b s) (neither_of ns a b s)

-- the nodes are in order, and their constants known
pub record Given (ns : List Node) (cs : List (Option Bool)) : Type 0 where
  pub few : length ns ≤ 1024
  pub ordered : in_order ns ≡ true
  pub known : Known ns cs
