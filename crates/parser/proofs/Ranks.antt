-- The looser a binary operator, the higher; what stands beside it is below.
use Rattle.std.proofs.Common.{ℕ}
use Rattle.nodes.specs.declared.node.Connective.{Connective}
use Rattle.nodes.specs.declared.node.Connective.TheVariants as connective

abbrev pub tightness : Connective → ℕ
tightness connective.And = 1
tightness connective.Or = 3
tightness connective.Implies = 5
tightness connective.Equivalent = 7
