use Rattle.std.proofs.Common.{◌+◌, ◌*◌, max}
use Rattle.normal.proofs.builder.Builder.+binary_build_enter_equivalence_pair_unary.Given as goal

-- a node is entered after the nodes before it, and among the calls for one node each calls those below it here
abbrev pub decreases-enter : goal.decreases-enter
decreases-enter l = 8 * l.operand.node + 7

abbrev pub decreases-build : goal.decreases-build
decreases-build l = 8 * l.operand.node + 6

abbrev pub decreases-unary : goal.decreases-unary
decreases-unary l = 8 * l.part.node + 8

abbrev pub decreases-binary : goal.decreases-binary
decreases-binary l = 8 * max l.a l.b + 10

abbrev pub decreases-equivalence : goal.decreases-equivalence
decreases-equivalence l = 8 * max l.a l.b + 9

abbrev pub decreases-pair : goal.decreases-pair
decreases-pair l = 8 * max l.a.node l.b.node + 8
