use Rattle.std.proofs.Common.{◌≡◌, ℕ, ◌+◌, ◌-◌, ◌*◌, ◌≤◌, length}
use Rattle.grammar.specs.Grammar.{more}
use Rattle.parser.specs.Reading.{tree_at, state_at, Went, operand_with}
use Rattle.parser.proofs.Ranks.{tightness}
use Rattle.parser.proofs.reader.Reader.+arrow_chain_operand_unary.Given as goal

abbrev pub decreases-arrow : goal.decreases-arrow
decreases-arrow l = 10 * l.left + tightness l.by + 1

abbrev pub decreases-chain : goal.decreases-chain
decreases-chain l = 10 * l.left + tightness l.by + 1

abbrev pub decreases-operand : goal.decreases-operand
decreases-operand l = 10 * l.left + tightness l.of

abbrev pub decreases-unary : goal.decreases-unary
decreases-unary l = 10 * l.left

-- some number of further operands is left, no fewer than the bytes behind the part so far
abbrev pub invariant-chain-operands : goal.invariant-chain-operands
invariant-chain-operands l =
    (n : ℕ) × (length l.text ≤ n + l.part.next)
    × (more l.text l.by (operand_with l.left l.by l.text) (length l.text) (tree_at l.initial.self l.initial.part.root)
    (state_at l.initial.self l.initial.part.next)
    ≡ more l.text l.by (operand_with l.left l.by l.text) n (tree_at l.self l.part.root) (state_at l.self l.part.next))
    × Went 0 l.text l.initial.part.next l.initial.self l.self l.slots l.part

abbrev pub decreases-chain-operands : goal.decreases-chain-operands
decreases-chain-operands l = length l.text - l.part.next
