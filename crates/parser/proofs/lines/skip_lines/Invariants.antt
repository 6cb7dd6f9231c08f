use Rattle.std.proofs.Common.{◌≡◌, ℕ, ◌+◌, ◌-◌, ◌≤◌, length}
use Rattle.grammar.specs.Sections.{past_lines}
use Rattle.parser.proofs.lines.skip_lines.Given as goal

-- some number of further lines is left, no fewer than the bytes behind `next`
abbrev pub invariant-lines : goal.invariant-lines
invariant-lines l =
    (n : ℕ) × (length l.text ≤ n + l.next) × (past_lines l.text (length l.text) l.at ≡ past_lines l.text n l.next)

abbrev pub decreases-lines : goal.decreases-lines
decreases-lines l = length l.text - l.next
