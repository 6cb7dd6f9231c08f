use Rattle.std.proofs.Common.{◌≡◌, ℕ, ◌+◌, ◌-◌, ◌<◌, length}
use Rattle.grammar.specs.Sections.{lines_in}
use Rattle.parser.specs.Reading.{tree_at, state_at, Went}
use Rattle.parser.proofs.reader.Reader.safety.Given as goal

-- some number of further lines is left, more than the bytes behind the part so far
abbrev pub invariant-rows : goal.invariant-rows
invariant-rows l =
    (n : ℕ) × (length l.text < n + l.part.next)
    × (lines_in l.text (length l.text) (tree_at l.initial.self l.initial.part.root) (state_at l.initial.self l.initial.part.next)
    ≡ lines_in l.text n (tree_at l.self l.part.root) (state_at l.self l.part.next))
    × Went 0 l.text l.initial.part.next l.initial.self l.self l.slots l.part

abbrev pub decreases-rows : goal.decreases-rows
decreases-rows l = length l.text - l.part.next
