-- The kind and the counts by the trailer of a file.
use Rattle.std.specs.Prelude.{ℕ, List}
use Rattle.card.specs.Trailer.{field}
use Rattle.card.specs.declared.counts.Counts.{Counts}

abbrev pub counts_in : List ℕ → Counts
counts_in bs = record { kind = field bs 8; formulas = field bs 1; labels = field bs 3; nodes = field bs 5; moves = field bs 7 }
