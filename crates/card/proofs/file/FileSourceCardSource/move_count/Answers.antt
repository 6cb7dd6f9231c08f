use Rattle.std.proofs.Common.{sym}
use Rattle.card.specs.Layout.{move_at}
use Rattle.card.specs.Trailer.{moves_from}
use Rattle.card.proofs.Rows.{entries_length}
use Rattle.card.proofs.file.FileSourceCardSource.move_count.Goals as goal

pub returns : goal.returns
returns c = let s = c.args.self.now in sym (entries_length (move_at s.bytes.now) 10 (moves_from s.counts.formulas s.counts.labels s.counts.nodes) s.counts.moves)
