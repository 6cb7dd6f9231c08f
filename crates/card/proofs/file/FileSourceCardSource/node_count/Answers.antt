use Rattle.std.proofs.Common.{sym}
use Rattle.card.specs.Layout.{node_at}
use Rattle.card.specs.Trailer.{nodes_from}
use Rattle.card.proofs.Rows.{entries_length}
use Rattle.card.proofs.file.FileSourceCardSource.node_count.Goals as goal

pub returns : goal.returns
returns c = let s = c.args.self.now in sym (entries_length (node_at s.bytes.now) 8 (nodes_from s.counts.formulas s.counts.labels) s.counts.nodes)
