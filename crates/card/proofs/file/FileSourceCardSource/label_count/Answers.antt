use Rattle.std.proofs.Common.{sym}
use Rattle.card.specs.Layout.{word_at}
use Rattle.card.specs.Trailer.{labels_from}
use Rattle.card.proofs.Rows.{entries_length}
use Rattle.card.proofs.file.FileSourceCardSource.label_count.Goals as goal

pub returns : goal.returns
returns c = let s = c.args.self.now in sym (entries_length (word_at s.bytes.now) 2 (labels_from s.counts.formulas) s.counts.labels)
