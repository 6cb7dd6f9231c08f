use Rattle.std.proofs.Common.{sym}
use Rattle.card.specs.Layout.{formula_at}
use Rattle.card.proofs.Rows.{entries_length}
use Rattle.card.proofs.file.FileSourceCardSource.formula_count.Goals as goal

pub returns : goal.returns
returns c = let s = c.args.self.now in sym (entries_length (formula_at s.bytes.now) 10 0 s.counts.formulas)
