use Rattle.std.proofs.Common.{◌+◌, ◌*◌, ℕ, Some, sym, ap, ◌∙◌, arith}
use Rattle.card.proofs.Rows.{entries_in, entries_past}
use Rattle.card.proofs.file.FileSource.entry.Goals as goal

pub returns-then-i-count : goal.returns-then-i-count
returns-then-i-count g c =
    sym (entries_past (g.E.Stored.read_from c.args.self.now.bytes.now) g.E.Stored.SIZE c.args.start c.args.count c.args.i (omega arith))

pub returns : goal.returns
returns g c =
    ap Some c.read.ensures
    ∙ sym (entries_in (g.E.Stored.read_from c.args.self.now.bytes.now) g.E.Stored.SIZE c.args.start c.args.count c.args.i _ (omega arith)
    (ap (λ (n : ℕ). c.args.start + n * c.args.i) (sym c.SIZE.ensures)))
