use Rattle.std.proofs.Common.{Some, ap, ◌∙◌}
use Rattle.records.specs.declared.FormulaRecord.{FormulaRecord}
use Rattle.formed.proofs.Copies.{read_some}
use Rattle.formed.proofs.table.copy.formula_below.Goals as goal

pub returns : goal.returns
returns g c = λ below within.
    let blank : FormulaRecord = record { kind = 0; variable = 0; a = 0; b = 0; n = 0; m = 0 } in
    ap Some c.unwrap_or.ensures
    ∙ read_some (g.S.CardSource.card c.args.source.now).formulas c.args.place c.formula_at.result blank c.formula_at.ensures within
