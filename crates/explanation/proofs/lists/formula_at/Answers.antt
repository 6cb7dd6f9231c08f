use Rattle.std.proofs.Common.{rules}
use Rattle.rules.specs.Shown.{view}
use Rattle.explanation.specs.Explanation.{formula_line}
use Rattle.explanation.proofs.Sections.{numbered_mapped}
use Rattle.explanation.proofs.lists.formula_at.Goals as goal

pub returns-clause-text : goal.returns-clause-text
returns-clause-text c =
    numbered_mapped (formula_line (view c.args.specification.now).names) _ c.args.k _ c.map.result c.formula.ensures (λ x l p. search rules)
    c.map.ensures.cases
