use Rattle.std.proofs.Common.{rules}
use Rattle.explanation.specs.Explanation.{system_line}
use Rattle.explanation.proofs.Sections.{numbered_mapped}
use Rattle.explanation.proofs.lists.system_at.Goals as goal

pub returns-clause-text : goal.returns-clause-text
returns-clause-text c = numbered_mapped system_line _ c.args.i _ c.map.result c.system.ensures (λ x l p. search rules) c.map.ensures.cases
