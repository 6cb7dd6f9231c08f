use Rattle.std.proofs.Common.{rules}
use Rattle.explanation.specs.Explanation.{environment_line}
use Rattle.explanation.proofs.Sections.{numbered_mapped}
use Rattle.explanation.proofs.lists.environment_at.Goals as goal

pub returns-clause-text : goal.returns-clause-text
returns-clause-text c = numbered_mapped environment_line _ c.args.i _ c.map.result c.environment.ensures (λ x l p. search rules) c.map.ensures.cases
