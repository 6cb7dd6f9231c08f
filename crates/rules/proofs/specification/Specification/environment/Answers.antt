use Rattle.std.proofs.Common.{◌∙◌, rules}
use Rattle.std.proofs.lemmas.Iterator.{YieldsList-from_slice}
use Rattle.std.proofs.lemmas.Iterator.Consumers.{YieldsList-from_filter, nth_from_yields_List}
use Rattle.grammar.specs.Numbering.{environmental}
use Rattle.rules.specs.Shown.{view}
use Rattle.rules.proofs.specification.Specification.environment.Goals as goal

pub returns : goal.returns
returns c =
    c.copied.ensures
    ∙ nth_from_yields_List c.nth.result _ c.args.i c.nth.ensures.ran
    (YieldsList-from_filter _ environmental (YieldsList-from_slice (view c.args.self.now).names cc) c.filter-names.ensures.closure (λ x b q h. search rules))
