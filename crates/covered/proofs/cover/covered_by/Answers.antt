use Rattle.covered.proofs.cover.covered_by.Goals as goal

pub returns-clause-law : goal.returns-clause-law
returns-clause-law c spec t S listed members = c.covered.ensures.law spec t S listed (c.hold.ensures.law spec t S listed members)
