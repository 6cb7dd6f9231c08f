use Rattle.grammar.proofs.laws.text_reads_as_what_it_derives.Goals as goal
use Rattle.grammar.proofs.Reading.{reads_what_is_derived}

pub returns : goal.returns
returns c = reads_what_is_derived
