use Rattle.names.proofs.Words.{word_name_lem}
use Rattle.names.proofs.names_keep_words.Goals as goal

pub returns : goal.returns
returns c = word_name_lem
