use Rattle.grammar.proofs.laws.refused_token_is_final.Goals as goal
use Rattle.grammar.proofs.Refusal.{refused_token_is_final}

pub returns : goal.returns
returns c = refused_token_is_final
