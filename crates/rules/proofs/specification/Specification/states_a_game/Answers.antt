use Rattle.rules.proofs.Sound.{spec_sound}
use Rattle.rules.proofs.specification.Specification.states_a_game.Goals as goal

pub returns : goal.returns
returns c = spec_sound c.args.self.now
