use Rattle.temporal.proofs.definitions_say_what_they_are_called.Goals as goal
use Rattle.temporal.proofs.Truth.{every_out, every_in, some_out, some_in, from_at}
use Rattle.temporal.proofs.Same.{same_tells}
use Rattle.temporal.proofs.Runs.{step_exact}

pub returns : goal.returns
returns c = record {
  step = step_exact;
  ranges = λ P n m. ((every_out P n m, every_in P n m), (some_out P n m, λ h. some_in P n m h.0 h.1 h.2 h.3));
  from = from_at;
  same = same_tells;
}
