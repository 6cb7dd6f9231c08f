use Rattle.temporal.proofs.parts_are_listed_once.Goals as goal
use Rattle.temporal.proofs.Same.{member_tells}
use Rattle.temporal.proofs.Parts.{entered, enter_extends, enter_closed, enter_member, parts_once, parts_closed, parts_first, parts_second}

pub returns : goal.returns
returns c = record {
  members = member_tells;
  entered = entered;
  extends = enter_extends;
  closed = λ ys f h. (enter_closed ys f h, enter_member ys f h);
  all = λ α ψ. (parts_once α ψ, parts_closed α ψ, parts_first α ψ, parts_second α ψ);
}
