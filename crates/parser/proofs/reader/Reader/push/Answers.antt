use Rattle.std.proofs.Common.{refl, arith, length-take, length-set}
use Rattle.std.proofs.lemmas.List.{take_more_set}
use Rattle.parser.proofs.Trees.{pushed, pushed_order}
use Rattle.parser.proofs.reader.Reader.push.Goals as goal

pub invariant_of-self : goal.invariant_of-self
invariant_of-self c =
    let s = c.args.self.now in record {
      held = omega (arith, c.requires.room, s.held, length-set s.nodes s.count c.args.node);
      ordered = pushed_order s c.args.node (omega arith) c.requires.below;
    }

pub returns : goal.returns
returns c =
    let s = c.args.self.now in
    pushed _ _ _ _ _ (take_more_set s.nodes s.count c.args.node (omega arith))
    (omega (arith, length-take s.count s.nodes)) refl refl refl refl
