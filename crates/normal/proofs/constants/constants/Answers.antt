use Rattle.std.proofs.Common.{◌≡◌, ◌<◌, false, length, get_or, Some, None, refl, ◌∙◌, arith}
use Rattle.std.specs.List.{slice_get}
use Rattle.nodes.specs.declared.node.Node.TheVariants.{Constant}
use Rattle.std.proofs.lemmas.List.{length-set}
use Rattle.std.proofs.lemmas.Option.{slice_get-get_or}
use Rattle.normal.specs.Constants.{constant_at}
use Rattle.normal.proofs.Filled.{filled_none, filled_more}
use Rattle.normal.proofs.Places.{constant_step}
use Rattle.normal.proofs.constants.constants.Goals as goal

pub loop-i-init : goal.loop-i-init
loop-i-init c = (filled_none (constant_at c.args.nodes.now) None 1024, refl)

pub loop-i-preserved : goal.loop-i-preserved
loop-i-preserved c =
    let ns = c.args.nodes.now in
    let i = c.loop-i.i in
    let cs = c.loop-i.constants in
    let n = get_or c.args.nodes.now c.loop-i.i (Constant false) in
    let at : slice_get c.args.nodes.now c.loop-i.i ≡ Some n =
    slice_get-get_or c.args.nodes.now c.loop-i.i (Constant false) c.loop-i-test.true in
    let lt : c.loop-i.i < length c.loop-i.constants = omega (arith, c.loop-i.invariant.1) in (
      filled_more (constant_at c.args.nodes.now) None c.loop-i.constants c.loop-i.i c.node_constant.result lt
          c.loop-i.invariant.0
          (c.node_constant.ensures ∙ constant_step ns cs i n c.requires.ordered at c.loop-i.invariant.0),
      length-set c.loop-i.constants c.loop-i.i c.node_constant.result ∙ c.loop-i.invariant.1,
    )
