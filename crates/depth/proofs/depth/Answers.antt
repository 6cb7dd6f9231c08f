use Rattle.std.proofs.Common.{◌≡◌, ℕ, ◌+◌, ◌-◌, ◌<◌, length, ◌∙◌, subst, arith, length-set}
use Rattle.depth.proofs.Passes.{Passed, node_depth, passed_more}
use Rattle.depth.proofs.depth.Goals as goal

pub loop-n-preserved : goal.loop-n-preserved
loop-n-preserved g c =
    let raw = g.S.CardSource.card c.args.source.now in
    let n : ℕ = c.loop-n.n - 1 in
    let taken = c.loop-n-test.true in
    let next : c.loop-n.n ≡ n + 1 = omega arith in
    let room : n < length c.loop-n.depths = omega (arith, c.loop-n.invariant.0, c.loop-n.auto.n) in
    let there : n < length raw.nodes = omega (arith, c.loop-n.auto.n, c.min-n.ensures, c.node_count.ensures) in (
      length-set c.loop-n.depths n c.above.result ∙ c.loop-n.invariant.0,
      λ ok.
          let before : Passed raw c.loop-n.depths (n + 1) =
          subst (λ (x : ℕ). Passed raw c.loop-n.depths x) next (c.loop-n.invariant.1 ok) in
          passed_more raw ok c.loop-n.depths n c.above.result room before there
          (c.above.ensures ∙ node_depth raw ok c.loop-n.depths n c.deepest_target.result c.node_of-node.result c.node_of-node.ensures there before c.deepest_target.ensures),
    )
