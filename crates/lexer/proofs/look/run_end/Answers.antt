use Rattle.std.proofs.Common.{ℕ, ◌-◌, ◌≤◌, List, length, drop, length-drop, arith}
use Rattle.std.proofs.lemmas.List.Sums.{prefix_len-le-length}
use Rattle.lexer.specs.declared.look.Class.{Class}
use Rattle.lexer.specs.Lexer.{is_in, run}
use Rattle.lexer.proofs.look.run_end.Goals as goal

-- a run ends in the text, or is empty behind it
run_fits : (k : Class) (text : List ℕ) (from : ℕ) → run k text from ≤ length text - from
run_fits k text from = omega (arith, prefix_len-le-length (is_in k) (drop from text), length-drop from text)

pub overflow_add-result : goal.overflow_add-result
overflow_add-result c = omega (arith, run_fits c.args.class c.args.text.now c.args.from)

pub returns-clause-bound : goal.returns-clause-bound
returns-clause-bound c =
    let fits = run_fits c.args.class c.args.text.now c.args.from in
    (λ inside. omega (arith, c.run_len.ensures, fits), omega arith)
