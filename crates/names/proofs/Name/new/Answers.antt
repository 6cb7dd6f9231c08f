use Rattle.std.proofs.Common.{◌≡◌, ◌++◌, length, drop, replicate, ap, ◌∙◌}
use Rattle.names.specs.Words.{at_most15}
use Rattle.names.proofs.Words.{padded, min_at_most15}
use Rattle.names.proofs.Name.new.Goals as goal

pub returns : goal.returns
returns c =
    let n = c.min-length.result in
    let w = c.args.word.now in
    let long : c.min-length.result ≡ at_most15 (length c.args.word.now) = c.min-length.ensures ∙ min_at_most15 (length c.args.word.now) in
    let bytes = ap (λ x. x ++ drop c.min-length.result (replicate 15 0)) c.copy_from_slice.ensures.after
    ∙ padded c.args.word.now c.min-length.result long in
    λ i. record { bytes = bytes i; length = long i }
