use Rattle.std.proofs.Common.{◌≡◌, ℕ, min, length, take, ap, ◌∙◌, arith, rules}
use Rattle.std.specs.List.{slice_get}
use Rattle.formed.proofs.Copies.{made, copied}
use Rattle.formed.proofs.table.copy.formulas_of.Goals as goal

pub returns : goal.returns
returns g c =
    let fs = (g.S.CardSource.card c.args.source.now).formulas in
    let count : c.min-count.result ≡ min (length fs) 1024 = c.min-count.ensures ∙ ap (λ (k : ℕ). min k 1024) c.formula_count.ensures in
    let each = made _ _ c.from_fn.result (slice_get fs) (min (length fs) 1024)
    (λ i y q k. search (rules, count)) 1024 c.from_fn.ensures.items in
    ap (λ (k : ℕ). take k c.from_fn.result) count
    ∙ copied c.from_fn.result fs 1024 c.from_fn.ensures.items.long (λ k d l. each k d (omega arith) l)
