use Rattle.std.proofs.Common.{◌≡◌, ◌-◌, ap, ◌∙◌, arith}
use Rattle.std.specs.List.{slice_get}
use Rattle.rules.specs.Shown.{view}
use Rattle.explanation.specs.Explanation.{formula_lines, root_lines, system_lines}
use Rattle.explanation.proofs.Sections.{at_environment, at_system, at_formula, at_root_lem}
use Rattle.explanation.proofs.whole.specification_line.Goals as goal

pub returns-in_default-clause-text : goal.returns-in_default-clause-text
returns-in_default-clause-text c =
    at_environment (view c.args.specification.now) _ c.args.n c.environment_count.result c.environment_count.ensures
    (omega (arith, c.in_default.ensures)) c.environment_at.ensures.text

pub returns-in_default-checked_sub-clause-text : goal.returns-in_default-checked_sub-clause-text
returns-in_default-checked_sub-clause-text c =
    let v = view c.args.specification.now in
    let n = c.args.n in
    let a = c.environment_count.result in
    let after : c.in-Some.after_environment ≡ n - a = c.in-Some.ensures.1 in
    at_system v _ n a c.environment_count.ensures c.system_count.result c.system_count.ensures c.in-Some.ensures.0
    (omega (arith, after, c.in_default-checked_sub.ensures))
    (c.system_at.ensures.text ∙ ap (slice_get (system_lines v)) after)

pub returns-in_default-checked_sub-2-clause-text : goal.returns-in_default-checked_sub-2-clause-text
returns-in_default-checked_sub-2-clause-text c =
    let v = view c.args.specification.now in
    let n = c.args.n in
    let a = c.environment_count.result in
    let b = c.system_count.result in
    let s = c.in-Some-checked_sub.ensures in
    let after : c.in-Some-checked_sub.after_system ≡ n - a - b = omega (arith, c.in-Some.ensures.1, s.1) in
    at_formula v _ n a c.environment_count.ensures b c.system_count.ensures c.in-Some.ensures.0 c.formula_count.result c.formula_count.ensures
    (omega (arith, c.in-Some.ensures.1, s.0)) (omega (arith, after, c.in_default-checked_sub-2.ensures))
    (c.formula_at.ensures.text ∙ ap (slice_get (formula_lines v)) after)

pub returns-clause-text : goal.returns-clause-text
returns-clause-text c =
    let v = view c.args.specification.now in
    let n = c.args.n in
    let a = c.environment_count.result in
    let b = c.system_count.result in
    let d = c.formula_count.result in
    let s = c.in-Some-checked_sub.ensures in
    let t = c.in-Some-checked_sub-2.ensures in
    let after : c.in-Some-checked_sub-2.after_formulas ≡ n - a - b - d = omega (arith, c.in-Some.ensures.1, s.1, t.1) in
    at_root_lem v _ n a c.environment_count.ensures b c.system_count.ensures c.in-Some.ensures.0 d c.formula_count.ensures
    (omega (arith, c.in-Some.ensures.1, s.0)) (omega (arith, c.in-Some.ensures.1, s.1, t.0))
    (c.root_at.ensures.text ∙ ap (slice_get (root_lines v)) after)
