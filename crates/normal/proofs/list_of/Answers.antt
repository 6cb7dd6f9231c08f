use Rattle.std.proofs.Common.{◌≡◌, ℕ, ◌-◌, ◌<◌, length, take, Option, sym, subst, arith}
use Rattle.normal.specs.declared.table.Formulas.{Formulas}
use Rattle.normal.specs.Building.{ListedBy, Listed, parts_for}
use Rattle.normal.proofs.Whole.{initial_over, whole, whole_rooted, finished}
use Rattle.normal.proofs.list_of.Goals as goal

pub enter-requires-clause-ready : goal.enter-requires-clause-ready
enter-requires-clause-ready c = c.new-builder.ensures.ready _

pub returns-in_err-first : goal.returns-in_err-first
returns-in_err-first c =
    let s = c.args.syntax.now in
    let all : c.args.syntax.now.count - 0 ≡ c.args.syntax.now.count = omega arith in
    subst (λ (r : Option Formulas). ListedBy (take s.count s.nodes) s.initial s.safety c.enter.new.slots r) (sym c.from_residual.ensures)
    (subst (λ (n : ℕ). 256 < length (parts_for (take n s.nodes) s.initial s.safety)) all
    (initial_over (take (s.count - 0) s.nodes) s.initial s.safety c.new-builder.new.slots c.new-builder.result c.new-builder.ensures
    c.in_err-first.ensures))

pub finish-requires-clause-rooted : goal.finish-requires-clause-rooted
finish-requires-clause-rooted c =
    let s = c.args.syntax.now in
    let ns = take (s.count - 0) s.nodes in
    let w = whole ns s.initial s.safety c.new-builder.new.slots c.new-builder.result
    c.new-builder.ensures c.enter.new.slots c.enter.new.self c.in_ok-first.first c.in_ok-first.ensures
    c.enter-2.new.slots c.enter-2.new.self c.in_ok-second.second c.in_ok-second.ensures in
    whole_rooted ns s.initial s.safety c.enter-2.new.slots c.enter-2.new.self c.in_ok-first.first c.in_ok-second.second w

pub returns : goal.returns
returns c =
    let s = c.args.syntax.now in
    let ns = take (s.count - 0) s.nodes in
    let w = whole ns s.initial s.safety c.new-builder.new.slots c.new-builder.result
    c.new-builder.ensures c.enter.new.slots c.enter.new.self c.in_ok-first.first c.in_ok-first.ensures
    c.enter-2.new.slots c.enter-2.new.self c.in_ok-second.second c.in_ok-second.ensures in
    let all : c.args.syntax.now.count - 0 ≡ c.args.syntax.now.count = omega arith in
    subst (λ (n : ℕ). Listed (take n s.nodes) s.initial s.safety c.enter-2.new.slots c.finish.result) all
    (finished ns s.initial s.safety c.enter-2.new.slots c.enter-2.new.self c.in_ok-first.first c.in_ok-second.second w c.finish.result
    c.finish.ensures)
