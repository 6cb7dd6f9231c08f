use Rattle.std.proofs.Common.{◌≡◌, not, sym, refl, ap, ◌∙◌, arith}
use Rattle.temporal.specs.Formula.{next, kind, other}
use Rattle.nodes.specs.declared.node.Prefix.TheVariants as prefix
use Rattle.formulas.specs.declared.Formula.TheVariants.{Next}
use Rattle.formulas.specs.declared.junction.Junction.TheVariants.{And, Or}
use Rattle.normal.specs.Constants.{junction}
use Rattle.normal.specs.Operands.{formula_of, operand, unary_of, binary_of, both_of, equivalence_of}
use Rattle.normal.specs.Building.{listed}
use Rattle.normal.proofs.Forms.{bounded_tree, known_constant, negation_is, pair_plan, equivalence_plan}
use Rattle.normal.proofs.Forms.{node_constant_lem, node_variable, node_unary, node_binary}
use Rattle.normal.proofs.Forms.{unary_not, unary_next, unary_always, unary_eventually}
use Rattle.normal.proofs.Forms.{binary_and, binary_or, binary_implies, binary_equivalent}
use Rattle.formulas.specs.Junctions.{entry_over}
use Rattle.normal.proofs.Entering.{stays, constant_stays, alike, fails, literal_enters, one_over, one_enters, number_below}
use Rattle.normal.proofs.Entering.{bounded_enter, bounded_grow, bounded_below, under_not, first_over, second_over, both_below, both_enter, remembered}
use Rattle.normal.proofs.builder.Builder.+binary_build_enter_equivalence_pair_unary.Goals as goal

-- ── binary ──

pub binary-returns-in-And : goal.binary-returns-in-And
binary-returns-in-And t c =
    let ns = c.args.known.now.nodes.now in
    let s = c.args.sign in
    let f = formula_of ns (operand c.args.a s) in
    let g = formula_of ns (operand c.args.b s) in
    alike ns _ _ _ _
    (ap (λ k. binary_of ns k c.args.a c.args.b s) c.in-And.is ∙ binary_and ns c.args.a c.args.b s
    ∙ ap (λ o. junction o f g) (sym c.under.ensures))
    c.pair.ensures

pub binary-returns-in-Or : goal.binary-returns-in-Or
binary-returns-in-Or t c =
    let ns = c.args.known.now.nodes.now in
    let s = c.args.sign in
    let f = formula_of ns (operand c.args.a s) in
    let g = formula_of ns (operand c.args.b s) in
    alike ns _ _ _ _
    (ap (λ k. binary_of ns k c.args.a c.args.b s) c.in-Or.is ∙ binary_or ns c.args.a c.args.b s
    ∙ ap (λ o. junction o f g) (sym c.under-in-Or.ensures))
    c.pair-in-Or.ensures

pub binary-returns-in-Implies : goal.binary-returns-in-Implies
binary-returns-in-Implies t c =
    let ns = c.args.known.now.nodes.now in
    let s = c.args.sign in
    let f = formula_of ns (operand c.args.a (not s)) in
    let g = formula_of ns (operand c.args.b s) in
    alike ns _ _ _ _
    (ap (λ k. binary_of ns k c.args.a c.args.b s) c.in-Implies.is ∙ binary_implies ns c.args.a c.args.b s
    ∙ (λ j. junction (sym c.under-in-Implies.ensures j)
    (formula_of ns (sym (negation_is c.negated.ensures) j)) g))
    c.pair-in-Implies.ensures

pub binary-returns-in-Equivalent : goal.binary-returns-in-Equivalent
binary-returns-in-Equivalent t c =
    let ns = c.args.known.now.nodes.now in
    let s = c.args.sign in
    alike ns _ _ _ _
    (ap (λ k. binary_of ns k c.args.a c.args.b s) c.in-Equivalent.is ∙ binary_equivalent ns c.args.a c.args.b s)
    c.equivalence.ensures

-- ── build ──

pub build-unary-requires : goal.build-unary-requires
build-unary-requires t c =
    let n = node_unary c.args.known.now.given c.args.operand c.requires.within c.in-Unary.prefix c.in-Unary.node c.in-Unary.is in (
      omega (arith, c.decreases, n.0),
      (omega (arith, n.0, c.requires.within), (c.requires.ready, ap kind (sym n.1) ∙ c.requires.varies)),
    )

pub build-binary-requires : goal.build-binary-requires
build-binary-requires t c =
    let n = node_binary c.args.known.now.given c.args.operand c.requires.within c.in-Binary.connective c.in-Binary.a c.in-Binary.b
    c.in-Binary.is in (
      omega (arith, c.decreases, n.0, n.1),
      (omega (arith, n.0, c.requires.within), (omega (arith, n.1, c.requires.within), c.requires.ready)),
    )

pub build-returns-in-Constant : goal.build-returns-in-Constant
build-returns-in-Constant t c =
    absurd (node_constant_lem c.args.known.now.given c.args.operand c.requires.within c.in-Constant.x c.in-Constant.is c.requires.varies)

pub build-returns-in-Variable : goal.build-returns-in-Variable
build-returns-in-Variable t c =
    literal_enters _ _ c.args.operand.sign c.in-Variable.v c.add.result c.requires.ready
    (node_variable c.args.known.now.given c.args.operand c.requires.within c.in-Variable.v c.in-Variable.is)
    c.literal.ensures c.add.ensures

pub build-returns-in-Unary : goal.build-returns-in-Unary
build-returns-in-Unary t c =
    let n = node_unary c.args.known.now.given c.args.operand c.requires.within c.in-Unary.prefix c.in-Unary.node c.in-Unary.is in
    alike c.args.known.now.nodes.now _ _ _ _ n.1 c.unary.ensures

pub build-returns-in-Binary : goal.build-returns-in-Binary
build-returns-in-Binary t c =
    let n = node_binary c.args.known.now.given c.args.operand c.requires.within c.in-Binary.connective c.in-Binary.a c.in-Binary.b
    c.in-Binary.is in
    alike c.args.known.now.nodes.now _ _ _ _ n.2 c.binary.ensures

-- ── enter ──

pub enter-returns-in-Some : goal.enter-returns-in-Some
enter-returns-in-Some t c =
    let f = formula_of c.args.known.now.nodes.now c.args.operand in
    let e = c.in-Some.ensures in
    constant_stays c.in-Some.x c.requires.ready (known_constant f c.in-Some.x (sym e)) c.number_of.ensures

pub enter-returns-in-Some-recall : goal.enter-returns-in-Some-recall
enter-returns-in-Some-recall t c =
    let o = c.args.operand in
    stays c.requires.ready (c.requires.ready.memory o.sign o.node c.in-Some-recall.number (sym c.in-Some-recall.ensures))

pub enter-returns : goal.enter-returns
enter-returns t c =
    remembered c.in_ok-number.ensures c.remember.ensures

-- ── equivalence ──

pub equivalence-returns-in-Constant : goal.equivalence-returns-in-Constant
equivalence-returns-in-Constant t c =
    let p =
    equivalence_plan c.args.known.now.nodes.now c.args.a c.args.b c.args.sign c.negated-not_p.ensures c.negated-not_q.ensures
    c.constant.ensures c.constant-2.ensures c.constant-3.ensures c.constant-4.ensures c.joint-both.ensures c.joint-neither.ensures c.in-Constant.ensures in
    constant_stays c.in-Constant.x c.requires.ready p c.number_of.ensures

pub equivalence-returns-in-First : goal.equivalence-returns-in-First
equivalence-returns-in-First t c =
    let p =
    equivalence_plan c.args.known.now.nodes.now c.args.a c.args.b c.args.sign c.negated-not_p.ensures c.negated-not_q.ensures
    c.constant.ensures c.constant-2.ensures c.constant-3.ensures c.constant-4.ensures c.joint-both.ensures c.joint-neither.ensures c.in-First.ensures in
    alike c.args.known.now.nodes.now _ _ _ _ p c.pair.ensures

pub equivalence-returns-in-Second : goal.equivalence-returns-in-Second
equivalence-returns-in-Second t c =
    let p =
    equivalence_plan c.args.known.now.nodes.now c.args.a c.args.b c.args.sign c.negated-not_p.ensures c.negated-not_q.ensures
    c.constant.ensures c.constant-2.ensures c.constant-3.ensures c.constant-4.ensures c.joint-both.ensures c.joint-neither.ensures c.in-Second.ensures in
    alike c.args.known.now.nodes.now _ _ _ _ p c.pair-in-Second.ensures

pub equivalence-returns-in_err-left-in-Both : goal.equivalence-returns-in_err-left-in-Both
equivalence-returns-in_err-left-in-Both t c =
    let f = both_of c.args.known.now.nodes.now c.args.a c.args.b c.args.sign in
    let g = junction And (formula_of c.args.known.now.nodes.now c.negated-not_p.result) (formula_of c.args.known.now.nodes.now c.negated-not_q.result) in
    let p =
    equivalence_plan c.args.known.now.nodes.now c.args.a c.args.b c.args.sign c.negated-not_p.ensures c.negated-not_q.ensures
    c.constant.ensures c.constant-2.ensures c.constant-3.ensures c.constant-4.ensures c.joint-both.ensures c.joint-neither.ensures c.in-Both.ensures in
    fails c.args.known.now.nodes.now c.pair-in-Both.new.slots c.args.self.now (equivalence_of c.args.known.now.nodes.now c.args.a c.args.b c.args.sign) c.pair-in-Both.new.self
    c.from_residual.ensures
    (first_over Or f g p (listed c.args.self.now) c.in_err-left-in-Both.ensures)

pub equivalence-returns-in_err-right-in-Both : goal.equivalence-returns-in_err-right-in-Both
equivalence-returns-in_err-right-in-Both t c =
    let f = both_of c.args.known.now.nodes.now c.args.a c.args.b c.args.sign in
    let g = junction And (formula_of c.args.known.now.nodes.now c.negated-not_p.result) (formula_of c.args.known.now.nodes.now c.negated-not_q.result) in
    let p =
    equivalence_plan c.args.known.now.nodes.now c.args.a c.args.b c.args.sign c.negated-not_p.ensures c.negated-not_q.ensures
    c.constant.ensures c.constant-2.ensures c.constant-3.ensures c.constant-4.ensures c.joint-both.ensures c.joint-neither.ensures c.in-Both.ensures in
    fails c.args.known.now.nodes.now c.pair-in-Both-2.new.slots c.args.self.now (equivalence_of c.args.known.now.nodes.now c.args.a c.args.b c.args.sign) c.pair-in-Both-2.new.self
    c.from_residual-in_err-right-in-Both.ensures (second_over Or f g p c.in_ok-left-in-Both.ensures c.in_err-right-in-Both.ensures)

pub equivalence-add-requires-clause-parts : goal.equivalence-add-requires-clause-parts
equivalence-add-requires-clause-parts t c =
    let f = both_of c.args.known.now.nodes.now c.args.a c.args.b c.args.sign in
    let g = junction And (formula_of c.args.known.now.nodes.now c.negated-not_p.result) (formula_of c.args.known.now.nodes.now c.negated-not_q.result) in
    let p =
    equivalence_plan c.args.known.now.nodes.now c.args.a c.args.b c.args.sign c.negated-not_p.ensures c.negated-not_q.ensures
    c.constant.ensures c.constant-2.ensures c.constant-3.ensures c.constant-4.ensures c.joint-both.ensures c.joint-neither.ensures c.in-Both.ensures in
    both_below Or f g p c.requires.ready c.in_ok-left-in-Both.ensures c.in_ok-right-in-Both.ensures
    c.of_both.ensures

pub equivalence-returns-in_ok-right-in-Both : goal.equivalence-returns-in_ok-right-in-Both
equivalence-returns-in_ok-right-in-Both t c =
    let f = both_of c.args.known.now.nodes.now c.args.a c.args.b c.args.sign in
    let g = junction And (formula_of c.args.known.now.nodes.now c.negated-not_p.result) (formula_of c.args.known.now.nodes.now c.negated-not_q.result) in
    let p =
    equivalence_plan c.args.known.now.nodes.now c.args.a c.args.b c.args.sign c.negated-not_p.ensures c.negated-not_q.ensures
    c.constant.ensures c.constant-2.ensures c.constant-3.ensures c.constant-4.ensures c.joint-both.ensures c.joint-neither.ensures c.in-Both.ensures in
    both_enter Or f g p c.requires.ready c.in_ok-left-in-Both.ensures c.in_ok-right-in-Both.ensures c.of_both.ensures
    _ _ c.add.result c.add.ensures

-- ── pair ──

pub pair-returns-in-Constant : goal.pair-returns-in-Constant
pair-returns-in-Constant t c =
    let p =
    pair_plan c.args.known.now.nodes.now c.args.junction c.args.a c.args.b c.constant.ensures c.constant-2.ensures c.in-Constant.ensures in
    constant_stays c.in-Constant.x c.requires.ready p c.number_of.ensures

pub pair-returns-in_err-left-in-Both : goal.pair-returns-in_err-left-in-Both
pair-returns-in_err-left-in-Both t c =
    let f = formula_of c.args.known.now.nodes.now c.args.a in
    let g = formula_of c.args.known.now.nodes.now c.args.b in
    let p =
    pair_plan c.args.known.now.nodes.now c.args.junction c.args.a c.args.b c.constant.ensures c.constant-2.ensures c.in-Both.ensures in
    fails c.args.known.now.nodes.now c.enter-in-Both.new.slots c.args.self.now (junction c.args.junction f g)
    c.enter-in-Both.new.self c.from_residual.ensures
    (first_over c.args.junction f g p (listed c.args.self.now) c.in_err-left-in-Both.ensures)

pub pair-add-requires-clause-parts : goal.pair-add-requires-clause-parts
pair-add-requires-clause-parts t c =
    let f = formula_of c.args.known.now.nodes.now c.args.a in
    let g = formula_of c.args.known.now.nodes.now c.args.b in
    let p =
    pair_plan c.args.known.now.nodes.now c.args.junction c.args.a c.args.b c.constant.ensures c.constant-2.ensures c.in-Both.ensures in
    both_below c.args.junction f g p c.requires.ready c.in_ok-left-in-Both.ensures c.in_ok-right-in-Both.ensures
    c.of_both.ensures

pub pair-returns-in_ok-right-in-Both : goal.pair-returns-in_ok-right-in-Both
pair-returns-in_ok-right-in-Both t c =
    let f = formula_of c.args.known.now.nodes.now c.args.a in
    let g = formula_of c.args.known.now.nodes.now c.args.b in
    let p =
    pair_plan c.args.known.now.nodes.now c.args.junction c.args.a c.args.b c.constant.ensures c.constant-2.ensures c.in-Both.ensures in
    both_enter c.args.junction f g p c.requires.ready c.in_ok-left-in-Both.ensures c.in_ok-right-in-Both.ensures
    c.of_both.ensures
    _ _ c.add.result c.add.ensures

-- ── unary ──

pub unary-returns-in-Not : goal.unary-returns-in-Not
unary-returns-in-Not t c =
    let ns = c.args.known.now.nodes.now in
    alike ns _ _ _ _
    (ap (λ p. unary_of ns p c.args.part) c.in-Not.is ∙ unary_not ns c.args.part
    ∙ ap (formula_of ns) (sym (negation_is c.negated.ensures)))
    c.enter.ensures

pub unary-returns-in_err-number-in-Next : goal.unary-returns-in_err-number-in-Next
unary-returns-in_err-number-in-Next t c =
    let ns = c.args.known.now.nodes.now in
    let varies : kind (unary_of c.args.known.now.nodes.now (prefix.Next c.in-Next.n) c.args.part) ≡ other =
    ap (λ p. kind (unary_of c.args.known.now.nodes.now p c.args.part)) (sym c.in-Next.is) ∙ c.requires.varies in
    let is = ap (λ p. unary_of ns p c.args.part) c.in-Next.is ∙ unary_next ns c.args.part c.in-Next.n varies in
    fails ns c.enter-in-Next.new.slots c.args.self.now (unary_of ns c.args.prefix c.args.part)
    c.enter-in-Next.new.self c.from_residual.ensures
    (one_over (next c.in-Next.n) (λ ys f. refl) (listed c.args.self.now) (formula_of ns c.args.part) is
    c.in_err-number-in-Next.ensures)

pub unary-returns-in_ok-number-in-Next : goal.unary-returns-in_ok-number-in-Next
unary-returns-in_ok-number-in-Next t c =
    let ns = c.args.known.now.nodes.now in
    let varies : kind (unary_of c.args.known.now.nodes.now (prefix.Next c.in-Next.n) c.args.part) ≡ other =
    ap (λ p. kind (unary_of c.args.known.now.nodes.now p c.args.part)) (sym c.in-Next.is) ∙ c.requires.varies in
    let is = ap (λ p. unary_of ns p c.args.part) c.in-Next.is ∙ unary_next ns c.args.part c.in-Next.n varies in
    one_enters (next c.in-Next.n) (λ ys f. refl) _ _ (Next c.in-Next.n c.in_ok-number-in-Next.number) c.add.result
    c.requires.ready c.in_ok-number-in-Next.ensures is
    refl c.add.ensures

pub unary-add-requires-clause-parts : goal.unary-add-requires-clause-parts
unary-add-requires-clause-parts t c =
    let d = c.in_ok-number-in-Next.ensures in
    number_below c.in_ok-number-in-Next.number d.ready.sound d.here

pub unary-returns-in_err-number-in-Always : goal.unary-returns-in_err-number-in-Always
unary-returns-in_err-number-in-Always t c =
    let ns = c.args.known.now.nodes.now in
    let s = c.args.part.sign in
    let n = c.in-Always.n in
    let m = c.in-Always.m in
    let varies : kind (unary_of c.args.known.now.nodes.now (prefix.Always c.in-Always.n c.in-Always.m) c.args.part) ≡ other =
    ap (λ p. kind (unary_of c.args.known.now.nodes.now p c.args.part)) (sym c.in-Always.is) ∙ c.requires.varies in
    let is = ap (λ p. unary_of ns p c.args.part) c.in-Always.is ∙ unary_always ns c.args.part n m varies in
    fails ns c.enter-in-Always.new.slots c.args.self.now (unary_of ns c.args.prefix c.args.part)
    c.enter-in-Always.new.self c.from_residual-in_err-number-in-Always.ensures
    (one_over (bounded_tree s n m) (bounded_enter s n m) (listed c.args.self.now) (formula_of ns c.args.part) is
    c.in_err-number-in-Always.ensures)

pub unary-returns-in_ok-number-in-Always : goal.unary-returns-in_ok-number-in-Always
unary-returns-in_ok-number-in-Always t c =
    let ns = c.args.known.now.nodes.now in
    let s = c.args.part.sign in
    let n = c.in-Always.n in
    let m = c.in-Always.m in
    let varies : kind (unary_of c.args.known.now.nodes.now (prefix.Always c.in-Always.n c.in-Always.m) c.args.part) ≡ other =
    ap (λ p. kind (unary_of c.args.known.now.nodes.now p c.args.part)) (sym c.in-Always.is) ∙ c.requires.varies in
    let is = ap (λ p. unary_of ns p c.args.part) c.in-Always.is ∙ unary_always ns c.args.part n m varies in
    one_enters (bounded_tree s n m) (bounded_enter s n m) _ _ c.over.result c.add-in-Always.result c.requires.ready
    c.in_ok-number-in-Always.ensures is
    (bounded_grow s n m c.in_ok-number-in-Always.number (listed c.enter-in-Always.new.self) (c.over.ensures ∙ ap (λ j. entry_over j n m c.in_ok-number-in-Always.number) c.under.ensures))
    c.add-in-Always.ensures

pub unary-add-requires-in-Always-clause-parts : goal.unary-add-requires-in-Always-clause-parts
unary-add-requires-in-Always-clause-parts t c =
    let d = c.in_ok-number-in-Always.ensures in
    let s = c.args.part.sign in
    let n = c.in-Always.n in
    let m = c.in-Always.m in
    bounded_below s n m c.in_ok-number-in-Always.number c.enter-in-Always.new.self.count (c.over.ensures ∙ ap (λ j. entry_over j n m c.in_ok-number-in-Always.number) c.under.ensures)
    (number_below c.in_ok-number-in-Always.number d.ready.sound d.here)

pub unary-returns-in_err-number-in-Eventually : goal.unary-returns-in_err-number-in-Eventually
unary-returns-in_err-number-in-Eventually t c =
    let ns = c.args.known.now.nodes.now in
    let s = not c.args.part.sign in
    let n = c.in-Eventually.n in
    let m = c.in-Eventually.m in
    let varies : kind
    (unary_of c.args.known.now.nodes.now (prefix.Eventually c.in-Eventually.n c.in-Eventually.m) c.args.part) ≡ other =
    ap (λ p. kind (unary_of c.args.known.now.nodes.now p c.args.part)) (sym c.in-Eventually.is) ∙ c.requires.varies in
    let is = ap (λ p. unary_of ns p c.args.part) c.in-Eventually.is ∙ unary_eventually ns c.args.part n m varies in
    fails ns c.enter-in-Eventually.new.slots c.args.self.now (unary_of ns c.args.prefix c.args.part)
    c.enter-in-Eventually.new.self c.from_residual-in_err-number-in-Eventually.ensures
    (one_over (bounded_tree s n m) (bounded_enter s n m) (listed c.args.self.now) (formula_of ns c.args.part) is
    c.in_err-number-in-Eventually.ensures)

pub unary-returns-in_ok-number-in-Eventually : goal.unary-returns-in_ok-number-in-Eventually
unary-returns-in_ok-number-in-Eventually t c =
    let ns = c.args.known.now.nodes.now in
    let s = not c.args.part.sign in
    let n = c.in-Eventually.n in
    let m = c.in-Eventually.m in
    let varies : kind
    (unary_of c.args.known.now.nodes.now (prefix.Eventually c.in-Eventually.n c.in-Eventually.m) c.args.part) ≡ other =
    ap (λ p. kind (unary_of c.args.known.now.nodes.now p c.args.part)) (sym c.in-Eventually.is) ∙ c.requires.varies in
    let is = ap (λ p. unary_of ns p c.args.part) c.in-Eventually.is ∙ unary_eventually ns c.args.part n m varies in
    one_enters (bounded_tree s n m) (bounded_enter s n m) _ _ c.over-in-Eventually.result c.add-in-Eventually.result
    c.requires.ready c.in_ok-number-in-Eventually.ensures is
    (bounded_grow s n m c.in_ok-number-in-Eventually.number (listed c.enter-in-Eventually.new.self)
    (c.over-in-Eventually.ensures
    ∙ ap (λ j. entry_over j n m c.in_ok-number-in-Eventually.number) (c.under-in-Eventually.ensures ∙ under_not c.args.part.sign))) c.add-in-Eventually.ensures

pub unary-add-requires-in-Eventually-clause-parts : goal.unary-add-requires-in-Eventually-clause-parts
unary-add-requires-in-Eventually-clause-parts t c =
    let d = c.in_ok-number-in-Eventually.ensures in
    let s = not c.args.part.sign in
    let n = c.in-Eventually.n in
    let m = c.in-Eventually.m in
    bounded_below s n m c.in_ok-number-in-Eventually.number c.enter-in-Eventually.new.self.count
    (c.over-in-Eventually.ensures
    ∙ ap (λ j. entry_over j n m c.in_ok-number-in-Eventually.number) (c.under-in-Eventually.ensures ∙ under_not c.args.part.sign)) (number_below c.in_ok-number-in-Eventually.number d.ready.sound d.here)
