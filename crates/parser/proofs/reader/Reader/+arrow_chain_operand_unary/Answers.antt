use Rattle.std.proofs.Common.{◌≡◌, ◌-◌, ◌<◌, length, Some, None, sym, refl, ap, ◌∙◌, subst, arith, rules}
use Rattle.std.proofs.lemmas.Bool.{lt-ltb}
use Rattle.lexer.specs.declared.token.Symbol.TheVariants as symbol
use Rattle.lexer.specs.Bounds.{sign_in}
use Rattle.lexer.specs.Tokens.{is_symbol}
use Rattle.lexer.proofs.Limits.{On, when_ok, sign_on}
use Rattle.grammar.specs.declared.head.Head.TheVariants as head
use Rattle.grammar.specs.Grammar.{Out, stop, and_then, more}
use Rattle.grammar.proofs.Prefixes.{prefix_ok}
use Rattle.parser.specs.Naming.{names_of}
use Rattle.parser.specs.Reading.{Reads, operand_with}
use Rattle.parser.proofs.Moves.{ready_on, room_behind, went_node, went_here, went_both, went_later, went_spare, went_earlier, failed, good_is}
use Rattle.parser.proofs.Joins.{opened, unary_went, unary_good, binary_went, binary_good}
use Rattle.parser.proofs.Steps.{unary_is, prefix_full, prefix_on, prefix_then, group_full, group_then, group_closed, chain_then}
use Rattle.parser.proofs.Steps.{more_end, more_then, arrow_stop, arrow_end, arrow_full, arrow_then, symbol_reads, head_reads, none_refused}
use Rattle.parser.proofs.reader.Reader.+arrow_chain_operand_unary.Goals as goal

-- arrow

pub arrow-returns-in_err-part : goal.arrow-returns-in_err-part
arrow-returns-in_err-part t c =
    failed 0 _ c.args.from.now.text.now c.args.from.now.at c.args.self.now c.operand.new.self c.operand.new.slots _
    c.from_residual.result c.from_residual.ensures.1 (arrow_stop _ _ _ _ _ c.in_err-part.ensures)

pub arrow-returns-then-not-is_symbol : goal.arrow-returns-then-not-is_symbol
arrow-returns-then-not-is_symbol t c =
    let d = c.in_ok-part.ensures in
    let e = c.if-not-is_symbol.ensures ∙ ap (λ y. is_symbol y c.look-seen.result.token) c.symbol_of.ensures in
    (arrow_end _ _ _ _ _ _ d.0 _ c.look-seen.ensures.value e, d.1)

pub arrow-returns-in_err-left : goal.arrow-returns-in_err-left
arrow-returns-in_err-left t c =
    let d = c.in_ok-part.ensures in
    let e = c.if-not-is_symbol.ensures ∙ ap (λ y. is_symbol y c.look-seen.result.token) c.symbol_of.ensures in
    let f = c.in_err-left.ensures in
    failed 0 _ c.args.from.now.text.now c.args.from.now.at c.args.self.now c.operand.new.self c.operand.new.slots _
    c.from_residual-in_err-left.result c.from_residual-in_err-left.ensures.1
    (arrow_full _ _ _ _ _ _ d.0 _ c.look-seen.ensures.value e f.0 ∙ ap stop (sym f.1))

pub arrow-returns-in_err-right : goal.arrow-returns-in_err-right
arrow-returns-in_err-right t c =
    let d = c.in_ok-part.ensures in
    let e = c.if-not-is_symbol.ensures ∙ ap (λ y. is_symbol y c.look-seen.result.token) c.symbol_of.ensures in
    failed 0 _ c.args.from.now.text.now c.args.from.now.at c.args.self.now c.arrow.new.self c.arrow.new.slots _
    c.from_residual-in_err-right.result c.from_residual-in_err-right.ensures.1
    (arrow_then _ _ _ _ _ _ d.0 _ c.look-seen.ensures.value e _ c.in_ok-left.ensures _ c.in_err-right.ensures)

pub arrow-returns : goal.arrow-returns
arrow-returns t c =
    let d = c.in_ok-part.ensures in
    let e = c.if-not-is_symbol.ensures ∙ ap (λ y. is_symbol y c.look-seen.result.token) c.symbol_of.ensures in
    let v = c.look-seen.ensures in
    let lt : c.in_ok-part.part.next < c.look-seen.result.next = omega (arith, symbol_reads v _ e, v.after) in
    let f = c.in_ok-right.ensures in (
      arrow_then _ _ _ _ _ _ d.0 _ v.value e _ c.in_ok-left.ensures _ f.0 ∙ binary_good d.1 lt f.1 c.join.ensures,
      binary_went d.1 lt f.1 c.join.ensures,
    )

-- chain

pub chain-returns-in_err-part : goal.chain-returns-in_err-part
chain-returns-in_err-part t c =
    failed 0 _ c.args.from.now.text.now c.args.from.now.at c.args.self.now c.operand.new.self c.operand.new.slots _
    c.from_residual.result c.from_residual.ensures.1 (chain_then _ _ _ _ _ c.in_err-part.ensures)

pub chain-operands-init : goal.chain-operands-init
chain-operands-init t c = (length c.args.from.now.text.now, omega arith, refl, went_here c.in_ok-part.ensures.1)

pub chain-returns-then-not-is_symbol : goal.chain-returns-then-not-is_symbol
chain-returns-then-not-is_symbol t c =
    let d = c.in_ok-part.ensures in
    let e = c.if-not-is_symbol.ensures ∙ ap (λ y. is_symbol y c.look-seen.result.token) c.symbol_of.ensures in
    let i = c.operands.invariant in
    (chain_then _ _ _ _ _ d.0 ∙ i.2 ∙ more_end _ _ _ _ _ _ _ c.look-seen.ensures.value e, went_both d.1 i.3)

pub chain-returns-in_err-right : goal.chain-returns-in_err-right
chain-returns-in_err-right t c =
    let d = c.in_ok-part.ensures in
    let e = c.if-not-is_symbol.ensures ∙ ap (λ y. is_symbol y c.look-seen.result.token) c.symbol_of.ensures in
    let v = c.look-seen.ensures in
    let i = c.operands.invariant in
    let left : 0 < i.0 = omega (arith, i.1, symbol_reads v _ e, v.after, v.in_text i.3.in_text) in
    failed 0 _ c.args.from.now.text.now c.args.from.now.at c.args.self.now c.operand-in-operands.new.self
    c.operand-in-operands.new.slots _ c.from_residual-in_err-right.result c.from_residual-in_err-right.ensures.1
    (chain_then _ _ _ _ _ d.0 ∙ i.2 ∙ more_then _ _ _ _ _ _ _ v.value e left _ c.in_err-right.ensures)

pub chain-operands-preserved : goal.chain-operands-preserved
chain-operands-preserved t c =
    let e = c.if-not-is_symbol.ensures ∙ ap (λ y. is_symbol y c.look-seen.result.token) c.symbol_of.ensures in
    let v = c.look-seen.ensures in
    let i = c.operands.invariant in
    let lt : c.operands.part.next < c.look-seen.result.next = omega (arith, symbol_reads v _ e, v.after) in
    let left : 0 < i.0 = omega (arith, i.1, lt, v.in_text i.3.in_text) in
    let f = c.in_ok-right.ensures in
    let text = c.args.from.now.text.now in
    let operand = operand_with c.args.left c.args.by text in (
      i.0 - 1,
      omega (arith, i.1, left, lt, f.1.onward, c.join-part.ensures.next),
      i.2 ∙ more_then _ _ _ _ _ _ _ v.value e left _ f.0
          ∙ ap (λ o. and_then o (λ u s'. more text c.args.by operand (i.0 - 1) u s')) (binary_good i.3 lt f.1 c.join-part.ensures),
      binary_went i.3 lt f.1 c.join-part.ensures,
    )

-- unary

pub unary-returns-in_err-head : goal.unary-returns-in_err-head
unary-returns-in_err-head t c =
    let n = none_refused _ _ _ c.in_err-head.ensures.value in
    failed 0 _ c.args.from.now.text.now c.args.from.now.at c.args.self.now c.args.self.now c.args.slots.now _
    c.from_residual.result c.from_residual.ensures.1
    (unary_is _ _ _ _ c.look-seen.ensures.value None (sym n.0 ∙ c.head_of.ensures)
    ∙ ap stop (sym (n.1 ∙ c.misplaced.ensures)))

pub unary-returns-in_err-left-in-Prefix : goal.unary-returns-in_err-left-in-Prefix
unary-returns-in_err-left-in-Prefix t c =
    let h = ap Some (sym c.in-Prefix.is) ∙ sym c.in_ok-head.ensures.ok_part ∙ c.head_of.ensures in
    let f = c.in_err-left-in-Prefix.ensures in
    failed 0 _ c.args.from.now.text.now c.args.from.now.at c.args.self.now c.args.self.now c.args.slots.now _
    c.from_residual-in_err-left-in-Prefix.result c.from_residual-in_err-left-in-Prefix.ensures.1
    (prefix_full _ _ _ _ c.look-seen.ensures.value _ h f.0 ∙ ap stop (sym f.1))

pub unary-returns-in_err-prefixed-in-Prefix : goal.unary-returns-in_err-prefixed-in-Prefix
unary-returns-in_err-prefixed-in-Prefix t c =
    let h = ap Some (sym c.in-Prefix.is) ∙ sym c.in_ok-head.ensures.ok_part ∙ c.head_of.ensures in
    failed 0 _ c.args.from.now.text.now c.args.from.now.at c.args.self.now c.args.self.now c.args.slots.now _
    c.from_residual-in_err-prefixed-in-Prefix.result c.from_residual-in_err-prefixed-in-Prefix.ensures.1
    (prefix_on _ _ _ _ c.look-seen.ensures.value _ c.in_ok-left-in-Prefix.ensures _ h _
    (sym c.in_err-prefixed-in-Prefix.ensures))

pub unary-invariant_of-unary : goal.unary-invariant_of-unary
unary-invariant_of-unary t c =
    let g =
    prefix_ok c.args.from.now.text.now c.look-seen.result.next c.in-Prefix.operator c.in_ok-prefixed-in-Prefix.prefixed
    (sym c.in_ok-prefixed-in-Prefix.ensures) in
    record { short = c.args.from.now.short; inside = g.in_text (c.look-seen.ensures.in_text c.args.from.now.inside) }

pub unary-unary-requires : goal.unary-unary-requires
unary-unary-requires t c =
    let v = c.look-seen.ensures in
    let h = ap Some (sym c.in-Prefix.is) ∙ sym c.in_ok-head.ensures.ok_part ∙ c.head_of.ensures in
    let lt = head_reads v _ h in
    let g =
    prefix_ok c.args.from.now.text.now c.look-seen.result.next c.in-Prefix.operator c.in_ok-prefixed-in-Prefix.prefixed
    (sym c.in_ok-prefixed-in-Prefix.ensures) in
    (omega (arith, c.decreases, c.in_ok-left-in-Prefix.ensures), ready_on c.requires _ (omega (arith, v.after, lt, g.after)))

pub unary-returns-in_err-part-in-Prefix : goal.unary-returns-in_err-part-in-Prefix
unary-returns-in_err-part-in-Prefix t c =
    let h = ap Some (sym c.in-Prefix.is) ∙ sym c.in_ok-head.ensures.ok_part ∙ c.head_of.ensures in
    failed 0 _ c.args.from.now.text.now c.args.from.now.at c.args.self.now c.unary.new.self c.unary.new.slots _
    c.from_residual-in_err-part-in-Prefix.result c.from_residual-in_err-part-in-Prefix.ensures.1
    (prefix_then _ _ _ _ c.look-seen.ensures.value _ c.in_ok-left-in-Prefix.ensures _ h _
    (sym c.in_ok-prefixed-in-Prefix.ensures) _ c.in_err-part-in-Prefix.ensures)

pub unary-push-requires-in-Prefix : goal.unary-push-requires-in-Prefix
unary-push-requires-in-Prefix t c =
    let v = c.look-seen.ensures in
    let h = ap Some (sym c.in-Prefix.is) ∙ sym c.in_ok-head.ensures.ok_part ∙ c.head_of.ensures in
    let lt = head_reads v _ h in
    let g =
    prefix_ok c.args.from.now.text.now c.look-seen.result.next c.in-Prefix.operator c.in_ok-prefixed-in-Prefix.prefixed
    (sym c.in_ok-prefixed-in-Prefix.ensures) in
    let d = c.in_ok-part-in-Prefix.ensures.1 in record {
      room = room_behind c.requires c.args.from.now.short (opened (omega (arith, v.after, lt, g.after)) d);
      below = lt-ltb _ _ d.root;
    }

pub unary-returns-in_err-left-in-Group : goal.unary-returns-in_err-left-in-Group
unary-returns-in_err-left-in-Group t c =
    let h = ap Some (sym c.in-Group.is) ∙ sym c.in_ok-head.ensures.ok_part ∙ c.head_of.ensures in
    let f = c.in_err-left-in-Group.ensures in
    failed 0 _ c.args.from.now.text.now c.args.from.now.at c.args.self.now c.args.self.now c.args.slots.now _
    c.from_residual-in_err-left-in-Group.result c.from_residual-in_err-left-in-Group.ensures.1
    (group_full _ _ _ _ c.look-seen.ensures.value h f.0 ∙ ap stop (sym f.1))

pub unary-returns-in_err-part-in-Group : goal.unary-returns-in_err-part-in-Group
unary-returns-in_err-part-in-Group t c =
    let h = ap Some (sym c.in-Group.is) ∙ sym c.in_ok-head.ensures.ok_part ∙ c.head_of.ensures in
    failed 0 _ c.args.from.now.text.now c.args.from.now.at c.args.self.now c.arrow.new.self c.arrow.new.slots _
    c.from_residual-in_err-part-in-Group.result c.from_residual-in_err-part-in-Group.ensures.1
    (group_then _ _ _ _ c.look-seen.ensures.value _ c.in_ok-left-in-Group.ensures h _ c.in_err-part-in-Group.ensures)

pub unary-returns-in_err-next-in-Group : goal.unary-returns-in_err-next-in-Group
unfolding sign_in
unary-returns-in_err-next-in-Group t c =
    let h = ap Some (sym c.in-Group.is) ∙ sym c.in_ok-head.ensures.ok_part ∙ c.head_of.ensures in
    let e : c.expect.result ≡ sign_in c.args.from.now.text.now symbol.Close c.in_ok-part-in-Group.part.next = search rules in
    failed 0 _ c.args.from.now.text.now c.args.from.now.at c.args.self.now c.arrow.new.self c.arrow.new.slots _
    c.from_residual-in_err-next-in-Group.result c.from_residual-in_err-next-in-Group.ensures.1
    (group_closed _ _ _ _ c.look-seen.ensures.value _ c.in_ok-left-in-Group.ensures h _ _ c.in_ok-part-in-Group.ensures.0 _
    (sym c.in_err-next-in-Group.was ∙ e))

pub unary-returns-in-Constant : goal.unary-returns-in-Constant
unary-returns-in-Constant t c =
    let v = c.look-seen.ensures in
    let h = ap Some (sym c.in-Constant.is) ∙ sym c.in_ok-head.ensures.ok_part ∙ c.head_of.ensures in
    let p = c.push.ensures in (
      unary_is _ _ _ _ v.value _ h ∙ good_is c.push.new.self c.push.result _ _ _ p.top p.next (ap names_of p.names),
      went_node c.requires (omega (arith, v.after, head_reads v _ h)) (v.in_text c.args.from.now.inside) p,
    )

pub unary-returns-in-Variable : goal.unary-returns-in-Variable
unary-returns-in-Variable t c =
    let h = ap Some (sym c.in-Variable.is) ∙ sym c.in_ok-head.ensures.ok_part ∙ c.head_of.ensures in
    let P : Out → Type 0 =
    λ o. Reads 0 o c.args.from.now.text.now c.args.from.now.at c.args.self.now c.variable.new.self c.variable.new.slots c.variable.result in
    subst P (sym (unary_is _ _ _ _ c.look-seen.ensures.value (Some head.Variable) h)) c.variable.ensures

pub unary-returns-in_ok-part-in-Prefix : goal.unary-returns-in_ok-part-in-Prefix
unary-returns-in_ok-part-in-Prefix t c =
    let v = c.look-seen.ensures in
    let h = ap Some (sym c.in-Prefix.is) ∙ sym c.in_ok-head.ensures.ok_part ∙ c.head_of.ensures in
    let lt = head_reads v _ h in
    let q = sym c.in_ok-prefixed-in-Prefix.ensures in
    let g =
    prefix_ok c.args.from.now.text.now c.look-seen.result.next c.in-Prefix.operator c.in_ok-prefixed-in-Prefix.prefixed q in
    let on : c.args.from.now.at < c.in_ok-prefixed-in-Prefix.prefixed.next = omega (arith, v.after, g.after, lt) in
    let d = c.in_ok-part-in-Prefix.ensures in (
      prefix_then _ _ _ _ v.value _ c.in_ok-left-in-Prefix.ensures _ h _ q _ d.0 ∙ unary_good on d.1 c.push-in-Prefix.ensures,
      unary_went on d.1 c.push-in-Prefix.ensures,
    )

pub unary-returns-in_ok-next-in-Group : goal.unary-returns-in_ok-next-in-Group
unfolding sign_in
unary-returns-in_ok-next-in-Group t c =
    let text = c.args.from.now.text.now in
    let at = c.in_ok-part-in-Group.part.next in
    let v = c.look-seen.ensures in
    let d = c.in_ok-part-in-Group.ensures in
    let h = ap Some (sym c.in-Group.is) ∙ sym c.in_ok-head.ensures.ok_part ∙ c.head_of.ensures in
    let e : c.expect.result ≡ sign_in text symbol.Close at = search rules in
    let ok = sym c.in_ok-next-in-Group.was ∙ e in
    let on = when_ok (On text at) (sign_in text symbol.Close at) c.in_ok-next-in-Group.next (sign_on text symbol.Close at) (sym ok) in (
      group_closed _ _ _ _ v.value _ c.in_ok-left-in-Group.ensures h _ _ d.0 _ ok,
      went_spare 0 (omega arith) (went_later _ 0 refl (omega (arith, on.after)) (on.in_text d.1.in_text)
          (went_earlier c.args.from.now.at 0 (omega (arith, v.after, head_reads v _ h)) d.1)),
    )
