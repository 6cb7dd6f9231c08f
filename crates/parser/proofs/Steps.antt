-- The steps of the descent, as the grammar takes them.
use Rattle.std.proofs.Common.{◌≡◌, ℕ, zero, suc, ◌-◌, ◌<◌, ◌≤◌, Bool, true, false, List, length, Some, None, Ok, Err, Option, Result, sym, refl, ap, ◌∙◌, ⊎_elim, arith}
use Rattle.std.specs.Option.{ok_or}
use Rattle.std.proofs.lemmas.Bool.{cases_lt}
use Rattle.faults.specs.declared.Reason.TheVariants as reason
use Rattle.faults.specs.declared.TextFault.{TextFault}
use Rattle.lexer.specs.declared.token.Lexeme.{Lexeme}
use Rattle.lexer.specs.declared.token.Symbol.{Symbol}
use Rattle.lexer.specs.declared.token.Symbol.TheVariants as symbol
use Rattle.lexer.specs.Lexer.{look_at, Sees}
use Rattle.lexer.specs.Bounds.{expected, sign_in}
use Rattle.lexer.specs.Tokens.{is_symbol, is_line, is_end}
use Rattle.lexer.proofs.Looks.{look_past}
use Rattle.temporal.specs.Written.{Written}
use Rattle.nodes.specs.declared.node.Connective.{Connective}
use Rattle.nodes.specs.declared.node.Connective.TheVariants as connective
use Rattle.nodes.specs.Trees.{apply, join}
use Rattle.grammar.specs.declared.head.Head.{Head}
use Rattle.grammar.specs.declared.head.Head.TheVariants as head
use Rattle.grammar.specs.declared.head.Prefixed.{Prefixed}
use Rattle.grammar.specs.declared.head.Unary.{Unary}
use Rattle.grammar.specs.Grammar.{State, moved, Out, good, stop, Parser, and_then, refuse, misplaced, Inside, full, room, head_of, symbol_of}
use Rattle.grammar.specs.Grammar.{prefix_in, prefixed, closed, begun, unary_by, more, chain_by, implication_in}
use Rattle.grammar.specs.Grammar.{arrowed, arrow_by, operand_by, chain_of, arrow_of, inside}
use Rattle.grammar.proofs.Tokens.{symbol_not_end, line_not_end, head_not_end}

-- the nesting

inside_none : (text : List ℕ) (n : ℕ) → n ≡ 0 → inside text n ≡ full
unfolding inside
inside_none text zero e = refl
inside_none text (suc n) e = absurd (omega arith)

inside_some :
    (text : List ℕ) (n m : ℕ) → n ≡ suc m →
    inside text n
    ≡ room (unary_by text (inside text m)) (arrow_of text (inside text m) connective.Implies)
    (arrow_of text (inside text m) connective.Equivalent)
unfolding inside
inside_some text n m e = ap (inside text) e

-- up to unary operators

abbrev pub close_of : Written → State → Result ℕ TextFault → Out
close_of t s (Ok next) = good t (moved s next)
close_of t s (Err f) = stop f

closes : (t : Written) (s : State) (x : Lexeme) (b : Bool) → is_symbol symbol.Close x.token ≡ b → closed t s x ≡ close_of t s (expected b x)
closes t s x true e = ap (λ b. elim b [ true ↦ good t (moved s x.next) | false ↦ misplaced x ]) e
closes t s x false e = ap (λ b. elim b [ true ↦ good t (moved s x.next) | false ↦ misplaced x ]) e

module _ (text : List ℕ) (n : ℕ) (s : State) (x : Lexeme) (is : x ≡ look_at text s.at) where
  pub unary_is : (h : Option Head) → h ≡ head_of x.token → unary_by text (inside text n) s ≡ begun text (inside text n) x s h
  unfolding unary_by
  unary_is h e =
      sym (ap (λ k. begun text (inside text n) x s k) e ∙ ap (λ y. begun text (inside text n) y s (head_of y.token)) is)

  pub prefix_full :
      (u : Unary) → Some (head.Prefix u) ≡ head_of x.token → n ≡ 0 → unary_by text (inside text n) s ≡ refuse reason.Nesting x.from
  prefix_full u e z = unary_is (Some (head.Prefix u)) e ∙ ap (λ d. begun text d x s (Some (head.Prefix u))) (inside_none text n z)

  pub group_full : Some head.Group ≡ head_of x.token → n ≡ 0 → unary_by text (inside text n) s ≡ refuse reason.Nesting x.from
  group_full e z = unary_is (Some head.Group) e ∙ ap (λ d. begun text d x s (Some head.Group)) (inside_none text n z)

  -- with nesting for m inside
  module _ (m : ℕ) (deep : n ≡ suc m) where
    pub prefix_on :
        (u : Unary) → Some (head.Prefix u) ≡ head_of x.token → (r : Result Prefixed TextFault) → prefix_in text u x.next ≡ r →
        unary_by text (inside text n) s ≡ prefixed r (unary_by text (inside text m)) s
    prefix_on u e r h =
        unary_is (Some (head.Prefix u)) e ∙ ap (λ d. begun text d x s (Some (head.Prefix u))) (inside_some text n m deep)
        ∙ ap (λ q. prefixed q (unary_by text (inside text m)) s) h

    pub prefix_then :
        (u : Unary) → Some (head.Prefix u) ≡ head_of x.token → (p : Prefixed) → prefix_in text u x.next ≡ Ok p → (o : Out) →
        unary_by text (inside text m) (moved s p.next) ≡ o →
        unary_by text (inside text n) s ≡ and_then o (λ t s'. good (apply p.prefix t) s')
    prefix_then u e p h o k = prefix_on u e (Ok p) h ∙ ap (λ z. and_then z (λ t s'. good (apply p.prefix t) s')) k

    pub group_then :
        Some head.Group ≡ head_of x.token → (o : Out) → arrow_of text (inside text m) connective.Equivalent (moved s x.next) ≡ o →
        unary_by text (inside text n) s ≡ and_then o (λ t s'. closed t s' (look_at text s'.at))
    group_then e o h =
        unary_is (Some head.Group) e ∙ ap (λ d. begun text d x s (Some head.Group)) (inside_some text n m deep)
        ∙ ap (λ z. and_then z (λ t s'. closed t s' (look_at text s'.at))) h

    pub group_closed :
        Some head.Group ≡ head_of x.token → (t : Written) (s' : State) →
        arrow_of text (inside text m) connective.Equivalent (moved s x.next) ≡ good t s' → (r : Result ℕ TextFault) →
        r ≡ sign_in text symbol.Close s'.at → unary_by text (inside text n) s ≡ close_of t s' r
    unfolding sign_in
    group_closed e t s' h r i =
        group_then e _ h ∙ closes t s' (look_at text s'.at) (is_symbol symbol.Close (look_at text s'.at).token) refl
        ∙ ap (close_of t s') (sym i)

-- operands joined from the left

module _ (text : List ℕ) (d : Inside) (c : Connective) (s : State) where
  pub chain_then : (o : Out) → operand_by text d c s ≡ o → chain_of text d c s ≡ and_then o (more text c (operand_by text d c) (length text))
  unfolding chain_by
  chain_then o h = ap (λ z. and_then z (more text c (operand_by text d c) (length text))) h

module _ (text : List ℕ) (c : Connective) (operand : Parser) where
  abbrev turn_of : Bool → ℕ → Written → State → Lexeme → Out
  turn_of b n t s x =
      elim b [ true ↦ and_then (operand (moved s x.next)) (λ u s'. more text c operand n (join c t u) s') | false ↦ good t s ]

  more_is :
      (n : ℕ) (t : Written) (s : State) (x : Lexeme) → x ≡ look_at text s.at → (b : Bool) → b ≡ is_symbol (symbol_of c) x.token →
      more text c operand (suc n) t s ≡ turn_of b n t s x
  unfolding more
  more_is n t s x is b e =
      sym (ap (λ v. turn_of v n t s x) e ∙ ap (λ y. turn_of (is_symbol (symbol_of c) y.token) n t s y) is)

  pub more_none : (n : ℕ) (t : Written) (s : State) → n ≡ 0 → more text c operand n t s ≡ good t s
  unfolding more
  more_none zero t s e = refl
  more_none (suc n) t s e = absurd (omega arith)

  pub more_end :
      (n : ℕ) (t : Written) (s : State) (x : Lexeme) → x ≡ look_at text s.at → false ≡ is_symbol (symbol_of c) x.token →
      more text c operand n t s ≡ good t s
  more_end zero t s x is e = more_none zero t s refl
  more_end (suc n) t s x is e = more_is n t s x is false e

  pub more_then :
      (n : ℕ) (t : Written) (s : State) (x : Lexeme) → x ≡ look_at text s.at → true ≡ is_symbol (symbol_of c) x.token → 0 < n →
      (o : Out) → operand (moved s x.next) ≡ o →
      more text c operand n t s ≡ and_then o (λ u s'. more text c operand (n - 1) (join c t u) s')
  more_then zero t s x is e lt o h = absurd (omega arith)
  more_then (suc n) t s x is e lt o h =
      let k : n ≡ suc n - 1 = omega arith in
      more_is n t s x is true e ∙ ap (λ z. and_then z (λ u s'. more text c operand n (join c t u) s')) h
      ∙ ap (λ m. and_then o (λ u s'. more text c operand m (join c t u) s')) k

-- two formulas joined by an arrow

abbrev arrow_of_lem : Bool → Connective → Inside → Written → State → Lexeme → Out
arrow_of_lem b c d t s x =
    elim b [
      | true ↦ and_then (implication_in d x.from (moved s x.next)) (λ u s'. good (join c t u) s')
      | false ↦ good t s
    ]

module _ (text : List ℕ) (n : ℕ) (c : Connective) (s : State) where
  pub arrow_stop : (f : TextFault) → operand_by text (inside text n) c s ≡ stop f → arrow_of text (inside text n) c s ≡ stop f
  unfolding arrow_by
  arrow_stop f h = ap (λ z. and_then z (λ t s'. arrowed c (inside text n) t s' (look_at text s'.at))) h

  module _ (t : Written) (s₁ : State) (h : operand_by text (inside text n) c s ≡ good t s₁) (x : Lexeme) (is : x ≡ look_at text s₁.at)
    where
      arrow_is : (b : Bool) → b ≡ is_symbol (symbol_of c) x.token → arrow_of text (inside text n) c s ≡ arrow_of_lem b c (inside text n) t s₁ x
      unfolding arrow_by
      arrow_is b e =
          ap (λ z. and_then z (λ u s'. arrowed c (inside text n) u s' (look_at text s'.at))) h
          ∙ ap (λ y. arrowed c (inside text n) t s₁ y) (sym is) ∙ ap (λ v. arrow_of_lem v c (inside text n) t s₁ x) (sym e)

      pub arrow_end : false ≡ is_symbol (symbol_of c) x.token → arrow_of text (inside text n) c s ≡ good t s₁
      arrow_end e = arrow_is false e

      pub arrow_full : true ≡ is_symbol (symbol_of c) x.token → n ≡ 0 → arrow_of text (inside text n) c s ≡ refuse reason.Nesting x.from
      arrow_full e z = arrow_is true e ∙ ap (λ d. arrow_of_lem true c d t s₁ x) (inside_none text n z)

      pub arrow_then :
          true ≡ is_symbol (symbol_of c) x.token → (m : ℕ) → n ≡ suc m → (o : Out) →
          arrow_of text (inside text m) connective.Implies (moved s₁ x.next) ≡ o →
          arrow_of text (inside text n) c s ≡ and_then o (λ u s'. good (join c t u) s')
      arrow_then e m deep o k =
          arrow_is true e ∙ ap (λ d. arrow_of_lem true c d t s₁ x) (inside_some text n m deep)
          ∙ ap (λ z. and_then z (λ u s'. good (join c t u) s')) k

-- a token that is not the end has bytes

module _ {text : List ℕ} {at : ℕ} {x : Lexeme} (v : Sees text at x) where
  reads : is_end x.token ≡ false → x.from < x.next
  reads h = ⊎_elim (λ e. absurd cc) (λ lt. lt) v.more

  pub symbol_reads : (s : Symbol) → true ≡ is_symbol s x.token → x.from < x.next
  symbol_reads s e = reads (symbol_not_end s x.token (sym e))

  pub head_reads : (h : Head) → Some h ≡ head_of x.token → x.from < x.next
  head_reads h e = reads (head_not_end x.token h (sym e))

  -- a line's end has bytes, and stands in the text, wherever it was looked for
  pub line_inside : true ≡ is_line x.token → (at < x.next) × (x.next ≤ length text)
  line_inside e =
      let not_end = line_not_end x.token (sym e) in
      let lt = reads not_end in
      let inside : x.next ≤ length text =
      ⊎_elim (λ before. v.in_text (omega arith))
      (λ past. let is = ap (λ y. is_end y.token) v.value ∙ sym (ap (λ y. is_end y.token) (look_past text at past)) in absurd cc)
      (cases_lt at (length text)) in
      (omega (arith, v.after, lt), inside)

-- what `ok_or` refuses
pub none_refused : {X E : Type 0} (o : Option X) (e f : E) → Err f ≡ ok_or o e → (o ≡ None) × (f ≡ e)
none_refused None e f h = (refl, cc)
none_refused (Some x) e f h = absurd cc
