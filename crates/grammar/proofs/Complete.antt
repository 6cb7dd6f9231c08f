-- What the grammar shows, up to a token that cannot go on with it, is what is read.
use Rattle.std.proofs.Common.{◌≡◌, ℕ, zero, suc, ◌+◌, ◌<◌, ◌≤◌, Bool, true, false, ltb, List, length, Some, Ok, sym, ap, ◌∙◌, arith}
use Rattle.std.proofs.lemmas.Bool.{cond-true, lt-ltb}
use Rattle.lexer.specs.declared.token.Symbol.TheVariants as symbol
use Rattle.lexer.specs.declared.token.Token.{Token}
use Rattle.lexer.specs.Lexer.{look_at}
use Rattle.lexer.specs.Tokens.{is_symbol, is_line}
use Rattle.lexer.proofs.Looks.{look_next}
use Rattle.names.specs.declared.Name.{Name}
use Rattle.temporal.specs.Written.{Written, variable}
use Rattle.nodes.specs.declared.node.Connective.{Connective}
use Rattle.nodes.specs.declared.node.Connective.TheVariants as connective
use Rattle.nodes.specs.Trees.{constant_of, join, apply}
use Rattle.grammar.specs.declared.head.Head.TheVariants as head
use Rattle.grammar.specs.declared.head.Prefixed.{Prefixed}
use Rattle.grammar.specs.declared.head.Unary.{Unary}
use Rattle.grammar.specs.Grammar.{head_of, symbol_of, State, moved, good, Parser, and_then, Inside, word_name, prefix_in, prefixed, named, closed}
use Rattle.grammar.specs.Grammar.{more, chain_by, arrowed, arrow_by, operand_by, inside}
use Rattle.grammar.specs.Numbering.{rank, extended, variable_of}
use Rattle.grammar.specs.Shows.{Level, unary, up_to, Shows}
use Rattle.grammar.specs.Shows.{shows_constant, shows_variable, shows_unary, shows_group, shows_operand, shows_and, shows_or, shows_implies, shows_equivalent}
use Rattle.grammar.proofs.Ranges.{bounds_complete}
use Rattle.grammar.proofs.Prefixes.{prefix_ok}
use Rattle.grammar.proofs.Steps.{level_at, unary_is, closed_is, more_is, more_ends, chain_is, arrowed_is, arrow_is}
use Rattle.grammar.proofs.Tokens.{one_symbol, line_not_symbol, symbol_forward, no_symbol_past}

-- a formula ends where it begins or later
pub forward : (text : List ℕ) {l : Level} {n : ℕ} {a b : State} {t : Written} → Shows text l n a b t → a.at ≤ b.at
forward text (shows_constant {a = a} v e) = look_next text a.at
forward text (shows_variable {a = a} x e q r) = look_next text a.at
forward text (shows_unary {a = a} u next p e q s) =
    omega (arith, look_next text a.at, (prefix_ok text (look_at text a.at).next u (record { prefix = p; next = next }) (bounds_complete text q)).after, forward text s)
forward text (shows_group {a = a} {b = b} e s q) = omega (arith, look_next text a.at, forward text s, look_next text b.at)
forward text (shows_operand c s) = forward text s
forward text (shows_and {b = b} s e s') = omega (arith, forward text s, look_next text b.at, forward text s')
forward text (shows_or {b = b} s e s') = omega (arith, forward text s, look_next text b.at, forward text s')
forward text (shows_implies {b = b} s e s') = omega (arith, forward text s, look_next text b.at, forward text s')
forward text (shows_equivalent {b = b} s e s') = omega (arith, forward text s, look_next text b.at, forward text s')

-- a chain so far, with fuel for what may follow
module _ (text : List ℕ) (c : Connective) (operand : Parser) where
  record Chained (a b : State) (t : Written) : Type 0 where
    fuel : ℕ
    rest : chain_by text c operand a ≡ more text c operand fuel t b
    lasts : length text ≤ fuel + b.at

  chained_first : (a b : State) (t : Written) → operand a ≡ good t b → Chained a b t
  chained_first a b t e = record {
    fuel = length text;
    rest = chain_is text c operand a ∙ ap (λ o. and_then o (more text c operand (length text))) e;
    lasts = omega arith;
  }

  chained_on :
      (a b d : State) (t u : Written) (fuel : ℕ) → chain_by text c operand a ≡ more text c operand fuel t b →
      length text ≤ fuel + b.at → is_symbol (symbol_of c) (look_at text b.at).token ≡ true →
      operand (moved b (look_at text b.at).next) ≡ good u d → (look_at text b.at).next ≤ d.at → Chained a d (join c t u)
  chained_on a b d t u zero r l e g le = absurd (no_symbol_past text b.at (symbol_of c) (omega arith) e)
  chained_on a b d t u (suc n) r l e g le = record {
    fuel = n;
    rest = r ∙ more_is text c operand n t b true e ∙ ap (λ o. and_then o (λ v s'. more text c operand n (join c t v) s')) g;
    lasts = omega (arith, symbol_forward text b.at (symbol_of c) e);
  }

  chained_more :
      (a b d : State) (t u : Written) → Chained a b t → is_symbol (symbol_of c) (look_at text b.at).token ≡ true →
      operand (moved b (look_at text b.at).next) ≡ good u d → (look_at text b.at).next ≤ d.at → Chained a d (join c t u)
  chained_more a b d t u r e g le = chained_on a b d t u r.fuel r.rest r.lasts e g le

  chained_ends :
      (a b : State) (t : Written) → Chained a b t → is_symbol (symbol_of c) (look_at text b.at).token ≡ false →
      chain_by text c operand a ≡ good t b
  chained_ends a b t r e = r.rest ∙ more_ends text c operand r.fuel t b e

-- the symbols that go on with a formula of a level
abbrev pub Ends : Level → Token → Type 0
Ends unary k = Unit {0}
Ends (up_to connective.And) k = is_symbol symbol.And k ≡ false
Ends (up_to connective.Or) k = (is_symbol symbol.And k ≡ false) × (is_symbol symbol.Or k ≡ false)
Ends (up_to connective.Implies) k = (is_symbol symbol.And k ≡ false) × (is_symbol symbol.Or k ≡ false) × (is_symbol symbol.Implies k ≡ false)
Ends (up_to connective.Equivalent) k =
    (is_symbol symbol.And k ≡ false) × (is_symbol symbol.Or k ≡ false) × (is_symbol symbol.Implies k ≡ false)
    × (is_symbol symbol.Equivalent k ≡ false)

pub line_ends : (k : Token) → is_line k ≡ true → Ends (up_to connective.Equivalent) k
line_ends k e =
    (line_not_symbol symbol.And k e, line_not_symbol symbol.Or k e, line_not_symbol symbol.Implies k e, line_not_symbol symbol.Equivalent k e)

close_ends : (k : Token) → is_symbol symbol.Close k ≡ true → Ends (up_to connective.Equivalent) k
close_ends k e = (
  one_symbol symbol.Close symbol.And k (λ h. omega arith) e,
  one_symbol symbol.Close symbol.Or k (λ h. omega arith) e,
  one_symbol symbol.Close symbol.Implies k (λ h. omega arith) e,
  one_symbol symbol.Close symbol.Equivalent k (λ h. omega arith) e,
)

or_ends : (k : Token) → is_symbol symbol.Or k ≡ true → Ends (up_to connective.And) k
or_ends k e = one_symbol symbol.Or symbol.And k (λ h. omega arith) e

implies_ends : (k : Token) → is_symbol symbol.Implies k ≡ true → Ends (up_to connective.Or) k
implies_ends k e = (one_symbol symbol.Implies symbol.And k (λ h. omega arith) e, one_symbol symbol.Implies symbol.Or k (λ h. omega arith) e)

equivalent_ends : (k : Token) → is_symbol symbol.Equivalent k ≡ true → Ends (up_to connective.Implies) k
equivalent_ends k e = (
  one_symbol symbol.Equivalent symbol.And k (λ h. omega arith) e,
  one_symbol symbol.Equivalent symbol.Or k (λ h. omega arith) e,
  one_symbol symbol.Equivalent symbol.Implies k (λ h. omega arith) e,
)

module _ (text : List ℕ) where
  -- one lemma for each way to begin

  reads_constant :
      (n : ℕ) (a : State) (v : Bool) → head_of (look_at text a.at).token ≡ Some (head.Constant v) →
      level_at text n unary a ≡ good (constant_of v) (moved a (look_at text a.at).next)
  reads_constant n a v e = unary_is text (inside text n) a (Some (head.Constant v)) e

  reads_variable :
      (n : ℕ) (a : State) (x : Name) → head_of (look_at text a.at).token ≡ Some head.Variable → x ≡ word_name text (look_at text a.at) →
      rank x a.names < 16 →
      level_at text n unary a
      ≡ good (variable (variable_of x a.names)) (record { at = (look_at text a.at).next; names = extended x a.names })
  reads_variable n a x e q lt =
      unary_is text (inside text n) a (Some head.Variable) e ∙ ap (λ y. named y (look_at text a.at) a) (sym q)
      ∙ cond-true (ltb (rank x a.names) 16) _ _ (lt-ltb _ _ lt)

  reads_unary :
      (n : ℕ) (a b : State) (t : Written) (u : Unary) (p : Prefixed) → head_of (look_at text a.at).token ≡ Some (head.Prefix u) →
      prefix_in text u (look_at text a.at).next ≡ Ok p → level_at text n unary (moved a p.next) ≡ good t b →
      level_at text (suc n) unary a ≡ good (apply p.prefix t) b
  unfolding inside
  reads_unary n a b t u p e q g =
      unary_is text (inside text (suc n)) a (Some (head.Prefix u)) e
      ∙ ap (λ r. prefixed r (level_at text n unary) a) q ∙ ap (λ o. and_then o (λ v s'. good (apply p.prefix v) s')) g

  reads_group :
      (n : ℕ) (a b : State) (t : Written) → head_of (look_at text a.at).token ≡ Some head.Group →
      level_at text n (up_to connective.Equivalent) (moved a (look_at text a.at).next) ≡ good t b →
      is_symbol symbol.Close (look_at text b.at).token ≡ true →
      level_at text (suc n) unary a ≡ good t (moved b (look_at text b.at).next)
  unfolding inside
  reads_group n a b t e g q =
      unary_is text (inside text (suc n)) a (Some head.Group) e
      ∙ ap (λ o. and_then o (λ v s'. closed v s' (look_at text s'.at))) g ∙ closed_is t b (look_at text b.at) true q

  -- an operand that no arrow follows, and an arrow with both sides

  module _ (c : Connective) (operand : Parser) where
    reads_alone :
        (d : Inside) (a b : State) (t : Written) → operand a ≡ good t b → is_symbol (symbol_of c) (look_at text b.at).token ≡ false →
        arrow_by text c d operand a ≡ good t b
    reads_alone d a b t g e =
        arrow_is text c d operand a ∙ ap (λ o. and_then o (λ v s'. arrowed c d v s' (look_at text s'.at))) g
        ∙ arrowed_is c d t b (look_at text b.at) false e

    reads_arrow :
        (n : ℕ) (a b s : State) (t u : Written) → operand a ≡ good t b → is_symbol (symbol_of c) (look_at text b.at).token ≡ true →
        level_at text n (up_to connective.Implies) (moved b (look_at text b.at).next) ≡ good u s →
        arrow_by text c (inside text (suc n)) operand a ≡ good (join c t u) s
    unfolding inside
    reads_arrow n a b s t u g e h =
        arrow_is text c (inside text (suc n)) operand a
        ∙ ap (λ o. and_then o (λ v s'. arrowed c (inside text (suc n)) v s' (look_at text s'.at))) g
        ∙ arrowed_is c (inside text (suc n)) t b (look_at text b.at) true e ∙ ap (λ o. and_then o (λ v s'. good (join c t v) s')) h

  -- what is read where the grammar shows a formula
  abbrev Read : Level → ℕ → State → State → Written → Type 0
  Read unary n a b t = level_at text n unary a ≡ good t b
  Read (up_to connective.And) n a b t = Chained text connective.And (operand_by text (inside text n) connective.And) a b t
  Read (up_to connective.Or) n a b t =
      Ends (up_to connective.And) (look_at text b.at).token → Chained text connective.Or (operand_by text (inside text n) connective.Or) a b t
  Read (up_to connective.Implies) n a b t =
      Ends (up_to connective.Implies) (look_at text b.at).token → level_at text n (up_to connective.Implies) a ≡ good t b
  Read (up_to connective.Equivalent) n a b t =
      Ends (up_to connective.Equivalent) (look_at text b.at).token → level_at text n (up_to connective.Equivalent) a ≡ good t b

  and_read :
      (n : ℕ) (a b : State) (t : Written) → Read (up_to connective.And) n a b t →
      Ends (up_to connective.And) (look_at text b.at).token → level_at text n (up_to connective.And) a ≡ good t b
  and_read n a b t r e = chained_ends text connective.And (operand_by text (inside text n) connective.And) a b t r e

  or_read :
      (n : ℕ) (a b : State) (t : Written) → Read (up_to connective.Or) n a b t →
      Ends (up_to connective.Or) (look_at text b.at).token → level_at text n (up_to connective.Or) a ≡ good t b
  or_read n a b t r e = chained_ends text connective.Or (operand_by text (inside text n) connective.Or) a b t (r e.0) e.1

  reads : {l : Level} {n : ℕ} {a b : State} {t : Written} → Shows text l n a b t → Read l n a b t
  unfolding operand_by
  reads (shows_constant {n = n} {a = a} v e) = reads_constant n a v e
  reads (shows_variable {n = n} {a = a} x e q lt) = reads_variable n a x e q lt
  reads (shows_unary {n = n} {a = a} {b = b} {t = t} u next p e q s) =
      reads_unary n a b t u (record { prefix = p; next = next }) e (bounds_complete text q) (reads s)
  reads (shows_group {n = n} {a = a} {b = b} {t = t} e s q) =
      reads_group n a b t e (reads s (close_ends (look_at text b.at).token q)) q
  reads (shows_operand {n = n} {a = a} {b = b} {t = t} connective.And s) =
      chained_first text connective.And (level_at text n unary) a b t (reads s)
  reads (shows_operand {n = n} {a = a} {b = b} {t = t} connective.Or s) =
      λ e. chained_first text connective.Or (level_at text n (up_to connective.And)) a b t (and_read n a b t (reads s) e)
  reads (shows_operand {n = n} {a = a} {b = b} {t = t} connective.Implies s) =
      λ e. reads_alone connective.Implies (level_at text n (up_to connective.Or)) (inside text n) a b t
      (or_read n a b t (reads s) (e.0, e.1)) e.2
  reads (shows_operand {n = n} {a = a} {b = b} {t = t} connective.Equivalent s) =
      λ e. reads_alone connective.Equivalent (level_at text n (up_to connective.Implies)) (inside text n) a b t
      (reads s (e.0, e.1, e.2)) e.3
  reads (shows_and {n = n} {a = a} {b = b} {c = c} {t = t} {u = u} s e s') =
      chained_more text connective.And (level_at text n unary) a b c t u (reads s) e (reads s') (forward text s')
  reads (shows_or {n = n} {a = a} {b = b} {c = c} {t = t} {u = u} s e s') =
      λ k. chained_more text connective.Or (level_at text n (up_to connective.And)) a b c t u
      (reads s (or_ends (look_at text b.at).token e)) e
      (and_read n (moved b (look_at text b.at).next) c u (reads s') k) (forward text s')
  reads (shows_implies {n = n} {a = a} {b = b} {c = c} {t = t} {u = u} s e s') =
      λ k. reads_arrow connective.Implies (level_at text (suc n) (up_to connective.Or)) n a b c t u
      (or_read (suc n) a b t (reads s) (implies_ends (look_at text b.at).token e)) e (reads s' k)
  reads (shows_equivalent {n = n} {a = a} {b = b} {c = c} {t = t} {u = u} s e s') =
      λ k. reads_arrow connective.Equivalent (level_at text (suc n) (up_to connective.Implies)) n a b c t u
      (reads s (equivalent_ends (look_at text b.at).token e)) e (reads s' (k.0, k.1, k.2))

  -- a formula that the grammar shows with nesting for n is read, if no symbol goes on with it
  pub complete :
      (n : ℕ) (a b : State) (t : Written) → Shows text (up_to connective.Equivalent) n a b t →
      Ends (up_to connective.Equivalent) (look_at text b.at).token → level_at text n (up_to connective.Equivalent) a ≡ good t b
  complete n a b t s e = reads s e
