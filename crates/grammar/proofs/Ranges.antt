-- Bounds behind unary operators: what the grammar has and what is read.
use Rattle.std.proofs.Common.{◌≡◌, ℕ, ◌≤◌, Bool, true, false, List, Some, None, Ok, Err, Option, Result, sym, refl, ap, ◌∙◌, subst, arith}
use Rattle.std.proofs.lemmas.Bool.{cond-true, cond-false, or_from, le-ltb}
use Rattle.faults.specs.declared.TextFault.{TextFault}
use Rattle.lexer.specs.declared.bounds.Bound.{Bound}
use Rattle.lexer.specs.declared.bounds.Range.{Range}
use Rattle.lexer.specs.declared.token.Lexeme.{Lexeme}
use Rattle.lexer.specs.declared.token.Operator.TheVariants as temporal
use Rattle.lexer.specs.declared.token.Symbol.{Symbol}
use Rattle.lexer.specs.declared.token.Symbol.TheVariants as symbol
use Rattle.lexer.specs.Bounds.{outside, sign_of, sign_in, bounded, number_in, bound_after, bound_in, range_in}
use Rattle.lexer.specs.Lexer.{look_at}
use Rattle.lexer.specs.Tokens.{is_symbol, number_of}
use Rattle.lexer.proofs.Limits.{bound_ok, range_ok}
use Rattle.nodes.specs.declared.node.Prefix.{Prefix}
use Rattle.nodes.specs.declared.node.Prefix.TheVariants as prefix
use Rattle.grammar.specs.declared.head.Prefixed.{Prefixed}
use Rattle.grammar.specs.declared.head.Unary.{Unary}
use Rattle.grammar.specs.declared.head.Unary.TheVariants as operator
use Rattle.grammar.specs.Grammar.{next_prefix, range_prefix, prefix_in}
use Rattle.grammar.specs.Shows.{skip, Sign, Numeral, OneBound, TwoBounds, Bounds, not_bounds, next_alone, next_bound, always_bounds, eventually_bounds}
use Rattle.grammar.proofs.Outcomes.{never_ok, split_then, then_is}

same_ok : {X : Type 0} {x y : X} → ◌≡◌ {A = Result X TextFault} (Ok x) (Ok y) → x ≡ y
same_ok e = cc

-- a bound in its range passes the test
not_outside : (least n : ℕ) → least ≤ n → n ≤ 4095 → outside least n ≡ false
not_outside least n low high = or_from _ _ (le-ltb n least low) (le-ltb 4095 n high)

module _ (text : List ℕ) where
  -- ── one token ──
  sign_by_lem : (s : Symbol) (x : Lexeme) (n : ℕ) (b : Bool) → is_symbol s x.token ≡ b → sign_of s x ≡ Ok n → (b ≡ true) × (x.next ≡ n)
  sign_by_lem s x n true e g = (refl, same_ok (sym (cond-true _ _ _ e) ∙ g))
  sign_by_lem s x n false e g = absurd (never_ok (sym (cond-false _ _ _ e) ∙ g))

  sign_sound : (s : Symbol) (a n : ℕ) → sign_in text s a ≡ Ok n → Sign text s a × ((look_at text a).next ≡ n)
  unfolding sign_in
  sign_sound s a n g = sign_by_lem s (look_at text a) n _ refl g

  sign_ok : (s : Symbol) (a : ℕ) → Sign text s a → sign_in text s a ≡ Ok (look_at text a).next
  unfolding sign_in
  sign_ok s a e = cond-true _ _ _ e

  within_by :
      (least n : ℕ) (x : Lexeme) (b : Bound) (t : Bool) → outside least n ≡ t → bounded least x (Some n) ≡ Ok b →
      (n ≡ b.value) × (x.next ≡ b.next)
  within_by least n x b true e g = absurd (never_ok (sym (cond-true _ _ _ e) ∙ g))
  within_by least n x b false e g =
      let same = same_ok (sym (cond-false _ _ _ e) ∙ g) in
      (ap (λ y. y.value) same, ap (λ y. y.next) same)

  number_by :
      (least : ℕ) (x : Lexeme) (b : Bound) (o : Option ℕ) → number_of x.token ≡ o → bounded least x o ≡ Ok b →
      (number_of x.token ≡ Some b.value) × (x.next ≡ b.next)
  number_by least x b None e g = absurd (never_ok g)
  number_by least x b (Some n) e g =
      let w = within_by least n x b (outside least n) refl g in
      (e ∙ ap Some w.0, w.1)

  number_sound : (least a : ℕ) (b : Bound) → number_in text least a ≡ Ok b → Numeral text b.value a × ((look_at text a).next ≡ b.next)
  unfolding number_in
  number_sound least a b g = number_by least (look_at text a) b _ refl g

  number_ok :
      (least a n : ℕ) → Numeral text n a → least ≤ n → n ≤ 4095 → number_in text least a ≡ Ok (record { value = n; next = (look_at text a).next })
  unfolding number_in
  number_ok least a n e low high =
      ap (bounded least (look_at text a)) e ∙ cond-false (outside least n) _ _ (not_outside least n low high)

  -- what stands at a place stands at the same place under another name
  sign_at : (s : Symbol) (a b : ℕ) → a ≡ b → Sign text s b → Sign text s a
  sign_at s a b e h = subst (Sign text s) (sym e) h

  numeral_at : (n a b : ℕ) → a ≡ b → Numeral text n b → Numeral text n a
  numeral_at n a b e h = subst (Numeral text n) (sym e) h

  go : (a b c : ℕ) → a ≡ b → (look_at text b).next ≡ c → (look_at text a).next ≡ c
  go a b c e h = ap (λ i. (look_at text i).next) e ∙ h

  -- ── one bound ──
  one_sound : (a : ℕ) (b : Bound) → Sign text symbol.Left a → bound_after text (look_at text a).next ≡ Ok b → 1 ≤ b.value → b.value ≤ 4095 → OneBound text a b.next b.value
  one_sound a b l g least most =
      let p = split_then (number_in text 1 (look_at text a).next) _ b g in
      let n = number_sound 1 (look_at text a).next p.0 p.1 in
      let q = split_then (sign_in text symbol.Right p.0.next) _ b p.2 in
      let r = sign_sound symbol.Right p.0.next q.0 q.1 in
      let same = same_ok q.2 in
      record {
        left = l;
        value = n.0 ∙ ap (λ y. Some y.value) same;
        right = sign_at symbol.Right (skip text 2 a) p.0.next n.1 r.0;
        end = sym (go (skip text 2 a) p.0.next q.0 n.1 r.1 ∙ ap (λ y. y.next) same);
        least = least;
        most = most;
      }

  one_complete : (a b n : ℕ) → OneBound text a b n → bound_in text a ≡ Ok (record { value = n; next = b })
  unfolding bound_in
  one_complete a b n h =
      cond-true (is_symbol symbol.Left (look_at text a).token) _ _ h.left
      ∙ then_is (number_in text 1 (skip text 1 a)) _ _ (number_ok 1 (skip text 1 a) n h.value h.least h.most)
      ∙ then_is (sign_in text symbol.Right (skip text 2 a)) _ _ (sign_ok symbol.Right (skip text 2 a) h.right)
      ∙ ap (λ i. Ok (record { value = n; next = i })) (sym h.end)

  alone_complete : (a : ℕ) → is_symbol symbol.Left (look_at text a).token ≡ false → bound_in text a ≡ Ok (record { value = 1; next = a })
  unfolding bound_in
  alone_complete a e = cond-false (is_symbol symbol.Left (look_at text a).token) _ _ e

  next_by :
      (a : ℕ) (b : Bound) (t : Bool) → is_symbol symbol.Left (look_at text a).token ≡ t → bound_in text a ≡ Ok b →
      Bounds text (operator.Temporal temporal.Next) a b.next (prefix.Next b.value)
  unfolding bound_in
  next_by a b true e g =
      let ok = bound_ok text a b g in
      next_bound (one_sound a b e (sym (cond-true (is_symbol symbol.Left (look_at text a).token) _ _ e) ∙ g) ok.least ok.most)
  next_by a b false e g =
      let same = same_ok (sym (cond-false (is_symbol symbol.Left (look_at text a).token) _ _ e) ∙ g) in
      subst (λ (y : Bound). Bounds text (operator.Temporal temporal.Next) a y.next (prefix.Next y.value)) same (next_alone e)

  -- ── two bounds ──
  two_sound : (a : ℕ) (r : Range) → range_in text a ≡ Ok r → TwoBounds text a r.next r.low r.high
  unfolding range_in
  two_sound a r g =
      let ok = range_ok text a r g in
      let p = split_then (sign_in text symbol.Left a) _ r g in
      let left = sign_sound symbol.Left a p.0 p.1 in
      let q = split_then (number_in text 0 p.0) _ r p.2 in
      let low = number_sound 0 p.0 q.0 q.1 in
      let s = split_then (sign_in text symbol.Comma q.0.next) _ r q.2 in
      let comma = sign_sound symbol.Comma q.0.next s.0 s.1 in
      let u = split_then (number_in text q.0.value s.0) _ r s.2 in
      let high = number_sound q.0.value s.0 u.0 u.1 in
      let v = split_then (sign_in text symbol.Right u.0.next) _ r u.2 in
      let right = sign_sound symbol.Right u.0.next v.0 v.1 in
      let same = same_ok v.2 in
      let two = go (skip text 1 a) p.0 q.0.next left.1 low.1 in
      let three = go (skip text 2 a) q.0.next s.0 two comma.1 in
      let four = go (skip text 3 a) s.0 u.0.next three high.1 in
      record {
        left = left.0;
        low = numeral_at r.low (skip text 1 a) p.0 left.1 (low.0 ∙ ap (λ y. Some y.low) same);
        comma = sign_at symbol.Comma (skip text 2 a) q.0.next two comma.0;
        high = numeral_at r.high (skip text 3 a) s.0 three (high.0 ∙ ap (λ y. Some y.high) same);
        right = sign_at symbol.Right (skip text 4 a) u.0.next four right.0;
        end = sym (go (skip text 4 a) u.0.next v.0 four right.1 ∙ ap (λ y. y.next) same);
        ordered = ok.ordered;
        most = ok.most;
      }

  two_complete : (a b n m : ℕ) → TwoBounds text a b n m → range_in text a ≡ Ok (record { low = n; high = m; next = b })
  unfolding range_in
  two_complete a b n m h =
      then_is (sign_in text symbol.Left a) _ _ (sign_ok symbol.Left a h.left)
      ∙ then_is (number_in text 0 (skip text 1 a)) _ _ (number_ok 0 (skip text 1 a) n h.low (omega arith) (omega (arith, h.ordered, h.most)))
      ∙ then_is (sign_in text symbol.Comma (skip text 2 a)) _ _ (sign_ok symbol.Comma (skip text 2 a) h.comma)
      ∙ then_is (number_in text n (skip text 3 a)) _ _ (number_ok n (skip text 3 a) m h.high h.ordered h.most)
      ∙ then_is (sign_in text symbol.Right (skip text 4 a)) _ _ (sign_ok symbol.Right (skip text 4 a) h.right)
      ∙ ap (λ i. Ok (record { low = n; high = m; next = i })) (sym h.end)

  -- ── all unary operators ──
  next_sound :
      (a : ℕ) (r : Result Bound TextFault) (p : Prefixed) → bound_in text a ≡ r → next_prefix r ≡ Ok p →
      Bounds text (operator.Temporal temporal.Next) a p.next p.prefix
  next_sound a (Ok b) p e g =
      subst (λ (y : Prefixed). Bounds text (operator.Temporal temporal.Next) a y.next y.prefix) (same_ok g) (next_by a b _ refl e)
  next_sound a (Err f) p e g = absurd (never_ok g)

  range_sound :
      (u : Unary) (make : ℕ → ℕ → Prefix) → ((a b n m : ℕ) → TwoBounds text a b n m → Bounds text u a b (make n m)) →
      (a : ℕ) (r : Result Range TextFault) (p : Prefixed) → range_in text a ≡ r → range_prefix make r ≡ Ok p → Bounds text u a p.next p.prefix
  range_sound u make two a (Ok r) p e g =
      subst (λ (y : Prefixed). Bounds text u a y.next y.prefix) (same_ok g) (two a r.next r.low r.high (two_sound a r e))
  range_sound u make two a (Err f) p e g = absurd (never_ok g)

  pub bounds_sound : (u : Unary) (a : ℕ) (p : Prefixed) → prefix_in text u a ≡ Ok p → Bounds text u a p.next p.prefix
  bounds_sound operator.Not a p g =
      subst (λ (y : Prefixed). Bounds text operator.Not a y.next y.prefix) (same_ok g) not_bounds
  bounds_sound (operator.Temporal temporal.Next) a p g = next_sound a (bound_in text a) p refl g
  bounds_sound (operator.Temporal temporal.Always) a p g =
      range_sound _ (λ n m. prefix.Always n m) (λ a b n m h. always_bounds h) a (range_in text a) p refl g
  bounds_sound (operator.Temporal temporal.Eventually) a p g =
      range_sound _ (λ n m. prefix.Eventually n m) (λ a b n m h. eventually_bounds h) a (range_in text a) p refl g

  pub bounds_complete : {u : Unary} {a b : ℕ} {p : Prefix} → Bounds text u a b p → prefix_in text u a ≡ Ok (record { prefix = p; next = b })
  bounds_complete not_bounds = refl
  bounds_complete (next_alone {a = a} e) = ap next_prefix (alone_complete a e)
  bounds_complete (next_bound {a = a} {b = b} {n = n} h) = ap next_prefix (one_complete a b n h)
  bounds_complete (always_bounds {a = a} {b = b} {n = n} {m = m} h) = ap (range_prefix (λ n m. prefix.Always n m)) (two_complete a b n m h)
  bounds_complete (eventually_bounds {a = a} {b = b} {n = n} {m = m} h) =
      ap (range_prefix (λ n m. prefix.Eventually n m)) (two_complete a b n m h)
