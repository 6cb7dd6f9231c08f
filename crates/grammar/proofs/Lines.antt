-- Formula lines: what the grammar has and what is read.
use Rattle.std.proofs.Common.{◌≡◌, ℕ, zero, suc, ◌+◌, ◌<◌, ◌≤◌, Bool, true, false, ◌⊎◌, List, length, Some, codes, sym, refl, ap, ◌∙◌, inl, inr, ⊎_elim, arith}
use Rattle.std.proofs.lemmas.Bool.{and_parts, and_left, and_right, cases_Bool, cases_lt}
use Rattle.lexer.specs.declared.token.Symbol.{Symbol}
use Rattle.lexer.specs.declared.token.Symbol.TheVariants as symbol
use Rattle.lexer.specs.Lexer.{look_at}
use Rattle.lexer.specs.Tokens.{is_symbol, is_line}
use Rattle.lexer.proofs.Looks.{look_in_text}
use Rattle.temporal.specs.Written.{Written, conjunction}
use Rattle.nodes.specs.declared.node.Connective.TheVariants as connective
use Rattle.grammar.specs.declared.head.Head.TheVariants as head
use Rattle.grammar.specs.Grammar.{head_of, State, moved, Out, good, and_then}
use Rattle.grammar.specs.Sections.{is_word, is_this, ended, blanks, line_in, third_begins, formula_in, lines_in, safety_in}
use Rattle.grammar.specs.Shows.{Level, up_to, Shows, Line, Lines, first, further}
use Rattle.grammar.specs.Shows.{shows_constant, shows_variable, shows_unary, shows_group, shows_operand, shows_and, shows_or, shows_implies, shows_equivalent}
use Rattle.grammar.proofs.Blanks.{blanks_sound, blanks_complete, blank_forward, line_sound, line_ok}
use Rattle.grammar.proofs.Complete.{forward, complete, line_ends}
use Rattle.grammar.proofs.Outcomes.{carried, split_out, split_ended}
use Rattle.grammar.proofs.Sound.{sound}
use Rattle.grammar.proofs.Steps.{level_at}
use Rattle.grammar.proofs.Tokens.{head_not_line, symbol_not_word, line_not_word, word_begins, line_forward, no_line_past}

module _ (text : List ℕ) where
  -- no formula begins with a line end
  begins : {l : Level} {n : ℕ} {a b : State} {t : Written} → Shows text l n a b t → is_line (look_at text a.at).token ≡ false
  begins (shows_constant {a = a} v e) = head_not_line (look_at text a.at).token (head.Constant v) e
  begins (shows_variable {a = a} x e q r) = head_not_line (look_at text a.at).token head.Variable e
  begins (shows_unary {a = a} u next p e q s) = head_not_line (look_at text a.at).token (head.Prefix u) e
  begins (shows_group {a = a} e s q) = head_not_line (look_at text a.at).token head.Group e
  begins (shows_operand c s) = begins s
  begins (shows_and s e s') = begins s
  begins (shows_or s e s') = begins s
  begins (shows_implies s e s') = begins s
  begins (shows_equivalent s e s') = begins s

  -- behind a variable at its beginning a formula ends, or no word follows
  abbrev Alone : State → State → Type 0
  Alone a b = (b.at ≡ (look_at text a.at).next) ⊎ (is_word (look_at text (look_at text a.at).next).token ≡ false)

  joined :
      (a b c : State) (s : Symbol) → Alone a b → is_symbol s (look_at text b.at).token ≡ true → Alone a c
  joined a b c s (inl e) q =
      inr (ap (λ i. is_word (look_at text i).token) (sym e) ∙ symbol_not_word s (look_at text b.at).token q)
  joined a b c s (inr e) q = inr e

  alone :
      {l : Level} {n : ℕ} {a b : State} {t : Written} → Shows text l n a b t → head_of (look_at text a.at).token ≡ Some head.Variable →
      Alone a b
  alone (shows_constant v e) h = inl refl
  alone (shows_variable x e q r) h = inl refl
  alone (shows_unary {a = a} u next p e q s) h = absurd cc
  alone (shows_group {a = a} e s q) h = absurd cc
  alone (shows_operand c s) h = alone s h
  alone (shows_and {a = a} {b = b} {c = c} s e s') h = joined a b c symbol.And (alone s h) e
  alone (shows_or {a = a} {b = b} {c = c} s e s') h = joined a b c symbol.Or (alone s h) e
  alone (shows_implies {a = a} {b = b} {c = c} s e s') h = joined a b c symbol.Implies (alone s h) e
  alone (shows_equivalent {a = a} {b = b} {c = c} s e s') h = joined a b c symbol.Equivalent (alone s h) e

  -- so no formula line begins with two words
  second_word :
      (a b : State) → Alone a b → is_line (look_at text b.at).token ≡ true →
      is_word (look_at text (look_at text a.at).next).token ≡ false
  second_word a b (inl e) q = ap (λ i. is_word (look_at text i).token) (sym e) ∙ line_not_word (look_at text b.at).token q
  second_word a b (inr e) q = e

  not_third :
      (n : ℕ) (l : Level) (a b : State) (t : Written) → Shows text l n a b t → is_line (look_at text b.at).token ≡ true →
      third_begins text a.at ≡ false
  unfolding third_begins
  not_third n l a b t s q =
      ⊎_elim
      (λ is.
      let v = word_begins (look_at text a.at).token (and_parts _ _ is).0 in
      and_right _ _ (and_left _ _ (second_word a b (alone s v) q)))
      (λ other. and_left _ _ other)
      (cases_Bool (is_this text (codes "Environment") (look_at text a.at)))

  -- ── one line ──
  pub formula_sound : (a b : State) (t : Written) → formula_in text a ≡ good t b → Line text a b t
  unfolding formula_in
  formula_sound a b t g =
      let whole = level_at text 32 (up_to connective.Equivalent) in
      let p = split_out (whole (moved a (blanks text a.at))) (λ u s'. ended u s' (line_in text s'.at)) t b g in
      let q = split_ended p.0 p.1 (line_in text p.1.at) t b p.3 in
      let l = line_sound text p.1.at q.0 q.1 in
      carried (λ s u. Line text a s u) q.2
      (record {
        begin = blanks text a.at;
        end = p.1;
        blank = blanks_sound text a.at;
        shows = sound text 32 _ _ _ p.2;
        line_end = l.0;
        next = ap (moved p.1) (sym l.1);
      })

  pub formula_complete : (a b : State) (t : Written) → Line text a b t → formula_in text a ≡ good t b
  unfolding formula_in
  formula_complete a b t h =
      let whole = level_at text 32 (up_to connective.Equivalent) in
      let k = λ (u : Written) (s' : State). ended u s' (line_in text s'.at) in
      ap (λ i. and_then (whole (moved a i)) k) (blanks_complete text a.at h.begin h.blank (begins h.shows))
      ∙ ap (λ o. and_then o k)
      (complete text 32 (moved a h.begin) h.end t h.shows (line_ends (look_at text h.end.at).token h.line_end))
      ∙ ap (ended t h.end) (line_ok text h.end.at h.line_end) ∙ ap (good t) (sym h.next)

  -- a line ends strictly behind the place where it may begin
  pub line_ahead : (a b : State) (t : Written) → Line text a b t → a.at < b.at
  line_ahead a b t h =
      let next : b.at ≡ (look_at text h.end.at).next = ap (λ s. s.at) h.next in
      omega (arith, blank_forward text h.blank, forward text h.shows, line_forward text h.end.at h.line_end, next)

  -- and within the text
  pub line_within : (a b : State) (t : Written) → Line text a b t → b.at ≤ length text
  line_within a b t h =
      let next : b.at ≡ (look_at text h.end.at).next = ap (λ s. s.at) h.next in
      ⊎_elim
      (λ lt. omega (arith, next, look_in_text text h.end.at (omega arith)))
      (λ le. absurd (no_line_past text h.end.at le h.line_end))
      (cases_lt h.end.at (length text))

  line_inside : (a b : State) (t : Written) → Line text a b t → length text ≤ a.at → ⊥
  line_inside a b t h le =
      no_line_past text h.end.at (omega (arith, blank_forward text h.blank, forward text h.shows)) h.line_end

  line_goes_on : (a b : State) (t : Written) → Line text a b t → third_begins text (blanks text a.at) ≡ false
  line_goes_on a b t h =
      ap (third_begins text) (blanks_complete text a.at h.begin h.blank (begins h.shows))
      ∙ not_third 32 (up_to connective.Equivalent) (moved a h.begin) h.end t h.shows h.line_end

  -- ── the safety lines ──
  abbrev pub lines_by : ℕ → Written → State → Bool → Out
  lines_by n t s x = elim x [ true ↦ good t s | false ↦ and_then (formula_in text s) (λ u s'. lines_in text n (conjunction t u) s') ]

  pub lines_are :
      (n : ℕ) (t : Written) (s : State) (x : Bool) → third_begins text (blanks text s.at) ≡ x → lines_in text (suc n) t s ≡ lines_by n t s x
  unfolding lines_in
  lines_are n t s x e = ap (lines_by n t s) e

  turn_sound :
      (n : ℕ) (a s : State) (t : Written) (b : State) (u : Written) → Lines text a s t → (x : Bool) → lines_by n t s x ≡ good u b →
      ((v : Written) (d : State) → Lines text a d (conjunction t v) → lines_in text n (conjunction t v) d ≡ good u b → Lines text a b u) →
      Lines text a b u
  turn_sound n a s t b u h true g next = carried (λ d v. Lines text a d v) g h
  turn_sound n a s t b u h false g next =
      let p = split_out (formula_in text s) (λ v s'. lines_in text n (conjunction t v) s') u b g in
      next p.0 p.1 (further h (formula_sound s p.1 p.0 p.2)) p.3

  lines_sound :
      (n : ℕ) (a s : State) (t : Written) (b : State) (u : Written) → Lines text a s t → lines_in text n t s ≡ good u b → Lines text a b u
  unfolding lines_in
  lines_sound zero a s t b u h g = carried (λ d v. Lines text a d v) g h
  lines_sound (suc n) a s t b u h g =
      turn_sound n a s t b u h (third_begins text (blanks text s.at)) g
      (λ v d h' g'. lines_sound n a d (conjunction t v) b u h' g')

  pub safety_sound : (a b : State) (u : Written) → safety_in text a ≡ good u b → Lines text a b u
  unfolding safety_in
  safety_sound a b u g =
      let p = split_out (formula_in text a) (lines_in text (length text)) u b g in
      lines_sound (length text) a p.1 p.0 b u (first (formula_sound a p.1 p.0 p.2)) p.3

  -- the lines so far, with fuel for what may follow
  record Followed (a b : State) (t : Written) : Type 0 where
    fuel : ℕ
    rest : safety_in text a ≡ lines_in text fuel t b
    lasts : length text ≤ fuel + b.at

  followed_on :
      (a b c : State) (t u : Written) (fuel : ℕ) → safety_in text a ≡ lines_in text fuel t b → length text ≤ fuel + b.at →
      Line text b c u → Followed a c (conjunction t u)
  followed_on a b c t u zero r l h = absurd (line_inside b c u h (omega arith))
  followed_on a b c t u (suc n) r l h = record {
    fuel = n;
    rest =
        r ∙ lines_are n t b false (line_goes_on b c u h)
        ∙ ap (λ o. and_then o (λ v s'. lines_in text n (conjunction t v) s')) (formula_complete b c u h);
    lasts = omega (arith, line_ahead b c u h);
  }

  followed : {a b : State} {t : Written} → Lines text a b t → Followed a b t
  unfolding safety_in
  followed (first {a = a} {b = b} {t = t} h) = record {
    fuel = length text;
    rest = ap (λ o. and_then o (lines_in text (length text))) (formula_complete a b t h);
    lasts = omega arith;
  }
  followed (further {a = a} {b = b} {c = c} {t = t} {u = u} s h) =
      let r = followed s in
      followed_on a b c t u r.fuel r.rest r.lasts h

  lines_end : (n : ℕ) (t : Written) (b : State) → third_begins text (blanks text b.at) ≡ true → lines_in text n t b ≡ good t b
  unfolding lines_in
  lines_end zero t b e = refl
  lines_end (suc n) t b e = ap (lines_by n t b) e

  pub safety_complete :
      (a b : State) (t : Written) → Lines text a b t → third_begins text (blanks text b.at) ≡ true → safety_in text a ≡ good t b
  safety_complete a b t h e =
      let r = followed h in
      r.rest ∙ lines_end r.fuel t b e
