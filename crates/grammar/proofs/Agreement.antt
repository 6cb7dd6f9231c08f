-- Two texts with the same tokens up to a place, read side by side.
use Rattle.std.proofs.Common.{◌≡◌, ℕ, zero, suc, ◌+◌, ◌<◌, ◌≤◌, Bool, true, false, ◌&&◌, ◌||◌, ltb, ◌⊎◌, List, [], length, Some, None, Ok, Err, codes, Option, Result, sym, refl, ap, ◌∙◌, subst, inl, inr, ⊎_elim, arith}
use Rattle.std.specs.Str.{bytes_eq}
use Rattle.std.proofs.lemmas.Bool.{cond-true, cond-false, cond_both, and_parts, and_left, cases_lt, cases_eq, cases_Bool}
use Rattle.faults.specs.declared.Reason.TheVariants as reason
use Rattle.faults.specs.declared.TextFault.{TextFault}
use Rattle.lexer.specs.declared.bounds.Bound.{Bound}
use Rattle.lexer.specs.declared.bounds.Range.{Range}
use Rattle.lexer.specs.declared.token.Lexeme.{Lexeme}
use Rattle.lexer.specs.declared.token.Operator.TheVariants as operator
use Rattle.lexer.specs.declared.token.Symbol.{Symbol}
use Rattle.lexer.specs.declared.token.Symbol.TheVariants as symbol
use Rattle.lexer.specs.Bounds.{then_ok, outside, sign_of, sign_in, bounded, number_in, bound_after, bound_from, bound_in, range_in, expected}
use Rattle.lexer.specs.Lexer.{look_at}
use Rattle.lexer.specs.Tokens.{is_symbol, is_line, is_end, number_of}
use Rattle.names.specs.Words.{name_of}
use Rattle.nodes.specs.declared.node.Connective.{Connective}
use Rattle.nodes.specs.declared.node.Connective.TheVariants as connective
use Rattle.nodes.specs.Trees.{apply, join}
use Rattle.grammar.specs.declared.head.Head.{Head}
use Rattle.grammar.specs.declared.head.Head.TheVariants as head
use Rattle.grammar.specs.Numbering.{rank}
use Rattle.lexer.proofs.Looks.{look_after, look_next}
use Rattle.temporal.specs.Written.{Written, conjunction}
use Rattle.nodes.specs.declared.node.Prefix.{Prefix}
use Rattle.nodes.specs.declared.node.Prefix.TheVariants as prefix
use Rattle.grammar.specs.declared.head.Prefixed.{Prefixed}
use Rattle.grammar.specs.declared.head.Unary.{Unary}
use Rattle.grammar.specs.declared.head.Unary.TheVariants as unary
use Rattle.grammar.specs.Grammar.{head_of, symbol_of, State, moved, Out, good, stop, Parser, and_then, next_prefix, range_prefix, prefix_in, prefixed, behind, word_name, named, closed, begun}
use Rattle.grammar.specs.Grammar.{implication_in, whole_in, unary_by, more, chain_by, arrowed, arrow_by, operand_by, inside}
use Rattle.grammar.specs.Sections.{is_word, is_true, is_this, past_lines, blanks, word_in, line_in, true_in, last_in, end_in, header_in, third_in, third_begins}
use Rattle.grammar.specs.Sections.{ended, formula_in, lines_in, safety_in, Contents, Form, formed, refused, or_refused, out_or_refused, sections_of}
use Rattle.grammar.specs.Shows.{Level, up_to}
use Rattle.grammar.specs.Shows.{unary as unary_level}
use Rattle.grammar.proofs.Bytes.{SameToken, SameTokens}
use Rattle.grammar.proofs.Complete.{forward}
use Rattle.grammar.proofs.Lines.{formula_sound, line_ahead, line_within, lines_by, lines_are}
use Rattle.grammar.proofs.Outcomes.{never_formed}
use Rattle.grammar.proofs.Sound.{sound_at}
use Rattle.grammar.proofs.Steps.{level_at, closed_by, turn_by, more_is, more_ends, arrowed_by, arrowed_is}
use Rattle.grammar.proofs.Tokens.{word_begins, line_forward, no_line_past, symbol_forward, no_symbol_past}

abbrev bound_end : Bound → ℕ
bound_end b = b.next

abbrev range_end : Range → ℕ
range_end b = b.next

abbrev pub prefix_end : Prefixed → ℕ
prefix_end p = p.next

module _ (text other : List ℕ) (place : ℕ) (same : SameTokens text other place) where
  -- a refusal of the token at the place
  abbrev pub Final : TextFault → Type 0
  Final f = (f.place ≡ place) × ((f.reason ≡ reason.Unknown) ⊎ (f.reason ≡ reason.Misplaced))

  -- from p on the token at the place will not be met
  abbrev pub Past : ℕ → Type 0
  Past p = ((look_at text p).from ≡ place → ⊥) × (place < (look_at text p).next)

  pub past_ahead : (p : ℕ) → place < p → Past p
  past_ahead p lt = (λ e. omega (arith, look_after text p, e, lt), omega (arith, look_next text p, lt))

  pub past_next : (p : ℕ) → Past p → Past (look_at text p).next
  past_next p o = past_ahead (look_at text p).next o.1

  pub met_or_past : (p : ℕ) → SameToken text other p ⊎ Past p
  met_or_past p =
      ⊎_elim
      (λ lt. ⊎_elim (λ e. inl (same.there p e)) (λ ne. inr (ne, lt)) (cases_eq (look_at text p).from place))
      (λ le. inl (same.before p le))
      (cases_lt place (look_at text p).next)

  -- what was read from `at` on in the one text is as in the other, or the token at the place was passed without refusal
  pub record Step {O : Type 0} (Passed : O → Type 0) (at : ℕ) (o o' : O) : Type 0 where
    pub past : Past at → Passed o
    pub agree : (o ≡ o') ⊎ Passed o

  pub step_by :
      {O : Type 0} (Passed : O → Type 0) (at : ℕ) (o o' : O) → (Past at → Passed o) →
      (SameToken text other at → (o ≡ o') ⊎ Passed o) → Step Passed at o o'
  step_by Passed at o o' p s = record { past = p; agree = ⊎_elim s (λ x. inr (p x)) (met_or_past at) }

  -- ── results ──
  abbrev pub PassedBy : {X : Type 0} → (X → ℕ) → Result X TextFault → Type 0
  PassedBy end (Ok x) = Past (end x)
  PassedBy end (Err f) = Final f → ⊥

  abbrev pub Reads : {X : Type 0} → (X → ℕ) → ℕ → Result X TextFault → Result X TextFault → Type 0
  Reads end at r r' = Step (PassedBy end) at r r'

  abbrev pub here : ℕ → ℕ
  here n = n

  ok_step : {X : Type 0} (end : X → ℕ) (x : X) → Reads end (end x) (Ok x) (Ok x)
  ok_step end x = record { past = λ o. o; agree = inl refl }

  then_past :
      {X Y : Type 0} (end : X → ℕ) (close : Y → ℕ) (r : Result X TextFault) (k k' : X → Result Y TextFault) →
      ((x : X) → Reads close (end x) (k x) (k' x)) → PassedBy end r → PassedBy close (then_ok r k)
  then_past end close (Ok x) k k' h p = (h x).past p
  then_past end close (Err f) k k' h p = p

  then_agree :
      {X Y : Type 0} (end : X → ℕ) (close : Y → ℕ) (r r' : Result X TextFault) (k k' : X → Result Y TextFault) →
      ((x : X) → Reads close (end x) (k x) (k' x)) → r ≡ r' → (then_ok r k ≡ then_ok r' k') ⊎ PassedBy close (then_ok r k)
  then_agree end close (Ok x) r' k k' h e =
      subst (λ z. (k x ≡ then_ok z k') ⊎ PassedBy close (k x)) e (h x).agree
  then_agree end close (Err f) r' k k' h e = inl (ap (λ z. then_ok z k') e)

  then_step :
      {X Y : Type 0} (end : X → ℕ) (close : Y → ℕ) (at : ℕ) (r r' : Result X TextFault) (k k' : X → Result Y TextFault) →
      Reads end at r r' → ((x : X) → Reads close (end x) (k x) (k' x)) → Reads close at (then_ok r k) (then_ok r' k')
  then_step end close at r r' k k' s h = record {
    past = λ o. then_past end close r k k' h (s.past o);
    agree = ⊎_elim (then_agree end close r r' k k' h) (λ p. inr (then_past end close r k k' h p)) s.agree;
  }

  -- ── bounds ──
  sign_step : (s : Symbol) (at : ℕ) → Reads here at (sign_in text s at) (sign_in other s at)
  unfolding sign_in
  sign_step s at =
      step_by (PassedBy here) at _ _
      (λ o. cond_both (is_symbol s (look_at text at).token) _ _ (PassedBy here) (λ _. past_next at o) (λ _ b. o.0 b.0))
      (λ l. inl (ap (sign_of s) (sym l.token)))

  bounded_past :
      (least at : ℕ) (n : Option ℕ) → Past at → PassedBy bound_end (bounded least (look_at text at) n)
  bounded_past least at None o = λ b. o.0 b.0
  bounded_past least at (Some n) o = cond_both (outside least n) _ _ (PassedBy bound_end) (λ _ b. o.0 b.0) (λ _. past_next at o)

  number_step : (least at : ℕ) → Reads bound_end at (number_in text least at) (number_in other least at)
  unfolding number_in
  number_step least at =
      step_by (PassedBy bound_end) at _ _ (bounded_past least at (number_of (look_at text at).token))
      (λ l. inl (ap (λ x. bounded least x (number_of x.token)) (sym l.token)))

  after_step : (at : ℕ) → Reads bound_end at (bound_after text at) (bound_after other at)
  after_step at =
      then_step bound_end bound_end at _ _ _ _ (number_step 1 at) (λ n.
      then_step here bound_end n.next _ _ _ _ (sign_step symbol.Right n.next) (λ end.
      ok_step bound_end (record { value = n.value; next = end })))

  bound_met :
      (at : ℕ) (x : Lexeme) (b : Bool) → is_symbol symbol.Left x.token ≡ b →
      (bound_from text at x ≡ bound_from other at x) ⊎ PassedBy bound_end (bound_from text at x)
  bound_met at x true e =
      let P : Result Bound TextFault → Result Bound TextFault → Type 0 = λ r r'. (r ≡ r') ⊎ PassedBy bound_end r in
      subst (λ r. P r (bound_from other at x)) (sym (cond-true _ _ _ e))
      (subst (P (bound_after text x.next)) (sym (cond-true _ _ _ e)) (after_step x.next).agree)
  bound_met at x false e = inl (cond-false _ _ _ e ∙ sym (cond-false _ _ _ e))

  bound_step : (at : ℕ) → Reads bound_end at (bound_in text at) (bound_in other at)
  unfolding bound_in
  bound_step at =
      let x = look_at text at in
      let r = bound_from text at x in
      step_by (PassedBy bound_end) at _ _
      (λ o. cond_both (is_symbol symbol.Left x.token) _ _ (PassedBy bound_end) (λ _. (after_step x.next).past (past_next at o)) (λ _. o))
      (λ l. subst (λ y. (r ≡ bound_from other at y) ⊎ PassedBy bound_end r) (sym l.token) (bound_met at x _ refl))

  range_step_lem : (at : ℕ) → Reads range_end at (range_in text at) (range_in other at)
  unfolding range_in
  range_step_lem at =
      then_step here range_end at _ _ _ _ (sign_step symbol.Left at) (λ begin.
      then_step bound_end range_end begin _ _ _ _ (number_step 0 begin) (λ low.
      then_step here range_end low.next _ _ _ _ (sign_step symbol.Comma low.next) (λ comma.
      then_step bound_end range_end comma _ _ _ _ (number_step low.value comma) (λ high.
      then_step here range_end high.next _ _ _ _ (sign_step symbol.Right high.next) (λ end.
      ok_step range_end (record { low = low.value; high = high.value; next = end }))))))

  next_past : (r : Result Bound TextFault) → PassedBy bound_end r → PassedBy prefix_end (next_prefix r)
  next_past (Ok b) p = p
  next_past (Err f) p = p

  range_past :
      (make : ℕ → ℕ → Prefix) (r : Result Range TextFault) → PassedBy range_end r → PassedBy prefix_end (range_prefix make r)
  range_past make (Ok b) p = p
  range_past make (Err f) p = p

  mapped :
      {X Y : Type 0} (end : X → ℕ) (close : Y → ℕ) (at : ℕ) (r r' : Result X TextFault) (g : Result X TextFault → Result Y TextFault) →
      (PassedBy end r → PassedBy close (g r)) → Reads end at r r' → Reads close at (g r) (g r')
  mapped end close at r r' g h s = record {
    past = λ o. h (s.past o);
    agree = ⊎_elim (λ e. inl (ap g e)) (λ p. inr (h p)) s.agree;
  }

  pub prefix_step : (u : Unary) (at : ℕ) → Reads prefix_end at (prefix_in text u at) (prefix_in other u at)
  prefix_step unary.Not at = ok_step prefix_end (record { prefix = prefix.Not; next = at })
  prefix_step (unary.Temporal operator.Next) at =
      mapped bound_end prefix_end at _ _ next_prefix (next_past (bound_in text at)) (bound_step at)
  prefix_step (unary.Temporal operator.Always) at =
      mapped range_end prefix_end at _ _ (range_prefix (λ n m. prefix.Always n m)) (range_past _ (range_in text at)) (range_step_lem at)
  prefix_step (unary.Temporal operator.Eventually) at =
      mapped range_end prefix_end at _ _ (range_prefix (λ n m. prefix.Eventually n m)) (range_past _ (range_in text at)) (range_step_lem at)

  -- ── formulas ──
  abbrev pub PassedOut : Out → Type 0
  PassedOut (good t s) = Past s.at
  PassedOut (stop f) = Final f → ⊥

  pub out_past :
      (o : Out) (k k' : Written → State → Out) → ((t : Written) (s : State) → o ≡ good t s → Step PassedOut s.at (k t s) (k' t s)) →
      PassedOut o → PassedOut (and_then o k)
  out_past (good t s) k k' h p = (h t s refl).past p
  out_past (stop f) k k' h p = p

  out_agree :
      (o o' : Out) (k k' : Written → State → Out) → ((t : Written) (s : State) → o ≡ good t s → Step PassedOut s.at (k t s) (k' t s)) →
      o ≡ o' → (and_then o k ≡ and_then o' k') ⊎ PassedOut (and_then o k)
  out_agree (good t s) o' k k' h e = subst (λ z. (k t s ≡ and_then z k') ⊎ PassedOut (k t s)) e (h t s refl).agree
  out_agree (stop f) o' k k' h e = inl (ap (λ z. and_then z k') e)

  pub out_step :
      (at : ℕ) (o o' : Out) (k k' : Written → State → Out) → Step PassedOut at o o' →
      ((t : Written) (s : State) → o ≡ good t s → Step PassedOut s.at (k t s) (k' t s)) →
      Step PassedOut at (and_then o k) (and_then o' k')
  out_step at o o' k k' s h = record {
    past = λ p. out_past o k k' h (s.past p);
    agree = ⊎_elim (out_agree o o' k k' h) (λ p. inr (out_past o k k' h p)) s.agree;
  }

  pub good_step : (t : Written) (s : State) → Step PassedOut s.at (good t s) (good t s)
  good_step t s = record { past = λ o. o; agree = inl refl }

  -- limits are refused for other reasons
  pub nesting_not_final : (p : ℕ) → Final (record { reason = reason.Nesting; place = p }) → ⊥
  nesting_not_final p b =
      ⊎_elim
      (λ e. cc)
      (λ e. cc)
      b.1

  pub variables_not_final : (p : ℕ) → Final (record { reason = reason.Variables; place = p }) → ⊥
  variables_not_final p b =
      ⊎_elim
      (λ e. cc)
      (λ e. cc)
      b.1

  -- ── single tokens and blank lines ──
  pub token_step :
      (at : ℕ) (b : Bool) (b' : Lexeme → Bool) → (SameToken text other at → b ≡ b' (look_at text at)) →
      Reads here at (expected b (look_at text at)) (expected (b' (look_at other at)) (look_at other at))
  token_step at b b' h =
      let x = look_at text at in
      step_by (PassedBy here) at _ _
      (λ o. cond_both b _ _ (PassedBy here) (λ _. past_next at o) (λ _ f. o.0 f.0))
      (λ l. inl (ap (λ c. expected c x) (h l) ∙ ap (λ y. expected (b' y) y) (sym l.token)))

  abbrev line_by : List ℕ → ℕ → ℕ → Bool → ℕ
  line_by words n at b = elim b [ true ↦ past_lines words n (look_at words at).next | false ↦ at ]

  line_past : (n at : ℕ) (b : Bool) → Past at → (Past (look_at text at).next → Past (past_lines text n (look_at text at).next)) → Past (line_by text n at b)
  line_past n at true o next = next (past_next at o)
  line_past n at false o next = o

  lines_past : (n at : ℕ) → Past at → Past (past_lines text n at)
  unfolding past_lines
  lines_past zero at o = o
  lines_past (suc n) at o = line_past n at (is_line (look_at text at).token) o (lines_past n (look_at text at).next)

  lines_none : (words : List ℕ) (n at : ℕ) → is_line (look_at words at).token ≡ false → past_lines words n at ≡ at
  unfolding past_lines
  lines_none words zero at e = refl
  lines_none words (suc n) at e = ap (line_by words n at) e

  lines_one : (words : List ℕ) (n at : ℕ) → is_line (look_at words at).token ≡ true → past_lines words (suc n) at ≡ past_lines words n (look_at words at).next
  unfolding past_lines
  lines_one words n at e = ap (line_by words n at) e

  no_line_there : (words : List ℕ) (at : ℕ) → length words ≤ at → is_line (look_at words at).token ≡ false
  no_line_there words at le = ⊎_elim (λ e. absurd (no_line_past words at le e)) (λ e. e) (cases_Bool (is_line (look_at words at).token))

  -- the token there is a line end in both texts or in none
  line_same : (at : ℕ) → SameToken text other at → is_line (look_at other at).token ≡ is_line (look_at text at).token
  line_same at l = ap (λ x. is_line x.token) l.token

  lines_turn :
      (n n' at : ℕ) (b : Bool) → is_line (look_at text at).token ≡ b → SameToken text other at →
      (is_line (look_at text at).token ≡ true →
      (past_lines text n (look_at text at).next ≡ past_lines other n' (look_at text at).next) ⊎ Past (past_lines text n (look_at text at).next)) →
      (past_lines text (suc n) at ≡ past_lines other (suc n') at) ⊎ Past (past_lines text (suc n) at)
  lines_turn n n' at true e l next =
      let one = lines_one text n at e in
      let two = lines_one other n' at (line_same at l ∙ e) ∙ ap (λ x. past_lines other n' x.next) l.token in
      ⊎_elim (λ q. inl (one ∙ q ∙ sym two)) (λ p. inr (subst Past (sym one) p)) (next e)
  lines_turn n n' at false e l next = inl (lines_none text (suc n) at e ∙ sym (lines_none other (suc n') at (line_same at l ∙ e)))

  lines_agree :
      (n n' at : ℕ) → length text ≤ n + at → length other ≤ n' + at →
      (past_lines text n at ≡ past_lines other n' at) ⊎ Past (past_lines text n at)
  unfolding past_lines
  lines_agree zero n' at h h' =
      ⊎_elim (λ l. inl (sym (lines_none other n' at (line_same at l ∙ no_line_there text at (omega arith))))) (λ o. inr o) (met_or_past at)
  lines_agree (suc n) zero at h h' =
      ⊎_elim (λ l. inl (lines_none text (suc n) at (sym (line_same at l) ∙ no_line_there other at (omega arith))))
      (λ o. inr (lines_past (suc n) at o)) (met_or_past at)
  lines_agree (suc n) (suc n') at h h' =
      ⊎_elim
      (λ l.
      lines_turn n n' at (is_line (look_at text at).token) refl l (λ q.
      lines_agree n n' (look_at text at).next (omega (arith, line_forward text at q)) (omega (arith, line_forward text at q))))
      (λ o. inr (lines_past (suc n) at o)) (met_or_past at)

  pub blanks_step : (at : ℕ) → Step Past at (blanks text at) (blanks other at)
  unfolding blanks
  blanks_step at =
      record { past = lines_past (length text) at; agree = lines_agree (length text) (length other) at (omega arith) (omega arith) }

  -- what is read behind blank lines
  behind_agree :
      {O : Type 0} (Passed : O → Type 0) (f f' : ℕ → O) (a b : ℕ) → ((p : ℕ) → Step Passed p (f p) (f' p)) →
      (a ≡ b) ⊎ Past a → (f a ≡ f' b) ⊎ Passed (f a)
  behind_agree Passed f f' a b h (inl e) = subst (λ p. (f a ≡ f' p) ⊎ Passed (f a)) e (h a).agree
  behind_agree Passed f f' a b h (inr p) = inr ((h a).past p)

  pub behind_step :
      {O : Type 0} (Passed : O → Type 0) (f f' : ℕ → O) (at : ℕ) → ((p : ℕ) → Step Passed p (f p) (f' p)) →
      Step Passed at (f (blanks text at)) (f' (blanks other at))
  behind_step Passed f f' at h = record {
    past = λ o. (h (blanks text at)).past ((blanks_step at).past o);
    agree = behind_agree Passed f f' (blanks text at) (blanks other at) h (blanks_step at).agree;
  }

  -- ── levels ──
  pub passed_then :
      (o : Out) (k : Written → State → Out) → PassedOut o → ((t : Written) (s : State) → Past s.at → PassedOut (k t s)) →
      PassedOut (and_then o k)
  passed_then (good t s) k p h = h t s p
  passed_then (stop f) k p h = p

  abbrev Agrees : Out → Out → Type 0
  Agrees o o' = (o ≡ o') ⊎ PassedOut o

  via : (o o' a a' : Out) → o ≡ a → o' ≡ a' → Agrees a a' → Agrees o o'
  via o o' a a' p q h = ⊎_elim (λ e. inl (p ∙ e ∙ sym q)) (λ x. inr (subst PassedOut (sym p) x)) h

  symbol_same : (r : Symbol) (at : ℕ) → SameToken text other at → is_symbol r (look_at other at).token ≡ is_symbol r (look_at text at).token
  symbol_same r at l = ap (λ x. is_symbol r x.token) l.token

  no_symbol_there : (words : List ℕ) (r : Symbol) (at : ℕ) → length words ≤ at → is_symbol r (look_at words at).token ≡ false
  no_symbol_there words r at le =
      ⊎_elim (λ e. absurd (no_symbol_past words at r le e)) (λ e. e) (cases_Bool (is_symbol r (look_at words at).token))

  -- two readers of formulas, side by side; a word that a formula begins with is never refused as a token
  pub record Alike (P P' : Parser) : Type 0 where
    pub forward : (s s' : State) (t : Written) → P s ≡ good t s' → s.at ≤ s'.at
    pub steps : (s : State) → Step PassedOut s.at (P s) (P' s)
    pub word : (s : State) → is_word (look_at text s.at).token ≡ true → Past (look_at text s.at).next → PassedOut (P s)

  module _ (c : Connective) (P P' : Parser) (A : Alike P P') where
    turn_past :
        (n : ℕ) (t : Written) (s : State) (b : Bool) → Past s.at →
        ((u : Written) (s' : State) → Past s'.at → PassedOut (more text c P n (join c t u) s')) → PassedOut (turn_by text c P n t s b)
    turn_past n t s true o next =
        let q = moved s (look_at text s.at).next in
        passed_then (P q) (λ u s'. more text c P n (join c t u) s') ((A.steps q).past (past_next s.at o)) next
    turn_past n t s false o next = o

    more_past : (n : ℕ) (t : Written) (s : State) → Past s.at → PassedOut (more text c P n t s)
    unfolding more
    more_past zero t s o = o
    more_past (suc n) t s o =
        turn_past n t s (is_symbol (symbol_of c) (look_at text s.at).token) o (λ u s' o'. more_past n (join c t u) s' o')

    turn_agree :
        (n n' : ℕ) (t : Written) (s : State) (b : Bool) → is_symbol (symbol_of c) (look_at text s.at).token ≡ b →
        SameToken text other s.at →
        (is_symbol (symbol_of c) (look_at text s.at).token ≡ true → (u : Written) (s' : State) → (look_at text s.at).next ≤ s'.at →
        Agrees (more text c P n (join c t u) s') (more other c P' n' (join c t u) s')) →
        Agrees (more text c P (suc n) t s) (more other c P' (suc n') t s)
    turn_agree n n' t s true e l next =
        let q = moved s (look_at text s.at).next in
        let k = λ (u : Written) (s' : State). more text c P n (join c t u) s' in
        let k' = λ (u : Written) (s' : State). more other c P' n' (join c t u) s' in
        via _ _ (and_then (P q) k) (and_then (P' q) k')
        (more_is text c P n t s true e)
        (more_is other c P' n' t s true (symbol_same (symbol_of c) s.at l ∙ e) ∙ ap (λ x. and_then (P' (moved s x.next)) k') l.token)
        (out_step q.at (P q) (P' q) k k' (A.steps q)
        (λ u s' g. record { past = more_past n (join c t u) s'; agree = next e u s' (A.forward q s' u g) })).agree
    turn_agree n n' t s false e l next =
        inl (more_ends text c P (suc n) t s e ∙ sym (more_ends other c P' (suc n') t s (symbol_same (symbol_of c) s.at l ∙ e)))

    more_agree :
        (n n' : ℕ) (t : Written) (s : State) → length text ≤ n + s.at → length other ≤ n' + s.at →
        Agrees (more text c P n t s) (more other c P' n' t s)
    unfolding more
    more_agree zero n' t s h h' =
        ⊎_elim
        (λ l.
        let none = symbol_same (symbol_of c) s.at l ∙ no_symbol_there text (symbol_of c) s.at (omega arith) in
        inl (sym (more_ends other c P' n' t s none)))
        (λ o. inr o) (met_or_past s.at)
    more_agree (suc n) zero t s h h' =
        ⊎_elim
        (λ l.
        let none = sym (symbol_same (symbol_of c) s.at l) ∙ no_symbol_there other (symbol_of c) s.at (omega arith) in
        inl (more_ends text c P (suc n) t s none))
        (λ o. inr (more_past (suc n) t s o)) (met_or_past s.at)
    more_agree (suc n) (suc n') t s h h' =
        ⊎_elim
        (λ l.
        turn_agree n n' t s (is_symbol (symbol_of c) (look_at text s.at).token) refl l (λ q u s' le.
        more_agree n n' (join c t u) s'
        (omega (arith, symbol_forward text s.at (symbol_of c) q)) (omega (arith, symbol_forward text s.at (symbol_of c) q))))
        (λ o. inr (more_past (suc n) t s o)) (met_or_past s.at)

    more_step : (t : Written) (s : State) → Step PassedOut s.at (more text c P (length text) t s) (more other c P' (length other) t s)
    more_step t s =
        record { past = more_past (length text) t s; agree = more_agree (length text) (length other) t s (omega arith) (omega arith) }

    chain_alike :
        ((s s' : State) (t : Written) → chain_by text c P s ≡ good t s' → s.at ≤ s'.at) → Alike (chain_by text c P) (chain_by other c P')
    unfolding chain_by
    chain_alike onward = record {
      forward = onward;
      steps = λ s. out_step s.at (P s) (P' s) (more text c P (length text)) (more other c P' (length other)) (A.steps s) (λ t s' _. more_step t s');
      word = λ s w o. passed_then (P s) (more text c P (length text)) (A.word s w o) (λ t s' o'. more_past (length text) t s' o');
    }

  -- what is read inside
  abbrev Inner : ℕ → Type 0
  Inner zero = Unit {0}
  Inner (suc n) =
      Alike (level_at text n unary_level) (level_at other n unary_level)
      × Alike (level_at text n (up_to connective.Implies)) (level_at other n (up_to connective.Implies))
      × Alike (level_at text n (up_to connective.Equivalent)) (level_at other n (up_to connective.Equivalent))

  implication_step :
      (n : ℕ) → Inner n → (p : ℕ) (s : State) →
      Step PassedOut s.at (implication_in (inside text n) p s) (implication_in (inside other n) p s)
  unfolding inside
  implication_step zero i p s = record { past = λ _. nesting_not_final p; agree = inl refl }
  implication_step (suc n) i p s = i.1.steps s

  whole_step : (n : ℕ) → Inner n → (p : ℕ) (s : State) → Step PassedOut s.at (whole_in (inside text n) p s) (whole_in (inside other n) p s)
  unfolding inside
  whole_step zero i p s = record { past = λ _. nesting_not_final p; agree = inl refl }
  whole_step (suc n) i p s = i.2.steps s

  module _ (c : Connective) (n : ℕ) (i : Inner n) where
    arrowed_past : (t : Written) (s : State) (b : Bool) → Past s.at → PassedOut (arrowed_by c (inside text n) t s (look_at text s.at) b)
    arrowed_past t s true o =
        let x = look_at text s.at in
        passed_then (implication_in (inside text n) x.from (moved s x.next)) (λ u s'. good (join c t u) s')
        ((implication_step n i x.from (moved s x.next)).past (past_next s.at o)) (λ u s' o'. o')
    arrowed_past t s false o = o

    arrowed_agree :
        (t : Written) (s : State) (b : Bool) → is_symbol (symbol_of c) (look_at text s.at).token ≡ b →
        Agrees (arrowed c (inside text n) t s (look_at text s.at)) (arrowed c (inside other n) t s (look_at text s.at))
    arrowed_agree t s true e =
        let x = look_at text s.at in
        let q = moved s x.next in
        let k = λ (u : Written) (s' : State). good (join c t u) s' in
        via _ _ (and_then (implication_in (inside text n) x.from q) k) (and_then (implication_in (inside other n) x.from q) k)
        (arrowed_is c (inside text n) t s x true e) (arrowed_is c (inside other n) t s x true e)
        (out_step q.at _ _ k k (implication_step n i x.from q) (λ u s' _. good_step (join c t u) s')).agree
    arrowed_agree t s false e =
        let x = look_at text s.at in
        inl (arrowed_is c (inside text n) t s x false e ∙ sym (arrowed_is c (inside other n) t s x false e))

    arrowed_step :
        (t : Written) (s : State) →
        Step PassedOut s.at (arrowed c (inside text n) t s (look_at text s.at)) (arrowed c (inside other n) t s (look_at other s.at))
    arrowed_step t s =
        let x = look_at text s.at in
        step_by PassedOut s.at _ _ (arrowed_past t s (is_symbol (symbol_of c) x.token))
        (λ l.
        subst (λ y. Agrees (arrowed c (inside text n) t s x) (arrowed c (inside other n) t s y)) (sym l.token) (arrowed_agree t s _ refl))

    arrow_alike :
        (P P' : Parser) → Alike P P' →
        ((s s' : State) (t : Written) → arrow_by text c (inside text n) P s ≡ good t s' → s.at ≤ s'.at) →
        Alike (arrow_by text c (inside text n) P) (arrow_by other c (inside other n) P')
    unfolding arrow_by
    arrow_alike P P' A onward = record {
      forward = onward;
      steps = λ s. out_step s.at (P s) (P' s) _ _ (A.steps s) (λ t s' _. arrowed_step t s');
      word = λ s w o. passed_then (P s) _ (A.word s w o) (λ t s' o'. (arrowed_step t s').past o');
    }

  prefixed_past : (P P' : Parser) → Alike P P' → (s : State) (r : Result Prefixed TextFault) → PassedBy prefix_end r → PassedOut (prefixed r P s)
  prefixed_past P P' A s (Ok p) o =
      passed_then (P (moved s p.next)) (λ t s'. good (apply p.prefix t) s') ((A.steps (moved s p.next)).past o) (λ t s' o'. o')
  prefixed_past P P' A s (Err f) o = o

  prefixed_agree :
      (P P' : Parser) → Alike P P' → (s : State) (r r' : Result Prefixed TextFault) → r ≡ r' → Agrees (prefixed r P s) (prefixed r' P' s)
  prefixed_agree P P' A s (Ok p) r' e =
      let q = moved s p.next in
      let k = λ (t : Written) (s' : State). good (apply p.prefix t) s' in
      subst (λ z. Agrees (and_then (P q) k) (prefixed z P' s)) e
      (out_step q.at (P q) (P' q) k k (A.steps q) (λ t s' _. good_step (apply p.prefix t) s')).agree
  prefixed_agree P P' A s (Err f) r' e = inl (ap (λ z. prefixed z P' s) e)

  behind_unary :
      (n : ℕ) → Inner n → (u : Unary) (x : Lexeme) (s : State) →
      Step PassedOut x.next (behind text (inside text n) u x s) (behind other (inside other n) u x s)
  unfolding inside
  behind_unary zero i u x s = record { past = λ _. nesting_not_final x.from; agree = inl refl }
  behind_unary (suc n) i u x s =
      let P = level_at text n unary_level in
      let P' = level_at other n unary_level in
      let r = prefix_step u x.next in
      record {
        past = λ o. prefixed_past P P' i.0 s _ (r.past o);
        agree = ⊎_elim (prefixed_agree P P' i.0 s _ _) (λ p. inr (prefixed_past P P' i.0 s _ p)) r.agree;
      }

  closed_past : (t : Written) (s : State) (b : Bool) → Past s.at → PassedOut (closed_by t s (look_at text s.at) b)
  closed_past t s true o = past_next s.at o
  closed_past t s false o = λ b. o.0 b.0

  closed_step :
      (t : Written) (s : State) → Step PassedOut s.at (closed t s (look_at text s.at)) (closed t s (look_at other s.at))
  closed_step t s =
      step_by PassedOut s.at _ _ (closed_past t s (is_symbol symbol.Close (look_at text s.at).token))
      (λ l. inl (ap (closed t s) (sym l.token)))

  group_step :
      (n : ℕ) → Inner n → (x : Lexeme) (s : State) →
      Step PassedOut x.next (begun text (inside text n) x s (Some head.Group)) (begun other (inside other n) x s (Some head.Group))
  group_step n i x s =
      out_step x.next _ _ _ _ (whole_step n i x.from (moved s x.next)) (λ t s' _. closed_step t s')

  begun_past :
      (n : ℕ) → Inner n → (s : State) (h : Option Head) → Past s.at → PassedOut (begun text (inside text n) (look_at text s.at) s h)
  begun_past n i s None o = λ b. o.0 b.0
  begun_past n i s (Some (head.Constant v)) o = past_next s.at o
  begun_past n i s (Some head.Variable) o =
      cond_both (ltb (rank (word_name text (look_at text s.at)) s.names) 16) _ _ PassedOut (λ _. past_next s.at o) (λ _ b. o.0 b.0)
  begun_past n i s (Some (head.Prefix u)) o = (behind_unary n i u (look_at text s.at) s).past (past_next s.at o)
  begun_past n i s (Some head.Group) o = (group_step n i (look_at text s.at) s).past (past_next s.at o)

  begun_agree :
      (n : ℕ) → Inner n → (s : State) (h : Option Head) → SameToken text other s.at →
      Agrees (begun text (inside text n) (look_at text s.at) s h) (begun other (inside other n) (look_at text s.at) s h)
  begun_agree n i s None l = inl refl
  begun_agree n i s (Some (head.Constant v)) l = inl refl
  begun_agree n i s (Some head.Variable) l = inl (ap (λ w. named (name_of w) (look_at text s.at) s) (sym l.bytes))
  begun_agree n i s (Some (head.Prefix u)) l = (behind_unary n i u (look_at text s.at) s).agree
  begun_agree n i s (Some head.Group) l = (group_step n i (look_at text s.at) s).agree

  level_forward : (n : ℕ) (l : Level) (s s' : State) (t : Written) → level_at text n l s ≡ good t s' → s.at ≤ s'.at
  level_forward n l s s' t g = forward text (sound_at text n l s s' t g)

  unary_alike : (n : ℕ) → Inner n → Alike (level_at text n unary_level) (level_at other n unary_level)
  unfolding unary_by
  unary_alike n i = record {
    forward = level_forward n unary_level;
    steps = λ s.
        let x = look_at text s.at in
        let d = inside text n in
        let d' = inside other n in
        step_by PassedOut s.at _ _ (begun_past n i s (head_of x.token))
        (λ l. subst (λ y. Agrees (begun text d x s (head_of x.token)) (begun other d' y s (head_of y.token))) (sym l.token) (begun_agree n i s _ l));
    word = λ s w o.
        let x = look_at text s.at in
        subst (λ h. PassedOut (begun text (inside text n) x s h)) (sym (word_begins x.token w))
        (cond_both (ltb (rank (word_name text x) s.names) 16) _ _ PassedOut (λ _. o) (λ _. variables_not_final x.from));
  }

  or_alike : (n : ℕ) → Inner n → Alike (level_at text n (up_to connective.Or)) (level_at other n (up_to connective.Or))
  unfolding operand_by
  or_alike n i =
      chain_alike connective.Or _ _
      (chain_alike connective.And _ _ (unary_alike n i) (level_forward n (up_to connective.And))) (level_forward n (up_to connective.Or))

  implies_alike : (n : ℕ) → Inner n → Alike (level_at text n (up_to connective.Implies)) (level_at other n (up_to connective.Implies))
  unfolding operand_by
  implies_alike n i = arrow_alike connective.Implies n i _ _ (or_alike n i) (level_forward n (up_to connective.Implies))

  equivalent_alike : (n : ℕ) → Inner n → Alike (level_at text n (up_to connective.Equivalent)) (level_at other n (up_to connective.Equivalent))
  unfolding operand_by
  equivalent_alike n i = arrow_alike connective.Equivalent n i _ _ (implies_alike n i) (level_forward n (up_to connective.Equivalent))

  inner : (n : ℕ) → Inner n
  inner zero = tt
  inner (suc n) = let i = inner n in (unary_alike n i, implies_alike n i, equivalent_alike n i)

  -- any formula
  pub whole_alike : (n : ℕ) → Alike (level_at text n (up_to connective.Equivalent)) (level_at other n (up_to connective.Equivalent))
  whole_alike n = equivalent_alike n (inner n)

  -- ── sections ──
  word_step : (w : List ℕ) (at : ℕ) → Reads here at (word_in text w at) (word_in other w at)
  unfolding word_in
  word_step w at =
      token_step at (is_this text w (look_at text at)) (is_this other w)
      (λ l. ap (λ bytes. is_word (look_at text at).token && bytes_eq bytes w) (sym l.bytes))

  line_step : (at : ℕ) → Reads here at (line_in text at) (line_in other at)
  unfolding line_in
  line_step at = token_step at (is_line (look_at text at).token) (λ x. is_line x.token) (λ _. refl)

  true_step : (at : ℕ) → Reads here at (true_in text at) (true_in other at)
  unfolding true_in
  true_step at = token_step at (is_true (look_at text at).token) (λ x. is_true x.token) (λ _. refl)

  last_step : (at : ℕ) → Reads here at (last_in text at) (last_in other at)
  unfolding last_in
  last_step at =
      token_step at (is_line (look_at text at).token || is_end (look_at text at).token) (λ x. is_line x.token || is_end x.token) (λ _. refl)

  end_step : (at : ℕ) → Reads here at (end_in text at) (end_in other at)
  unfolding end_in
  end_step at = token_step at (is_end (look_at text at).token) (λ x. is_end x.token) (λ _. refl)

  header_step : (v w : List ℕ) (at : ℕ) → Reads here at (header_in text v w at) (header_in other v w at)
  header_step v w at =
      behind_step (PassedBy here) (λ p. then_ok (word_in text v p) (λ a. then_ok (word_in text w a) (λ b. line_in text b)))
      (λ p. then_ok (word_in other v p) (λ a. then_ok (word_in other w a) (λ b. line_in other b))) at (λ p.
      then_step here here p _ _ _ _ (word_step v p) (λ a. then_step here here a _ _ _ _ (word_step w a) line_step))

  -- the third section behind its first word
  abbrev third_from : List ℕ → ℕ → Result ℕ TextFault
  third_from words a =
      then_ok (word_in words (codes "Global") a) (λ b.
      then_ok (word_in words (codes "Constraints") b) (λ c.
      then_ok (line_in words c) (λ d.
      then_ok (true_in words (blanks words d)) (λ e.
      then_ok (last_in words e) (λ f. end_in words (blanks words f))))))

  abbrev true_from : List ℕ → ℕ → Result ℕ TextFault
  true_from words p = then_ok (true_in words p) (λ e. then_ok (last_in words e) (λ f. end_in words (blanks words f)))

  true_from_lem : (at : ℕ) → Reads here at (true_from text at) (true_from other at)
  true_from_lem at =
      then_step here here at _ _ _ _ (true_step at) (λ e.
      then_step here here e _ _ _ _ (last_step e) (λ f. behind_step (PassedBy here) (end_in text) (end_in other) f end_step))

  third_from_lem : (a : ℕ) → Reads here a (third_from text a) (third_from other a)
  third_from_lem a =
      then_step here here a _ _ _ _ (word_step (codes "Global") a) (λ b.
      then_step here here b _ _ _ _ (word_step (codes "Constraints") b) (λ c.
      then_step here here c _ _ _ _ (line_step c) (λ d. behind_step (PassedBy here) (true_from text) (true_from other) d true_from_lem)))

  third_step : (at : ℕ) → Reads here at (third_in text at) (third_in other at)
  third_step at = then_step here here at _ _ (third_from text) (third_from other) (word_step (codes "Environment") at) third_from_lem

  -- a third section that begins here, with the place behind its first word
  third_begun :
      (at : ℕ) → is_this text (codes "Environment") (look_at text at) ≡ true → Past (look_at text at).next → PassedBy here (third_in text at)
  unfolding word_in
  third_begun at is o =
      subst (λ r. PassedBy here (then_ok r (third_from text))) (sym (cond-true _ _ _ is)) ((third_from_lem (look_at text at).next).past o)

  ended_past : (t : Written) (s : State) (r : Result ℕ TextFault) → PassedBy here r → PassedOut (ended t s r)
  ended_past t s (Ok n) p = p
  ended_past t s (Err f) p = p

  ended_step : (t : Written) (s : State) → Step PassedOut s.at (ended t s (line_in text s.at)) (ended t s (line_in other s.at))
  ended_step t s =
      let l = line_step s.at in
      record {
        past = λ o. ended_past t s (line_in text s.at) (l.past o);
        agree = ⊎_elim (λ e. inl (ap (ended t s) e)) (λ p. inr (ended_past t s (line_in text s.at) p)) l.agree;
      }

  -- a formula and its line end
  abbrev formula_from : List ℕ → State → ℕ → Out
  formula_from words s p = and_then (level_at words 32 (up_to connective.Equivalent) (moved s p)) (λ t s'. ended t s' (line_in words s'.at))

  formula_from_lem : (s : State) (p : ℕ) → Step PassedOut p (formula_from text s p) (formula_from other s p)
  formula_from_lem s p = out_step p _ _ _ _ ((whole_alike 32).steps (moved s p)) (λ t s' _. ended_step t s')

  formula_step : (s : State) → Step PassedOut s.at (formula_in text s) (formula_in other s)
  unfolding formula_in
  formula_step s = behind_step PassedOut (formula_from text s) (formula_from other s) s.at (formula_from_lem s)

  formula_past : (s : State) → Past (blanks text s.at) → PassedOut (formula_in text s)
  unfolding formula_in
  formula_past s o = (formula_from_lem s (blanks text s.at)).past o

  formula_word :
      (s : State) → is_word (look_at text (blanks text s.at)).token ≡ true → Past (look_at text (blanks text s.at)).next →
      PassedOut (formula_in text s)
  unfolding formula_in
  formula_word s w o =
      let q = moved s (blanks text s.at) in
      passed_then (level_at text 32 (up_to connective.Equivalent) q) (λ t s'. ended t s' (line_in text s'.at))
      ((whole_alike 32).word q w o) (λ t s' o'. (ended_step t s').past o')

  -- behind safety lines the third section is read
  abbrev PassedLines : Out → Type 0
  PassedLines (good t s) = PassedBy here (third_in text (blanks text s.at))
  PassedLines (stop f) = Final f → ⊥

  lines_then :
      (o : Out) (k : Written → State → Out) → PassedOut o → ((t : Written) (s : State) → Past s.at → PassedLines (k t s)) →
      PassedLines (and_then o k)
  lines_then (good t s) k p h = h t s p
  lines_then (stop f) k p h = p

  both_lines :
      (o o' : Out) (k k' : Written → State → Out) → o ≡ o' →
      ((t : Written) (s : State) → o ≡ good t s → o' ≡ good t s → (k t s ≡ k' t s) ⊎ PassedLines (k t s)) →
      (and_then o k ≡ and_then o' k') ⊎ PassedLines (and_then o k)
  both_lines (good t s) o' k k' e h = subst (λ z. (k t s ≡ and_then z k') ⊎ PassedLines (k t s)) e (h t s refl (sym e))
  both_lines (stop f) o' k k' e h = inl (ap (λ z. and_then z k') e)

  turn_over :
      (n : ℕ) (t : Written) (s : State) (b : Bool) → PassedBy here (third_in text (blanks text s.at)) → PassedOut (formula_in text s) →
      ((u : Written) (s' : State) → Past s'.at → PassedLines (lines_in text n (conjunction t u) s')) → PassedLines (lines_by text n t s b)
  turn_over n t s true third formula next = third
  turn_over n t s false third formula next = lines_then (formula_in text s) (λ u s'. lines_in text n (conjunction t u) s') formula next

  safety_past : (n : ℕ) (t : Written) (s : State) → Past (blanks text s.at) → PassedLines (lines_in text n t s)
  unfolding lines_in
  safety_past zero t s o = (third_step (blanks text s.at)).past o
  safety_past (suc n) t s o =
      turn_over n t s (third_begins text (blanks text s.at)) ((third_step (blanks text s.at)).past o) (formula_past s o)
      (λ u s' o'. safety_past n (conjunction t u) s' ((blanks_step s'.at).past o'))

  -- the place stands behind a first word `Environment`
  safety_word :
      (n : ℕ) (t : Written) (s : State) → is_this text (codes "Environment") (look_at text (blanks text s.at)) ≡ true →
      Past (look_at text (blanks text s.at)).next → PassedLines (lines_in text (suc n) t s)
  unfolding lines_in
  safety_word n t s is o =
      let b = blanks text s.at in
      turn_over n t s (third_begins text b) (third_begun b is o) (formula_word s (and_parts _ _ is).0 o)
      (λ u s' o'. safety_past n (conjunction t u) s' ((blanks_step s'.at).past o'))

  abbrev SameLines : Out → Out → Type 0
  SameLines o o' = (o ≡ o') ⊎ PassedLines o

  -- both texts go on, or end, their safety lines here
  safety_turn :
      (n n' : ℕ) (t : Written) (s : State) (b : Bool) → third_begins text (blanks text s.at) ≡ b →
      third_begins other (blanks other s.at) ≡ b →
      ((u : Written) (s' : State) → formula_in text s ≡ good u s' → formula_in other s ≡ good u s' →
      SameLines (lines_in text n (conjunction t u) s') (lines_in other n' (conjunction t u) s')) →
      SameLines (lines_in text (suc n) t s) (lines_in other (suc n') t s)
  safety_turn n n' t s true e e' next = inl (lines_are text n t s true e ∙ sym (lines_are other n' t s true e'))
  safety_turn n n' t s false e e' next =
      let k = λ (u : Written) (s' : State). lines_in text n (conjunction t u) s' in
      let k' = λ (u : Written) (s' : State). lines_in other n' (conjunction t u) s' in
      let one = lines_are text n t s false e in
      let two = lines_are other n' t s false e' in
      ⊎_elim (λ q. inl (one ∙ q ∙ sym two)) (λ p. inr (subst PassedLines (sym one) p))
      (⊎_elim
      (λ q. both_lines (formula_in text s) (formula_in other s) k k' q next)
      (λ p.
      inr (lines_then (formula_in text s) k p (λ u s' o'. safety_past n (conjunction t u) s' ((blanks_step s'.at).past o'))))
      (formula_step s).agree)

  this_same :
      (w : List ℕ) (at : ℕ) → SameToken text other at → is_this other w (look_at other at) ≡ is_this text w (look_at text at)
  this_same w at l =
      ap (is_this other w) l.token ∙ ap (λ bytes. is_word (look_at text at).token && bytes_eq bytes w) l.bytes

  third_same_first :
      (at : ℕ) → SameToken text other at → is_this text (codes "Environment") (look_at text at) ≡ false →
      (third_begins text at ≡ false) × (third_begins other at ≡ false)
  unfolding third_begins
  third_same_first at l e = (and_left _ _ e, and_left _ _ (this_same (codes "Environment") at l ∙ e))

  third_same :
      (at : ℕ) → SameToken text other at → SameToken text other (look_at text at).next → third_begins other at ≡ third_begins text at
  unfolding third_begins
  third_same at l m =
      let p = this_same (codes "Environment") at l in
      let q = ap (λ x. is_this other (codes "Global") (look_at other x.next)) l.token ∙ this_same (codes "Global") (look_at text at).next m in
      λ i. p i && q i

  safety_agree :
      (n n' : ℕ) (t : Written) (s : State) → s.at ≤ length text → s.at ≤ length other → length text < n + s.at →
      length other < n' + s.at → SameLines (lines_in text n t s) (lines_in other n' t s)
  safety_agree zero n' t s p q h h' = absurd (omega arith)
  safety_agree (suc n) zero t s p q h h' = absurd (omega arith)
  safety_agree (suc n) (suc n') t s p q h h' =
      let b = blanks text s.at in
      let next = λ (u : Written) (s' : State) (g : formula_in text s ≡ good u s') (g' : formula_in other s ≡ good u s').
      let line = formula_sound text s s' u g in
      let ahead = line_ahead text s s' u line in
      safety_agree n n' (conjunction t u) s' (line_within text s s' u line) (line_within other s s' u (formula_sound other s s' u g'))
      (omega (arith, ahead)) (omega (arith, ahead)) in
      ⊎_elim
      (λ e.
      let there : (x : Bool) → third_begins other b ≡ x → third_begins other (blanks other s.at) ≡ x =
      λ x k. ap (third_begins other) (sym e) ∙ k in
      ⊎_elim
      (λ l.
      ⊎_elim
      (λ is.
      ⊎_elim
      (λ m. safety_turn n n' t s (third_begins text b) refl (there _ (third_same b l m)) next)
      (λ o. inr (safety_word n t s is o))
      (met_or_past (look_at text b).next))
      (λ is_not.
      let none = third_same_first b l is_not in
      safety_turn n n' t s false none.0 (there false none.1) next)
      (cases_Bool (is_this text (codes "Environment") (look_at text b))))
      (λ o. inr (safety_past (suc n) t s o))
      (met_or_past b))
      (λ o. inr (safety_past (suc n) t s o))
      (blanks_step s.at).agree

  safety_past_all : (s : State) → Past s.at → PassedLines (safety_in text s)
  unfolding safety_in
  safety_past_all s o =
      lines_then (formula_in text s) (lines_in text (length text)) ((formula_step s).past o)
      (λ t s' o'. safety_past (length text) t s' ((blanks_step s'.at).past o'))

  safety_step : (s : State) → Step PassedLines s.at (safety_in text s) (safety_in other s)
  unfolding safety_in
  safety_step s = record {
    past = safety_past_all s;
    agree =
        ⊎_elim
        (λ e.
        both_lines (formula_in text s) (formula_in other s) (lines_in text (length text)) (lines_in other (length other)) e (λ t s' g g'.
        let line = formula_sound text s s' t g in
        let ahead = line_ahead text s s' t line in
        safety_agree (length text) (length other) t s' (line_within text s s' t line) (line_within other s s' t (formula_sound other s s' t g'))
        (omega (arith, ahead)) (omega (arith, ahead))))
        (λ p.
        inr (lines_then (formula_in text s) (lines_in text (length text)) p (λ t s' o'.
        safety_past (length text) t s' ((blanks_step s'.at).past o'))))
        (formula_step s).agree;
  }

  -- ── the whole text ──
  abbrev PassedForm : Form → Type 0
  PassedForm (formed c) = Unit {0}
  PassedForm (refused f) = Final f → ⊥

  abbrev SameForm : Form → Form → Type 0
  SameForm o o' = (o ≡ o') ⊎ PassedForm o

  form_past : (r : Result ℕ TextFault) (k k' : ℕ → Form) → ((n : ℕ) → Step PassedForm n (k n) (k' n)) → PassedBy here r → PassedForm (or_refused r k)
  form_past (Ok n) k k' h p = (h n).past p
  form_past (Err f) k k' h p = p

  form_same : (r r' : Result ℕ TextFault) (k k' : ℕ → Form) → ((n : ℕ) → Step PassedForm n (k n) (k' n)) → r ≡ r' → SameForm (or_refused r k) (or_refused r' k')
  form_same (Ok n) r' k k' h e = subst (λ z. SameForm (k n) (or_refused z k')) e (h n).agree
  form_same (Err f) r' k k' h e = inl (ap (λ z. or_refused z k') e)

  form_step :
      (at : ℕ) (r r' : Result ℕ TextFault) (k k' : ℕ → Form) → Reads here at r r' → ((n : ℕ) → Step PassedForm n (k n) (k' n)) →
      Step PassedForm at (or_refused r k) (or_refused r' k')
  form_step at r r' k k' s h = record {
    past = λ o. form_past r k k' h (s.past o);
    agree = ⊎_elim (form_same r r' k k' h) (λ p. inr (form_past r k k' h p)) s.agree;
  }

  done_step : (c : Contents) (at : ℕ) → Step PassedForm at (formed c) (formed c)
  done_step c at = record { past = λ _. tt; agree = inl refl }

  -- by what was passed in a formula or in lines
  out_form :
      (Passed : Out → Type 0) (at : ℕ) (o o' : Out) (k k' : Written → State → Form) → Step Passed at o o' →
      (Passed o → PassedForm (out_or_refused o k)) → ((t : Written) (s : State) → SameForm (k t s) (k' t s)) →
      Step PassedForm at (out_or_refused o k) (out_or_refused o' k')
  out_form Passed at o o' k k' s p h = record {
    past = λ x. p (s.past x);
    agree = ⊎_elim (go o o') (λ x. inr (p x)) s.agree;
  }
    where
      go : (o o' : Out) → o ≡ o' → SameForm (out_or_refused o k) (out_or_refused o' k')
      go (good t s) o' e = subst (λ z. SameForm (k t s) (out_or_refused z k')) e (h t s)
      go (stop f) o' e = inl (ap (λ z. out_or_refused z k') e)

  abbrev third_form : List ℕ → Written → Written → State → Form
  third_form words α ψ s = or_refused (third_in words (blanks words s.at)) (λ _. formed (record { names = s.names; initial = α; safety = ψ }))

  third_form_lem : (α ψ : Written) (s : State) → Step PassedForm s.at (third_form text α ψ s) (third_form other α ψ s)
  third_form_lem α ψ s =
      form_step s.at _ _ _ _ (behind_step (PassedBy here) (third_in text) (third_in other) s.at third_step) (λ n. done_step _ n)

  lines_form : (α : Written) (o : Out) → PassedLines o → PassedForm (out_or_refused o (third_form text α))
  lines_form α (good ψ s) p = form_past _ _ _ (λ n. done_step (record { names = s.names; initial = α; safety = ψ }) n) p
  lines_form α (stop f) p = p

  abbrev safety_form : List ℕ → Written → State → Form
  safety_form words α s =
      or_refused (header_in words (codes "Safety") (codes "Formula") s.at) (λ b.
      out_or_refused (safety_in words (record { at = b; names = s.names })) (third_form words α))

  safety_form_lem : (α : Written) (s : State) → Step PassedForm s.at (safety_form text α s) (safety_form other α s)
  safety_form_lem α s =
      form_step s.at _ _ _ _ (header_step (codes "Safety") (codes "Formula") s.at) (λ b.
      let begin : State = record { at = b; names = s.names } in
      out_form PassedLines b (safety_in text begin) (safety_in other begin) (third_form text α) (third_form other α) (safety_step begin)
      (lines_form α (safety_in text begin)) (λ ψ s'. (third_form_lem α ψ s').agree))

  formula_form : (o : Out) → PassedOut o → PassedForm (out_or_refused o (safety_form text))
  formula_form (good α s) p = (safety_form_lem α s).past p
  formula_form (stop f) p = p

  sections_step : Step PassedForm 0 (sections_of text) (sections_of other)
  unfolding sections_of
  sections_step =
      form_step 0 _ _ _ _ (header_step (codes "Initial") (codes "Formula") 0) (λ a.
      let begin : State = record { at = a; names = [] } in
      out_form PassedOut a (formula_in text begin) (formula_in other begin) (safety_form text) (safety_form other) (formula_step begin)
      (formula_form (formula_in text begin)) (λ α s. (safety_form_lem α s).agree))

  -- what is refused for the token at the place is not formed in the other text
  pub sections_refused : (f : TextFault) (c : Contents) → Final f → sections_of text ≡ refused f → sections_of other ≡ formed c → ⊥
  sections_refused f c b e g =
      ⊎_elim (λ q. never_formed (sym e ∙ q ∙ g)) (λ p. subst PassedForm e p b) sections_step.agree
