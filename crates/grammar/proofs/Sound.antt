-- What is read is what the grammar shows.
use Rattle.std.proofs.Common.{◌≡◌, ℕ, zero, suc, Bool, true, false, ltb, List, length, Some, None, Ok, Err, Option, Result, sym, refl, ◌∙◌}
use Rattle.std.proofs.lemmas.Bool.{ltb-true}
use Rattle.faults.specs.declared.TextFault.{TextFault}
use Rattle.lexer.specs.declared.token.Symbol.TheVariants as symbol
use Rattle.lexer.specs.Lexer.{look_at}
use Rattle.lexer.specs.Tokens.{is_symbol}
use Rattle.temporal.specs.Written.{Written}
use Rattle.nodes.specs.declared.node.Connective.{Connective}
use Rattle.nodes.specs.declared.node.Connective.TheVariants as connective
use Rattle.nodes.specs.Trees.{join, apply}
use Rattle.grammar.specs.declared.head.Head.{Head}
use Rattle.grammar.specs.declared.head.Head.TheVariants as head
use Rattle.grammar.specs.declared.head.Prefixed.{Prefixed}
use Rattle.grammar.specs.declared.head.Unary.{Unary}
use Rattle.grammar.specs.Grammar.{head_of, symbol_of, State, moved, good, Parser, word_name, prefix_in, prefixed, behind, closed, begun}
use Rattle.grammar.specs.Grammar.{unary_by, more, chain_by, arrowed, operand_by, inside}
use Rattle.grammar.specs.Numbering.{rank}
use Rattle.grammar.specs.Shows.{Level, unary, up_to, Shows}
use Rattle.grammar.specs.Shows.{shows_constant, shows_variable, shows_unary, shows_group, shows_operand, shows_and, shows_or, shows_implies, shows_equivalent}
use Rattle.grammar.proofs.Ranges.{bounds_sound}
use Rattle.grammar.proofs.Outcomes.{carried, never_good, split_out, split_test}
use Rattle.grammar.proofs.Steps.{level_at, unary_is, closed_by, turn_by, chain_is, arrowed_by, arrow_is}

-- chains: S is what operands show, C what the chain shows
module _ (text : List ℕ) (c : Connective) (operand : Parser) (S C : State → State → Written → Type 0)
    (read : (a b : State) (t : Written) → operand a ≡ good t b → S a b t)
    (alone : (a b : State) (t : Written) → S a b t → C a b t)
    (joined : (a b d : State) (t u : Written) → C a b t → is_symbol (symbol_of c) (look_at text b.at).token ≡ true
    → S (moved b (look_at text b.at).next) d u → C a d (join c t u))
    (a : State) where
  turn_sound :
      (n : ℕ) (t : Written) (s : State) (u : Written) (b : State) → C a s t → (x : Bool) →
      is_symbol (symbol_of c) (look_at text s.at).token ≡ x → turn_by text c operand n t s x ≡ good u b →
      ((v : Written) (d : State) → C a d (join c t v) → more text c operand n (join c t v) d ≡ good u b → C a b u) → C a b u
  turn_sound n t s u b h true e g next =
      let p = split_out (operand (moved s (look_at text s.at).next)) (λ v d. more text c operand n (join c t v) d) u b g in
      next p.0 p.1 (joined a s p.1 t p.0 h e (read _ _ _ p.2)) p.3
  turn_sound n t s u b h false e g next = carried (λ d v. C a d v) g h

  more_sound : (n : ℕ) (t : Written) (s : State) (u : Written) (b : State) → C a s t → more text c operand n t s ≡ good u b → C a b u
  unfolding more
  more_sound zero t s u b h g = carried (λ d v. C a d v) g h
  more_sound (suc n) t s u b h g =
      turn_sound n t s u b h (is_symbol (symbol_of c) (look_at text s.at).token) refl g
      (λ v d h' g'. more_sound n (join c t v) d u b h' g')

  pub chain_sound : (b : State) (u : Written) → chain_by text c operand a ≡ good u b → C a b u
  chain_sound b u g =
      let p = split_out (operand a) (more text c operand (length text)) u b (sym (chain_is text c operand a) ∙ g) in
      more_sound (length text) p.0 p.1 u b (alone a p.1 p.0 (read _ _ _ p.2)) p.3

module _ (text : List ℕ) where
  abbrev pub Sound : ℕ → Level → Type 0
  Sound n l = (a b : State) (t : Written) → level_at text n l a ≡ good t b → Shows text l n a b t

  -- what is read inside is what the grammar shows
  abbrev Inner : ℕ → Type 0
  Inner zero = Unit {0}
  Inner (suc n) = Sound n unary × Sound n (up_to connective.Implies) × Sound n (up_to connective.Equivalent)

  prefixed_sound :
      (n : ℕ) → Sound n unary → (a b : State) (t : Written) (u : Unary) → head_of (look_at text a.at).token ≡ Some (head.Prefix u) →
      (r : Result Prefixed TextFault) → prefix_in text u (look_at text a.at).next ≡ r →
      prefixed r (unary_by text (inside text n)) a ≡ good t b → Shows text unary (suc n) a b t
  prefixed_sound n su a b t u e (Ok p) q g =
      let o = split_out (unary_by text (inside text n) (moved a p.next)) (λ v s'. good (apply p.prefix v) s') t b g in
      carried (λ d v. Shows text unary (suc n) a d v) o.3 (shows_unary u p.next p.prefix e (bounds_sound text u _ p q) (su _ _ _ o.2))
  prefixed_sound n su a b t u e (Err f) q g = absurd (never_good g)

  behind_sound :
      (n : ℕ) → Inner n → (a b : State) (t : Written) (u : Unary) → head_of (look_at text a.at).token ≡ Some (head.Prefix u) →
      behind text (inside text n) u (look_at text a.at) a ≡ good t b → Shows text unary n a b t
  unfolding inside
  behind_sound zero i a b t u e g = absurd (never_good g)
  behind_sound (suc n) i a b t u e g = prefixed_sound n i.0 a b t u e _ refl g

  closed_sound :
      (n : ℕ) (a b c : State) (t u : Written) → head_of (look_at text a.at).token ≡ Some head.Group →
      Shows text (up_to connective.Equivalent) n (moved a (look_at text a.at).next) c u →
      (x : Bool) → is_symbol symbol.Close (look_at text c.at).token ≡ x → closed_by u c (look_at text c.at) x ≡ good t b →
      Shows text unary (suc n) a b t
  closed_sound n a b c t u e s true q g = carried (λ d v. Shows text unary (suc n) a d v) g (shows_group e s q)
  closed_sound n a b c t u e s false q g = absurd (never_good g)

  group_sound :
      (n : ℕ) → Inner n → (a b : State) (t : Written) → head_of (look_at text a.at).token ≡ Some head.Group →
      begun text (inside text n) (look_at text a.at) a (Some head.Group) ≡ good t b → Shows text unary n a b t
  unfolding inside
  group_sound zero i a b t e g = absurd (never_good g)
  group_sound (suc n) i a b t e g =
      let whole = level_at text n (up_to connective.Equivalent) in
      let o = split_out (whole (moved a (look_at text a.at).next)) (λ v s'. closed v s' (look_at text s'.at)) t b g in
      closed_sound n a b o.1 t o.0 e (i.2 _ _ _ o.2) _ refl o.3

  begun_sound :
      (n : ℕ) → Inner n → (a b : State) (t : Written) (h : Option Head) → head_of (look_at text a.at).token ≡ h →
      begun text (inside text n) (look_at text a.at) a h ≡ good t b → Shows text unary n a b t
  begun_sound n i a b t None e g = absurd (never_good g)
  begun_sound n i a b t (Some (head.Constant v)) e g = carried (λ d v. Shows text unary n a d v) g (shows_constant v e)
  begun_sound n i a b t (Some head.Variable) e g =
      let x = word_name text (look_at text a.at) in
      let p = split_test (ltb (rank x a.names) 16) _ _ _ t b g in
      carried (λ d v. Shows text unary n a d v) p.1 (shows_variable x e refl (ltb-true _ _ p.0))
  begun_sound n i a b t (Some (head.Prefix u)) e g = behind_sound n i a b t u e g
  begun_sound n i a b t (Some head.Group) e g = group_sound n i a b t e g

  unary_sound : (n : ℕ) → Inner n → Sound n unary
  unary_sound n i a b t g = begun_sound n i a b t _ refl (sym (unary_is text (inside text n) a _ refl) ∙ g)

  and_sound : (n : ℕ) → Sound n unary → Sound n (up_to connective.And)
  unfolding operand_by
  and_sound n su a b t g =
      chain_sound text connective.And (unary_by text (inside text n)) (Shows text unary n) (Shows text (up_to connective.And) n) su
      (λ a b t s. shows_operand connective.And s) (λ a b d t u s e s'. shows_and s e s') a b t g

  or_sound : (n : ℕ) → Sound n (up_to connective.And) → Sound n (up_to connective.Or)
  unfolding operand_by
  or_sound n sa a b t g =
      chain_sound text connective.Or (level_at text n (up_to connective.And)) (Shows text (up_to connective.And) n)
      (Shows text (up_to connective.Or) n) sa
      (λ a b t s. shows_operand connective.Or s) (λ a b d t u s e s'. shows_or s e s') a b t g

  -- what stands before an arrow, and what the arrow and its right side make of it
  implied_sound :
      (n : ℕ) → Inner n → (a b s : State) (t u : Written) → Shows text (up_to connective.Or) n a s u → (x : Bool) →
      is_symbol symbol.Implies (look_at text s.at).token ≡ x →
      arrowed_by connective.Implies (inside text n) u s (look_at text s.at) x ≡ good t b → Shows text (up_to connective.Implies) n a b t
  unfolding inside
  implied_sound n i a b s t u h false e g = carried (λ d v. Shows text (up_to connective.Implies) n a d v) g (shows_operand connective.Implies h)
  implied_sound zero i a b s t u h true e g = absurd (never_good g)
  implied_sound (suc n) i a b s t u h true e g =
      let right = level_at text n (up_to connective.Implies) in
      let o = split_out (right (moved s (look_at text s.at).next)) (λ v s'. good (join connective.Implies u v) s') t b g in
      carried (λ d v. Shows text (up_to connective.Implies) (suc n) a d v) o.3 (shows_implies h e (i.1 _ _ _ o.2))

  equated_sound :
      (n : ℕ) → Inner n → (a b s : State) (t u : Written) → Shows text (up_to connective.Implies) n a s u → (x : Bool) →
      is_symbol symbol.Equivalent (look_at text s.at).token ≡ x →
      arrowed_by connective.Equivalent (inside text n) u s (look_at text s.at) x ≡ good t b →
      Shows text (up_to connective.Equivalent) n a b t
  unfolding inside
  equated_sound n i a b s t u h false e g = carried (λ d v. Shows text (up_to connective.Equivalent) n a d v) g (shows_operand connective.Equivalent h)
  equated_sound zero i a b s t u h true e g = absurd (never_good g)
  equated_sound (suc n) i a b s t u h true e g =
      let right = level_at text n (up_to connective.Implies) in
      let o = split_out (right (moved s (look_at text s.at).next)) (λ v s'. good (join connective.Equivalent u v) s') t b g in
      carried (λ d v. Shows text (up_to connective.Equivalent) (suc n) a d v) o.3 (shows_equivalent h e (i.1 _ _ _ o.2))

  implies_sound : (n : ℕ) → Inner n → Sound n (up_to connective.Or) → Sound n (up_to connective.Implies)
  unfolding operand_by
  implies_sound n i so a b t g =
      let left = level_at text n (up_to connective.Or) in
      let d = inside text n in
      let o = split_out (left a) (λ v s'. arrowed connective.Implies d v s' (look_at text s'.at)) t b
      (sym (arrow_is text connective.Implies d left a) ∙ g) in
      implied_sound n i a b o.1 t o.0 (so _ _ _ o.2) _ refl o.3

  equivalent_sound : (n : ℕ) → Inner n → Sound n (up_to connective.Implies) → Sound n (up_to connective.Equivalent)
  unfolding operand_by
  equivalent_sound n i si a b t g =
      let left = level_at text n (up_to connective.Implies) in
      let d = inside text n in
      let o = split_out (left a) (λ v s'. arrowed connective.Equivalent d v s' (look_at text s'.at)) t b
      (sym (arrow_is text connective.Equivalent d left a) ∙ g) in
      equated_sound n i a b o.1 t o.0 (si _ _ _ o.2) _ refl o.3

  implies_inner : (n : ℕ) → Inner n → Sound n (up_to connective.Implies)
  implies_inner n i = implies_sound n i (or_sound n (and_sound n (unary_sound n i)))

  inner : (n : ℕ) → Inner n
  inner zero = tt
  inner (suc n) =
      let i = inner n in
      (unary_sound n i, implies_inner n i, equivalent_sound n i (implies_inner n i))

  -- what is read as a formula with nesting left for n is what the grammar shows
  pub sound : (n : ℕ) → Sound n (up_to connective.Equivalent)
  sound n = equivalent_sound n (inner n) (implies_inner n (inner n))

  -- and so at each level
  pub sound_at : (n : ℕ) (l : Level) → Sound n l
  sound_at n unary = unary_sound n (inner n)
  sound_at n (up_to connective.And) = and_sound n (unary_sound n (inner n))
  sound_at n (up_to connective.Or) = or_sound n (and_sound n (unary_sound n (inner n)))
  sound_at n (up_to connective.Implies) = implies_inner n (inner n)
  sound_at n (up_to connective.Equivalent) = sound n
