-- The lines and sections of a text, as the grammar takes them.
use Rattle.std.proofs.Common.{◌≡◌, ℕ, zero, suc, ◌-◌, ◌<◌, Bool, true, false, List, [], length, IsErrAnd, Ok, Err, codes, Result, sym, refl, ap, ◌∙◌, arith}
use Rattle.faults.specs.declared.TextFault.{TextFault}
use Rattle.temporal.specs.Written.{Written, conjunction}
use Rattle.grammar.specs.Grammar.{State, moved, Out, good, and_then, whole_at}
use Rattle.grammar.specs.Sections.{Form, formed, refused, or_refused, out_or_refused, ended, blanks, line_in, header_in, third_in}
use Rattle.grammar.specs.Sections.{third_begins, formula_in, lines_in, safety_in, sections_of}
use Rattle.parser.specs.declared.reader.Reader.{Reader}
use Rattle.parser.specs.declared.reader.Roots.{Roots}
use Rattle.names.specs.declared.Name.{Name}
use Rattle.parser.specs.Naming.{names_of}
use Rattle.parser.specs.Reading.{Sectioned, state_at}

-- a formula on a line

module _ (text : List ℕ) (s : State) (begin : ℕ) (is : begin ≡ blanks text s.at) where
  pub formula_then :
      (o : Out) → whole_at text 32 (moved s begin) ≡ o → formula_in text s ≡ and_then o (λ t s'. ended t s' (line_in text s'.at))
  unfolding formula_in
  formula_then o h =
      ap (λ b. and_then (whole_at text 32 (moved s b)) (λ t s'. ended t s' (line_in text s'.at))) (sym is)
      ∙ ap (λ z. and_then z (λ t s'. ended t s' (line_in text s'.at))) h

  pub formula_ended :
      (t : Written) (s' : State) → whole_at text 32 (moved s begin) ≡ good t s' → (r : Result ℕ TextFault) → r ≡ line_in text s'.at →
      formula_in text s ≡ ended t s' r
  formula_ended t s' h r e = formula_then _ h ∙ ap (ended t s') (sym e)

-- safety lines

module _ (text : List ℕ) where
  pub safety_then : (s : State) (o : Out) → formula_in text s ≡ o → safety_in text s ≡ and_then o (lines_in text (length text))
  unfolding safety_in
  safety_then s o h = ap (λ z. and_then z (lines_in text (length text))) h

  abbrev line_of : Bool → ℕ → Written → State → Out
  line_of b n t s = elim b [ true ↦ good t s | false ↦ and_then (formula_in text s) (λ u s'. lines_in text n (conjunction t u) s') ]

  lines_is :
      (n : ℕ) (t : Written) (s : State) (begin : ℕ) → begin ≡ blanks text s.at → (b : Bool) → b ≡ third_begins text begin →
      lines_in text (suc n) t s ≡ line_of b n t s
  unfolding lines_in
  lines_is n t s begin is b e = sym (ap (λ v. line_of v n t s) e ∙ ap (λ a. line_of (third_begins text a) n t s) is)

  pub lines_none : (n : ℕ) (t : Written) (s : State) → n ≡ 0 → lines_in text n t s ≡ good t s
  unfolding lines_in
  lines_none zero t s e = refl
  lines_none (suc n) t s e = absurd (omega arith)

  pub lines_end :
      (n : ℕ) (t : Written) (s : State) (begin : ℕ) → begin ≡ blanks text s.at → true ≡ third_begins text begin →
      lines_in text n t s ≡ good t s
  lines_end zero t s begin is e = lines_none zero t s refl
  lines_end (suc n) t s begin is e = lines_is n t s begin is true e

  pub lines_then :
      (n : ℕ) (t : Written) (s : State) (begin : ℕ) → begin ≡ blanks text s.at → false ≡ third_begins text begin → 0 < n →
      (o : Out) → formula_in text s ≡ o → lines_in text n t s ≡ and_then o (λ u s'. lines_in text (n - 1) (conjunction t u) s')
  lines_then zero t s begin is e lt o h = absurd (omega arith)
  lines_then (suc n) t s begin is e lt o h =
      let k : n ≡ suc n - 1 = omega arith in
      lines_is n t s begin is false e ∙ ap (λ z. and_then z (λ u s'. lines_in text n (conjunction t u) s')) h
      ∙ ap (λ m. and_then o (λ u s'. lines_in text m (conjunction t u) s')) k

-- the sections, from the last to the first

module _ (text : List ℕ) where
  abbrev from_third : Written → Written → State → Result ℕ TextFault → Form
  from_third α ψ s r = or_refused r (λ c. formed (record { names = s.names; initial = α; safety = ψ }))

  abbrev from_lines : Written → Out → Form
  from_lines α o = out_or_refused o (λ ψ s. from_third α ψ s (third_in text (blanks text s.at)))

  abbrev from_safety : Written → State → Result ℕ TextFault → Form
  from_safety α s r = or_refused r (λ b. from_lines α (safety_in text (moved s b)))

  abbrev from_formula : Out → Form
  from_formula o = out_or_refused o (λ α s. from_safety α s (header_in text (codes "Safety") (codes "Formula") s.at))

  pub first_read :
      (r : Result ℕ TextFault) → r ≡ header_in text (codes "Initial") (codes "Formula") 0 →
      sections_of text ≡ or_refused r (λ a. from_formula (formula_in text (record { at = a; names = [] })))
  unfolding sections_of
  first_read r e = ap (λ z. or_refused z (λ a. from_formula (formula_in text (record { at = a; names = [] })))) (sym e)

  module _ (a : ℕ) (first : Ok a ≡ header_in text (codes "Initial") (codes "Formula") 0) (s : State)
      (begins : record { at = a; names = [] } ≡ s) where
    pub formula_read : (o : Out) → formula_in text s ≡ o → sections_of text ≡ from_formula o
    formula_read o h = first_read (Ok a) first ∙ ap (λ z. from_formula (formula_in text z)) begins ∙ ap from_formula h

    module _ (α : Written) (s₁ : State) (initial : formula_in text s ≡ good α s₁) where
      pub second_read :
          (r : Result ℕ TextFault) → r ≡ header_in text (codes "Safety") (codes "Formula") s₁.at → sections_of text ≡ from_safety α s₁ r
      second_read r e = formula_read (good α s₁) initial ∙ ap (from_safety α s₁) (sym e)

      module _ (b : ℕ) (second : Ok b ≡ header_in text (codes "Safety") (codes "Formula") s₁.at) where
        pub safety_read : (o : Out) → safety_in text (moved s₁ b) ≡ o → sections_of text ≡ from_lines α o
        safety_read o h = second_read (Ok b) second ∙ ap (from_lines α) h

        pub third_read :
            (ψ : Written) (s₂ : State) → safety_in text (moved s₁ b) ≡ good ψ s₂ → (begin : ℕ) → begin ≡ blanks text s₂.at →
            (r : Result ℕ TextFault) → r ≡ third_in text begin → sections_of text ≡ from_third α ψ s₂ r
        third_read ψ s₂ h begin is r e =
            safety_read (good ψ s₂) h ∙ ap (λ n. from_third α ψ s₂ (third_in text n)) (sym is) ∙ ap (from_third α ψ s₂) (sym e)

-- the refusal of a part, handed on
pub refuses :
    (o : Form) (s : Reader) (f : TextFault) (r : Result Roots TextFault) → IsErrAnd r (λ y. y ≡ f) → o ≡ refused f → Sectioned o s r
refuses o s f (Ok p) h e = absurd h
refuses o s f (Err y) h e = e ∙ ap refused (sym h)

-- a reader without names begins as the grammar does
pub begins : (s : Reader) (a : ℕ) → names_of s.names ≡ [] → ◌≡◌ {A = State} (record { at = a; names = [] }) (state_at s a)
begins s a e = λ i. record { at = a; names = sym e i }

-- the first formula stays where it was
pub formed_later :
    (names : List Name) (α β ψ : Written) → β ≡ α →
    formed (record { names = names; initial = α; safety = ψ }) ≡ formed (record { names = names; initial = β; safety = ψ })
formed_later names α β ψ e = λ i. formed (record { names = names; initial = sym e i; safety = ψ })
