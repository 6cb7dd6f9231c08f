-- The reader's form of a text is exactly what the grammar derives.
use Rattle.std.proofs.Common.{◌≡◌, ℕ, ◌≤◌, Bool, true, false, cond, ltb, List, [], length, codes, sym, refl, ap, ◌∙◌, subst}
use Rattle.std.proofs.lemmas.Bool.{ltb-false, le-ltb, cond-false}
use Rattle.faults.specs.declared.TextFault.{TextFault}
use Rattle.temporal.specs.Written.{Written}
use Rattle.grammar.specs.Grammar.{State}
use Rattle.grammar.specs.Sections.{Contents, Form, formed, refused, or_refused, out_or_refused, blanks, header_in, third_in, formula_in, safety_in, sections_of, form_of}
use Rattle.grammar.specs.Shows.{Derives, ReadsWhatIsDerived, DerivationIsUnique}
use Rattle.grammar.proofs.Blanks.{header_sound, header_complete, third_sound, third_complete, third_begins_lem}
use Rattle.grammar.proofs.Lines.{formula_sound, formula_complete, safety_sound, safety_complete}
use Rattle.grammar.proofs.Outcomes.{never_formed, same_contents, split_place, split_formula}

-- a formed text is not too long
short_text :
    (x : Bool) (f : TextFault) (o : Form) (c : Contents) → cond x (refused f) o ≡ formed c → (x ≡ false) × (o ≡ formed c)
short_text true f o c e = absurd (never_formed e)
short_text false f o c e = (refl, e)

module _ (text : List ℕ) (c : Contents) where
  sections_sound : length text ≤ 1024 → sections_of text ≡ formed c → Derives text c
  unfolding sections_of
  sections_sound short e =
      let p = split_place (header_in text (codes "Initial") (codes "Formula") 0) _ c e in
      let begin : State = record { at = p.0; names = [] } in
      let q = split_formula (formula_in text begin) _ c p.2 in
      let r = split_place (header_in text (codes "Safety") (codes "Formula") q.1.at) _ c q.3 in
      let safety : State = record { at = r.0; names = q.1.names } in
      let s = split_formula (safety_in text safety) _ c r.2 in
      let z = split_place (third_in text (blanks text s.1.at)) _ c s.3 in
      let is : record { names = s.1.names; initial = q.0; safety = s.0 } ≡ c = same_contents z.2 in
      subst (Derives text) is
      (record {
        short = short;
        initial_begin = p.0;
        initial_end = q.1;
        safety_begin = r.0;
        safety_end = s.1;
        initial_header = header_sound text (codes "Initial") (codes "Formula") 0 p.0 p.1;
        initial_line = formula_sound text begin q.1 q.0 q.2;
        safety_header = header_sound text (codes "Safety") (codes "Formula") q.1.at r.0 r.1;
        safety_lines = safety_sound text safety s.1 s.0 s.2;
        third = third_sound text s.1.at z.0 z.1;
        names = refl;
      })

  sections_complete : Derives text c → sections_of text ≡ formed c
  unfolding sections_of
  sections_complete d =
      let a = d.initial_end in
      let b = d.safety_end in
      let begin : State = record { at = d.initial_begin; names = [] } in
      let safety : State = record { at = d.safety_begin; names = a.names } in
      let z = third_complete text b.at d.third in
      let last = λ (α ψ : Written) (s' : State). or_refused (third_in text (blanks text s'.at)) (λ _. formed (record { names = s'.names; initial = α; safety = ψ })) in
      let lines = λ (α : Written) (s : State) (i : ℕ). out_or_refused (safety_in text (record { at = i; names = s.names })) (last α) in
      let rest = λ (α : Written) (s : State). or_refused (header_in text (codes "Safety") (codes "Formula") s.at) (lines α s) in
      ap (λ r. or_refused r (λ i. out_or_refused (formula_in text (record { at = i; names = [] })) rest))
      (header_complete text (codes "Initial") (codes "Formula") 0 d.initial_begin d.initial_header)
      ∙ ap (λ o. out_or_refused o rest) (formula_complete text begin a c.initial d.initial_line)
      ∙ ap (λ r. or_refused r (lines c.initial a))
      (header_complete text (codes "Safety") (codes "Formula") a.at d.safety_begin d.safety_header)
      ∙ ap (λ o. out_or_refused o (last c.initial))
      (safety_complete text safety b c.safety d.safety_lines (third_begins_lem text b.at d.third))
      ∙ ap (λ r. or_refused r (λ _. formed (record { names = b.names; initial = c.initial; safety = c.safety }))) z.1
      ∙ ap (λ ns. formed (record { names = ns; initial = c.initial; safety = c.safety })) (sym d.names)

  derived : form_of text ≡ formed c → Derives text c
  unfolding form_of
  derived e =
      let p = short_text (ltb 1024 (length text)) _ (sections_of text) c e in
      sections_sound (ltb-false 1024 (length text) p.0) p.1

  read : Derives text c → form_of text ≡ formed c
  unfolding form_of
  read d = cond-false (ltb 1024 (length text)) _ _ (le-ltb 1024 (length text) d.short) ∙ sections_complete d

pub reads_what_is_derived : ReadsWhatIsDerived
reads_what_is_derived text c = (derived text c, read text c)

pub derivation_is_unique : DerivationIsUnique
derivation_is_unique text c d x y = same_contents (sym (read text c x) ∙ read text d y)
