-- A token that is refused as unknown or as not allowed there is so in every text that has it behind the same tokens.
use Rattle.std.proofs.Common.{◌≡◌, ℕ, Bool, true, false, cond, ltb, ◌⊎◌, List, length, sym, refl, ap, ◌∙◌, ⊎_elim}
use Rattle.std.proofs.lemmas.Bool.{le-ltb, cond-false}
use Rattle.faults.specs.declared.Reason.TheVariants as reason
use Rattle.faults.specs.declared.TextFault.{TextFault}
use Rattle.grammar.specs.Refusals.{RefusedTokenIsFinal}
use Rattle.grammar.specs.Sections.{Contents, Form, formed, refused, sections_of, form_of}
use Rattle.grammar.specs.Shows.{Derives}
use Rattle.grammar.proofs.Agreement.{sections_refused}
use Rattle.grammar.proofs.Bytes.{same_tokens}
use Rattle.grammar.proofs.Reading.{reads_what_is_derived}

same_fault : (f g : TextFault) → refused f ≡ refused g → f ≡ g
same_fault f g e = cc

-- too long a text is refused for no token
token_refused :
    (x : Bool) (o : Form) (p : ℕ) (f : TextFault) → (f.reason ≡ reason.Unknown) ⊎ (f.reason ≡ reason.Misplaced) →
    cond x (refused (record { reason = reason.TooLong; place = p })) o ≡ refused f → o ≡ refused f
token_refused true o p f h e =
    let long : reason.TooLong ≡ f.reason = ap (λ g. g.reason) (same_fault _ f e) in
    ⊎_elim
    (λ q. absurd cc)
    (λ q. absurd cc)
    h
token_refused false o p f h e = e

text_refused :
    (text : List ℕ) (f : TextFault) → (f.reason ≡ reason.Unknown) ⊎ (f.reason ≡ reason.Misplaced) → form_of text ≡ refused f →
    sections_of text ≡ refused f
unfolding form_of
text_refused text f h e = token_refused (ltb 1024 (length text)) (sections_of text) 1024 f h e

text_formed : (text : List ℕ) (c : Contents) → Derives text c → sections_of text ≡ formed c
unfolding form_of
text_formed text c d =
    sym (cond-false (ltb 1024 (length text)) _ _ (le-ltb 1024 (length text) d.short)) ∙ (reads_what_is_derived text c).1 d

pub refused_token_is_final : RefusedTokenIsFinal
refused_token_is_final text other f e h same c d =
    sections_refused text other f.place (same_tokens text other f.place same) f c (refl, h) (text_refused text f h e) (text_formed other c d)
