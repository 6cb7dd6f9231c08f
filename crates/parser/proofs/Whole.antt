-- A whole text: its length, and what the reader hands over.
use Rattle.std.proofs.Common.{◌≡◌, ℕ, ◌<◌, ◌≤◌, List, length, get_or, take, IsErrAnd, Ok, Err, Result, sym, ap, ◌∙◌, subst}
use Rattle.std.proofs.lemmas.Bool.{cond-true, cond-false, lt-ltb, le-ltb}
use Rattle.faults.specs.declared.Reason.TheVariants as reason
use Rattle.faults.specs.declared.TextFault.{TextFault}
use Rattle.temporal.specs.Written.{truth}
use Rattle.nodes.specs.Trees.{trees_of}
use Rattle.grammar.specs.Sections.{Form, refused, sections_of, form_of}
use Rattle.parser.specs.declared.parsed.Parsed.{Parsed}
use Rattle.parser.specs.declared.reader.Reader.{Reader}
use Rattle.parser.specs.declared.reader.Roots.{Roots}
use Rattle.parser.specs.declared.table.Names.{Names}
use Rattle.parser.specs.Naming.{names_of, Numbered}
use Rattle.parser.specs.Reading.{tree_at}
use Rattle.parser.specs.Parsing.{Forms, Holds, Kept}

module _ (text : List ℕ) where
  pub long_form : 1024 < length text → form_of text ≡ refused (record { reason = reason.TooLong; place = 1024 })
  unfolding form_of
  long_form h = cond-true _ _ _ (lt-ltb _ _ h)

  pub short_form : length text ≤ 1024 → form_of text ≡ sections_of text
  unfolding form_of
  short_form h = cond-false _ _ _ (le-ltb _ _ h)

-- the refusal of the sections, handed on
pub hands_on : (o : Form) (f : TextFault) (r : Result Parsed TextFault) → IsErrAnd r (λ y. y ≡ f) → o ≡ refused f → Forms o r
hands_on o f (Ok p) h e = absurd h
hands_on o f (Err y) h e = e ∙ ap refused (sym h)

-- what the reader held
pub handed :
    (s : Reader) (r : Roots) (p : Parsed) → Kept s r p → Numbered s.names →
    Holds (record { names = names_of s.names; initial = tree_at s r.initial; safety = tree_at s r.safety }) p
handed s r p k n = record {
  names = ap names_of k.names;
  numbered = let P : Names → Type 0 = λ names. Numbered names in subst P (sym k.names) n;
  initial = λ i. get_or (trees_of (take (k.count i) (k.nodes i))) (k.initial i) truth;
  safety = λ i. get_or (trees_of (take (k.count i) (k.nodes i))) (k.safety i) truth;
}
