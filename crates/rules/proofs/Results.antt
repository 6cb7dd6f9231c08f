-- What reading answers, from what parsing and normal form answer.
use Rattle.std.proofs.Common.{◌≡◌, ℕ, ◌<◌, ◌≤◌, Bool, true, false, cond, ◌||◌, ltb, List, length, take, IsErrAnd, MatchResult, Some, Ok, Err, Result, sym, refl, ap, ◌∙◌, subst, arith}
use Rattle.std.specs.List.{slice_get}
use Rattle.std.proofs.lemmas.Bool.{lt-ltb, le-ltb, ltb-true, ltb-false}
use Rattle.faults.specs.declared.Buffer.TheVariants as buffer
use Rattle.faults.specs.declared.Reason.TheVariants as reason
use Rattle.faults.specs.declared.TextFault.{TextFault}
use Rattle.faults.specs.declared.Fault.{Fault}
use Rattle.faults.specs.declared.Fault.TheVariants.{Text, Short}
use Rattle.names.specs.declared.Name.{Name}
use Rattle.formulas.specs.declared.Formula.{Formula}
use Rattle.temporal.specs.Formula.{Formula as Tree}
use Rattle.temporal.specs.Written.{normal}
use Rattle.temporal.specs.Parts.{parts_of}
use Rattle.nodes.specs.declared.syntax.Syntax.{Syntax}
use Rattle.normal.specs.declared.table.Formulas.{Formulas}
use Rattle.normal.specs.declared.table.Refusal.{Refusal}
use Rattle.normal.specs.declared.table.Refusal.TheVariants as refusal
use Rattle.normal.specs.Normalized.{Lists, parts_in, Normalized}
use Rattle.parser.specs.declared.parsed.Parsed.{Parsed}
use Rattle.parser.specs.Naming.{names_of}
use Rattle.parser.specs.Parsing.{Holds, Answers, Parses}
use Rattle.grammar.specs.Sections.{Contents, Form, formed, refused, form_of}
use Rattle.grammar.proofs.Outcomes.{never_formed, same_contents}
use Rattle.grammar.proofs.Reading.{reads_what_is_derived}
use Rattle.rules.specs.declared.specification.Specification.{Specification}
use Rattle.rules.specs.Fields.{view_from}
use Rattle.rules.specs.Form.{in_form}
use Rattle.rules.specs.Laws.{ReadsAsDerived, KeepsMeaning, StatesGame}
use Rattle.rules.specs.Read.{View, formulas_of, view_of, viewed, reads, reads_with}
use Rattle.rules.specs.Shown.{view_result}
use Rattle.rules.proofs.Laws.{Tabled, tabled_view, tabled_is, tabled_form, tabled_meaning, tabled_game, second_is_true}

-- all that is promised of an answer
pub record Promised (n m : ℕ) (text : List ℕ) (r : Result View Fault) : Type 0 where
  pub value : r ≡ reads_with n m text
  pub derived : 2048 ≤ n → 2048 ≤ m → ReadsAsDerived text r
  pub meaning : KeepsMeaning text r
  pub game : StatesGame r

-- ── the definition, case by case ──
module _ (n m : ℕ) (text : List ℕ) where
  roomy : 2048 ≤ n → 2048 ≤ m → reads_with n m text ≡ reads text
  roomy a b =
      ap (λ x. cond (x || ltb m 2048) (Err (Short buffer.Index)) (reads text)) (le-ltb n 2048 a)
      ∙ ap (λ x. cond x (Err (Short buffer.Index)) (reads text)) (le-ltb m 2048 b)

  few_names : ltb n 2048 ≡ true → reads_with n m text ≡ Err (Short buffer.Index)
  few_names h = ap (λ x. cond (x || ltb m 2048) (Err (Short buffer.Index)) (reads text)) h

  or_true : (b : Bool) → (b || true) ≡ true
  or_true true = refl
  or_true false = refl

  few_formulas : ltb m 2048 ≡ true → reads_with n m text ≡ Err (Short buffer.Index)
  few_formulas h =
      ap (λ x. cond (ltb n 2048 || x) (Err (Short buffer.Index)) (reads text)) h
      ∙ ap (λ x. cond x (Err (Short buffer.Index)) (reads text)) (or_true (ltb n 2048))

  -- too few slots, of either kind
  pub short_names : ltb n 2048 ≡ true → Promised n m text (Err (Short buffer.Index))
  short_names h = record {
    value = sym (few_names h);
    derived = λ a b. let k = ltb-true n 2048 h in absurd (omega (arith, a, k));
    meaning = tt;
    game = tt;
  }

  -- a refused text
  pub text_refused : (f : TextFault) → 2048 ≤ n → 2048 ≤ m → form_of text ≡ refused f → Promised n m text (Err (Text f))
  text_refused f a b e = record {
    value = sym (roomy a b ∙ ap (viewed (length text)) e);
    derived = λ _ _ c d. absurd (never_formed (sym e ∙ (reads_what_is_derived text c).1 d));
    meaning = tt;
    game = tt;
  }

  -- too many formulas
  pub too_many : (c : Contents) → 2048 ≤ n → 2048 ≤ m → form_of text ≡ formed c → 256 < length (formulas_of c)
      → Promised n m text (Err (Text (record { reason = reason.Formulas; place = length text })))
  too_many c a b e h = record {
    value = sym (roomy a b ∙ ap (viewed (length text)) e
        ∙ ap (λ x. cond x (Err (Text (record { reason = reason.Formulas; place = length text }))) (Ok (view_of c))) (lt-ltb 256 (length (formulas_of c)) h));
    derived = λ _ _ d k. subst (λ (x : Contents). 256 < length (formulas_of x)) (same_contents (sym e ∙ (reads_what_is_derived text d).1 k)) h;
    meaning = tt;
    game = tt;
  }

  -- an accepted text
  pub accepted : (c : Contents) (names : List Name) (es : List Formula) (i s : ℕ) → 2048 ≤ n → 2048 ≤ m → form_of text ≡ formed c
      → length (formulas_of c) ≤ 256 → Tabled c names es i s → Promised n m text (Ok (tabled_view names es i s))
  accepted c names es i s a b e h t = record {
    value = ap Ok (tabled_is c names es i s t) ∙ sym (roomy a b ∙ ap (viewed (length text)) e
        ∙ ap (λ x. cond x (Err (Text (record { reason = reason.Formulas; place = length text }))) (Ok (view_of c))) (le-ltb 256 (length (formulas_of c)) h));
    derived = λ _ _. (c, (reads_what_is_derived text c).0 e, h, tabled_is c names es i s t);
    meaning = tabled_meaning text c e names es i s t;
    game = tabled_game text c e names es i s t (second_is_true c);
  }

-- ── parsing ──
-- what parsing answers, by whether the slots are too few
abbrev BySlots : Bool → List ℕ → Result Parsed Fault → Type 0
BySlots b text r = elim b [ true ↦ r ≡ Err (Short buffer.Index) | false ↦ Answers (form_of text) r ]

pub record Parsing (text : List ℕ) (n : ℕ) (p : Parsed) : Type 0 where
  pub roomy : 2048 ≤ n
  pub contents : Contents
  pub form : form_of text ≡ formed contents
  pub holds : Holds contents p

pub parsed : (text : List ℕ) (n : ℕ) (p : Parsed) → Parses text n (Ok p) → Parsing text n p
parsed text n p h = by_slots (ltb n 2048) refl h
  where
    by_form : (o : Form) → form_of text ≡ o → Answers o (Ok p) → 2048 ≤ n → Parsing text n p
    by_form (formed c) e k l = record { roomy = l; contents = c; form = e; holds = k }
    by_form (refused f) e k l = let z : ◌≡◌ {A = ℕ} 0 1 = cc in absurd (omega arith)

    by_slots : (b : Bool) → ltb n 2048 ≡ b
        → BySlots b text (Ok p) → Parsing text n p
    by_slots true e k = let z : ◌≡◌ {A = ℕ} 0 1 = cc in absurd (omega arith)
    by_slots false e k = by_form (form_of text) refl k (ltb-false n 2048 e)

pub parse_refused : (n m : ℕ) (text : List ℕ) (f : Fault) → 2048 ≤ m → Parses text n (Err f) → Promised n m text (Err f)
parse_refused n m text f l h = by_slots (ltb n 2048) refl h
  where
    err_is : {X : Type 0} (f g : Fault) → ◌≡◌ {A = Result X Fault} (Err f) (Err g) → g ≡ f
    err_is f g e = cc

    by_form : (o : Form) → form_of text ≡ o → Answers o (Err f) → 2048 ≤ n → Promised n m text (Err f)
    by_form (formed c) e k a = absurd k
    by_form (refused g) e k a = subst (λ (x : Fault). Promised n m text (Err x)) (err_is {X = Parsed} f (Text g) k) (text_refused n m text g a l e)

    by_slots : (b : Bool) → ltb n 2048 ≡ b
        → BySlots b text (Err f) → Promised n m text (Err f)
    by_slots true e k = subst (λ (x : Fault). Promised n m text (Err x)) (err_is {X = Parsed} f (Short buffer.Index) k) (short_names n m text e)
    by_slots false e k = by_form (form_of text) refl k (ltb-false n 2048 e)

-- ── the table ──
pub parts_are : (c : Contents) (p : Parsed) → Holds c p → parts_in p.syntax ≡ formulas_of c
parts_are c p h = λ j. parts_of (normal true (h.initial j)) (normal true (h.safety j))

pub tabled : (c : Contents) (p : Parsed) (f : Formulas) → Holds c p → Lists p.syntax f
    → Tabled c (names_of p.names) (take f.count f.table) f.initial f.safety
tabled c p f h l = record {
  names_are = h.names;
  in_order = f.ordered;
  trees_are = l.list ∙ parts_are c p h;
  initial_at = ap (λ fs. slice_get fs f.initial) (sym (parts_are c p h)) ∙ l.initial ∙ ap (λ w. Some (normal true w)) h.initial;
  safety_at = ap (λ fs. slice_get fs f.safety) (sym (parts_are c p h)) ∙ l.safety ∙ ap (λ w. Some (normal true w)) h.safety;
}

-- ── what a specification is made of ──
-- its form, and a text that reads as it
pub made : (text : List ℕ) (n : ℕ) (p : Parsed) (f : Formulas) → Parsing text n p → length (parts_in p.syntax) ≤ 256 → Lists p.syntax f
    → (in_form (names_of p.names) (take f.count f.table) ≡ true) × (reads text ≡ Ok (view_from p.names f 1))
made text n p f k few l =
    let c = k.contents in
    let t = tabled c p f k.holds l in
    let h : length (formulas_of c) ≤ 256 = subst (λ (fs : List Tree). length fs ≤ 256) (parts_are c p k.holds) few in (
      tabled_form text c k.form _ _ _ _ t,
      sym (accepted 2048 2048 text c _ _ _ _ (omega arith) (omega arith) k.form h t).value,
    )

pub promised : (text : List ℕ) (n m : ℕ) (p : Parsed) (f : Formulas) → Parsing text n p → 2048 ≤ m → length (parts_in p.syntax) ≤ 256 → Lists p.syntax f
    → Promised n m text (Ok (view_from p.names f 1))
promised text n m p f k l few ls =
    let c = k.contents in
    let h : length (formulas_of c) ≤ 256 = subst (λ (fs : List Tree). length fs ≤ 256) (parts_are c p k.holds) few in
    accepted n m text c _ _ _ _ k.roomy l k.form h (tabled c p f k.holds ls)

pub promised_too_many : (text : List ℕ) (n m : ℕ) (p : Parsed) → Parsing text n p → 2048 ≤ m → 256 < length (parts_in p.syntax)
    → (f : TextFault) → f ≡ record { reason = reason.Formulas; place = length text } → Promised n m text (Err (Text f))
promised_too_many text n m p k l many f e =
    let c = k.contents in
    let h : 256 < length (formulas_of c) = subst (λ (fs : List Tree). 256 < length fs) (parts_are c p k.holds) many in
    subst (λ (x : TextFault). Promised n m text (Err (Text x))) (sym e) (too_many n m text c k.roomy l k.form h)

-- the error of a callee, handed on
pub handed_on : (n m : ℕ) (text : List ℕ) (f : Fault) (r : Result Specification Fault) → IsErrAnd r (λ y. y ≡ f) → Promised n m text (Err f)
    → Promised n m text (view_result r)
handed_on n m text f (Ok s) h p = absurd h
handed_on n m text f (Err y) h p = subst (λ (x : Fault). Promised n m text (Err x)) (sym h) p

-- what was before map_err: the same value, or an error that the closure made this one of
pub ok_before : {T E D : Type 0} (P : E → D → Type 0) (r : Result T E) (m : Result T D) (x : T)
    → MatchResult r (λ y. m ≡ Ok y) (λ e. IsErrAnd m (P e)) → m ≡ Ok x → r ≡ Ok x
ok_before P (Ok y) m x h e = cc
ok_before P (Err e) (Ok y) x h q = absurd h
ok_before P (Err e) (Err d) x h q = cc

pub err_before : {T E D : Type 0} (P : E → D → Type 0) (r : Result T E) (m : Result T D) (d f : D) → MatchResult r (λ y. m ≡ Ok y) (λ e. IsErrAnd m (P e))
    → ((e : E) (x : D) → P e x → x ≡ f) → m ≡ Err d → (e : E) × (r ≡ Err e) × (d ≡ f)
err_before P (Ok y) m d f h k q = absurd cc
err_before P (Err e) (Ok y) d f h k q = absurd h
err_before P (Err e) (Err x) d f h k q = let s : d ≡ x = cc in (e, refl, s ∙ k e x h)

-- with slots enough, the table is refused for its length alone
pub many_parts : (s : Syntax) (n : ℕ) (e : Refusal) → 2048 ≤ n → Normalized s n (Err e) → 256 < length (parts_in s)
many_parts s n refusal.Short l h = absurd (omega (arith, l, h))
many_parts s n refusal.TooMany l h = h.1
