-- What examining gives, from what reading and checking answer.
use Rattle.std.proofs.Common.{◌≡◌, ℕ, Bool, true, false, cond, ◌||◌, ltb, List, IsErrAnd, Ok, Err, Result, sym, refl, ap, ◌∙◌, arith}
use Rattle.std.proofs.lemmas.Bool.{ltb-false}
use Rattle.faults.specs.declared.Buffer.TheVariants as buffer
use Rattle.faults.specs.declared.Fault.{Fault as ReadFault}
use Rattle.faults.specs.declared.Fault.TheVariants as reading
use Rattle.faults.specs.declared.card.CardFault.{CardFault}
use Rattle.faults.specs.declared.card.CardFault.TheVariants.{Short}
use Rattle.tableau.specs.Judge.{judge}
use Rattle.records.specs.Raw.{RawCard, model}
use Rattle.rules.specs.declared.specification.Specification.{Specification}
use Rattle.rules.specs.Read.{reads, reads_with}
use Rattle.rules.specs.Laws.{game_of}
use Rattle.rules.specs.Shown.{view}
use Rattle.judged.specs.Judged.{fault_of}
use Rattle.marking.specs.declared.verdict.Marked.{Marked}
use Rattle.marking.specs.Verdicts.{marked_as}
use Rattle.marking.specs.Checks.{checks}
use Rattle.marking.proofs.Judging.{judged}
use Rattle.examination.specs.declared.examine.Examined.{Examined}
use Rattle.examination.specs.declared.fault.MarkFault.{MarkFault}
use Rattle.examination.specs.Faults.{from_text}
use Rattle.examination.specs.Examined.{bad_card, sized, judged_for, enough_slots, examines, examined_as}

-- ── the sizes of the indexes ──
none_short : (a b c : Bool) → ◌≡◌ {A = Result (Unit {0}) CardFault} (Ok tt) (cond (a || (b || c)) (Err (Short buffer.Index)) (Ok tt))
    → (a ≡ false) × (b ≡ false) × (c ≡ false)
none_short true b c h = let z : ◌≡◌ {A = ℕ} 0 1 = cc in absurd (omega arith)
none_short false true c h = let z : ◌≡◌ {A = ℕ} 0 1 = cc in absurd (omega arith)
none_short false false true h = let z : ◌≡◌ {A = ℕ} 0 1 = cc in absurd (omega arith)
none_short false false false h = (refl, refl, refl)

module _ (n m k : ℕ) (text : List ℕ) (c : RawCard) (enough : Ok tt ≡ enough_slots n m k) where
  long : (ltb n 2048 ≡ false) × (ltb m 2048 ≡ false) × (ltb k 2048 ≡ false)
  long = none_short (ltb n 2048) (ltb m 2048) (ltb k 2048) enough

  roomy : examines n m k text c ≡ judged_for c (reads text)
  roomy =
      let l = long in
      ap (λ b. cond (b || (ltb m 2048 || ltb k 2048)) (Err (bad_card (fault_of (Short buffer.Index)))) (judged_for c (reads text))) l.0
      ∙ ap (λ b. cond (b || ltb k 2048) (Err (bad_card (fault_of (Short buffer.Index)))) (judged_for c (reads text))) l.1
      ∙ ap (λ b. cond b (Err (bad_card (fault_of (Short buffer.Index)))) (judged_for c (reads text))) l.2

  read_alone : reads_with n m text ≡ reads text
  read_alone =
      let l = long in
      ap (λ b. cond (b || ltb m 2048) (Err (reading.Short buffer.Index)) (reads text)) l.0
      ∙ ap (λ b. cond b (Err (reading.Short buffer.Index)) (reads text)) l.1

  -- the text is refused
  refused_as : (f : ReadFault) → examined_as (Err (from_text f)) ≡ judged_for c (Err f)
  refused_as (reading.Text t) = refl
  refused_as (reading.Short b) = refl

  handed : (e : MarkFault) (r : Result Examined MarkFault) → IsErrAnd r (λ y. y ≡ e) → examined_as r ≡ examined_as (Err e)
  handed e (Ok x) h = absurd h
  handed e (Err y) h = ap (λ f. examined_as (Err f)) h

  pub text_refused : (f : ReadFault) (r : Result Examined MarkFault) → IsErrAnd r (λ y. y ≡ from_text f) → Err f ≡ reads_with n m text
      → examined_as r ≡ examines n m k text c
  text_refused f r h e =
      handed (from_text f) r h ∙ refused_as f ∙ ap (judged_for c) (e ∙ read_alone) ∙ sym roomy

  -- the text is read
  module _ (s : Specification) (read : Ok (view s) ≡ reads_with n m text) where
    from_view : examines n m k text c ≡ sized (view s) (judge (game_of (view s)) (model c))
    from_view = roomy ∙ ap (judged_for c) (sym (read ∙ read_alone))

    checked : checks k (game_of (view s)) (model c) ≡ judge (game_of (view s)) (model c)
    checked = judged k (game_of (view s)) (model c) (ltb-false k 2048 long.2)

    pub passed : (a : Marked) → Ok (marked_as a) ≡ checks k (game_of (view s)) (model c)
        → (environment : ℕ) → environment ≡ (game_of (view s)).environment → (system : ℕ) → system ≡ (game_of (view s)).system
        → examined_as (Ok (record { variables = record { environment = environment; system = system }; marked = a })) ≡ examines n m k text c
    passed a e environment p system q =
        (λ i. Ok (record { environment = p i; system = q i; marked = marked_as a })) ∙ ap (sized (view s)) (e ∙ checked) ∙ sym from_view
