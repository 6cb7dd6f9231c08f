-- How marks spread in a pass over the records: what they keep, what they add, and what holds at the end.
use Rattle.std.proofs.Common.{◌≡◌, ℕ, zero, suc, ◌+◌, ◌-◌, ◌<◌, ◌≤◌, Bool, true, false, cond, ◌&&◌, ◌≢◌, ◌⊎◌, List, [], ◌∷◌, length, get_or, drop, sym, refl, ap, ◌∙◌, subst, inl, inr, arith, length-set, get_or-set_other, get_or-set_same}
use mathlib.Core.Bool.{false≢true}
use native.Mathlib.Decide.{ℕ_discrete}
use Rattle.std.proofs.lemmas.List.{at_drop_all}
use Rattle.temporal.proofs.Truth.{and_out, and_in}
use Rattle.temporal.proofs.Tells.{eq_tells}
use Rattle.records.specs.declared.FormulaRecord.{FormulaRecord}
use Rattle.covered.specs.Marks.{marked, mark, mark_if, is_conjunction, is_range, covers_range, follows}
use Rattle.covered.specs.Marks.{spread, held_from, range_from, range_if, ranges_from, joined_from}
use Rattle.covered.proofs.Passes.{no_record, held_turn, range_turn, ranges_turn, joined_turn}

-- ── one mark ──
pub mark_here : (ms : List Bool) (i : ℕ) → i < length ms → marked (mark ms i) i ≡ true
mark_here ms i l = get_or-set_same ms i true false l

pub mark_other : (ms : List Bool) (i j : ℕ) → j ≢ i → marked (mark ms i) j ≡ marked ms j
mark_other ms i j n = get_or-set_other ms i j true false n

pub mark_keeps : (ms : List Bool) (i j : ℕ) → marked ms j ≡ true → marked (mark ms i) j ≡ true
mark_keeps [] i j h = h
mark_keeps (x ∷ ms) zero zero h = refl
mark_keeps (x ∷ ms) zero (suc j) h = h
mark_keeps (x ∷ ms) (suc i) zero h = h
mark_keeps (x ∷ ms) (suc i) (suc j) h = mark_keeps ms i j h

pub mark_only : (ms : List Bool) (i j : ℕ) → marked (mark ms i) j ≡ true → (j ≡ i) ⊎ (marked ms j ≡ true)
mark_only ms i j h = go (ℕ_discrete j i)
  where
    go : Dec (j ≡ i) → (j ≡ i) ⊎ (marked ms j ≡ true)
    go (yes e) = inl e
    go (no n) = inr (sym (mark_other ms i j n) ∙ h)

pub mark_length : (ms : List Bool) (i : ℕ) → length (mark ms i) ≡ length ms
mark_length ms i = length-set ms i true

-- ── one mark, if a test passes ──
pub if_keeps : (b : Bool) (ms : List Bool) (i j : ℕ) → marked ms j ≡ true → marked (mark_if b ms i) j ≡ true
if_keeps true ms i j h = mark_keeps ms i j h
if_keeps false ms i j h = h

pub if_only : (b : Bool) (ms : List Bool) (i j : ℕ) → marked (mark_if b ms i) j ≡ true → ((b ≡ true) × (j ≡ i)) ⊎ (marked ms j ≡ true)
if_only true ms i j h = elim (mark_only ms i j h) [ inl e ↦ inl (refl, e) | inr m ↦ inr m ]
if_only false ms i j h = inr h

pub if_here : (b : Bool) (ms : List Bool) (i : ℕ) → b ≡ true → i < length ms → marked (mark_if b ms i) i ≡ true
if_here true ms i e l = mark_here ms i l
if_here false ms i e l = absurd (false≢true e)

pub if_other : (b : Bool) (ms : List Bool) (i j : ℕ) → j ≢ i → marked (mark_if b ms i) j ≡ marked ms j
if_other true ms i j n = mark_other ms i j n
if_other false ms i j n = refl

pub if_length : (b : Bool) (ms : List Bool) (i : ℕ) → length (mark_if b ms i) ≡ length ms
if_length true ms i = mark_length ms i
if_length false ms i = refl

-- ── a pass upwards over n records: G i does the turns from i on ──
module _ (n : ℕ) (step : ℕ → List Bool → List Bool) (G : ℕ → List Bool → List Bool)
    (turn : (i : ℕ) (ms : List Bool) → i < n → G i ms ≡ G (i + 1) (step i ms))
    (done : (i : ℕ) (ms : List Bool) → n ≤ i → G i ms ≡ ms)
    (grows : (i : ℕ) (ms : List Bool) (j : ℕ) → marked ms j ≡ true → marked (step i ms) j ≡ true)
    (long : (i : ℕ) (ms : List Bool) → length (step i ms) ≡ length ms) where
  -- marks stay
  pub keeps : (d i : ℕ) → i + d ≡ n → (ms : List Bool) (j : ℕ) → marked ms j ≡ true → marked (G i ms) j ≡ true
  keeps zero i e ms j h = ap (λ (xs : List Bool). marked xs j) (done i ms (omega arith)) ∙ h
  keeps (suc d) i e ms j h =
      ap (λ (xs : List Bool). marked xs j) (turn i ms (omega arith)) ∙ keeps d (i + 1) (omega arith) (step i ms) j (grows i ms j h)

  pub lengths : (d i : ℕ) → i + d ≡ n → (ms : List Bool) → length (G i ms) ≡ length ms
  lengths zero i e ms = ap length (done i ms (omega arith))
  lengths (suc d) i e ms = ap length (turn i ms (omega arith)) ∙ lengths d (i + 1) (omega arith) (step i ms) ∙ long i ms

  -- if only numbers with P are marked, and each turn keeps that, then so it is at the end
  pub only : (P : ℕ → Type 0)
      → ((i : ℕ) → i < n → (ms : List Bool) → ((j : ℕ) → marked ms j ≡ true → P j) → (j : ℕ) → marked (step i ms) j ≡ true → P j)
      → (d i : ℕ) → i + d ≡ n → (ms : List Bool) → ((j : ℕ) → marked ms j ≡ true → P j) → (j : ℕ) → marked (G i ms) j ≡ true → P j
  only P s zero i e ms p j h = p j (sym (ap (λ (xs : List Bool). marked xs j) (done i ms (omega arith))) ∙ h)
  only P s (suc d) i e ms p j h =
      only P s d (i + 1) (omega arith) (step i ms) (s i (omega arith) ms p) j
      (sym (ap (λ (xs : List Bool). marked xs j) (turn i ms (omega arith))) ∙ h)

  -- the marks before turn i
  state : (s k i : ℕ) → k + s ≡ i → i < n → (ms : List Bool) → (now : List Bool) × (G k ms ≡ G i now) × (length now ≡ length ms)
  state zero k i e l ms = (ms, ap (λ (j : ℕ). G j ms) (let z : k ≡ i = omega arith in z), refl)
  state (suc s) k i e l ms =
      let r = state s (k + 1) i (omega arith) l (step k ms) in
      (r.0, turn k ms (omega arith) ∙ r.1, r.2 ∙ long k ms)

  -- what turn i marks is marked at the end
  pub lands : (i j : ℕ) → i < n → (ms : List Bool)
      → ((now : List Bool) → G 0 ms ≡ G i now → length now ≡ length ms → marked (step i now) j ≡ true) → marked (G 0 ms) j ≡ true
  lands i j l ms f =
      let r = state i 0 i (omega arith) l ms in
      ap (λ (xs : List Bool). marked xs j) (r.1 ∙ turn i r.0 l)
      ∙ upto (i + 1) (omega arith) (step i r.0) (f r.0 r.1 r.2)
    where
      rest : (k : ℕ) → k ≤ n → (d : ℕ) × (k + d ≡ n)
      rest k h = (n - k, omega arith)

      upto : (k : ℕ) → k ≤ n → (xs : List Bool) → marked xs j ≡ true → marked (G k xs) j ≡ true
      upto k h xs m = keeps (rest k h).0 k (rest k h).1 xs j m

  -- numbers below k stay as they are from turn k on, if turn i changes none below i
  pub settled : ((i : ℕ) (ms : List Bool) (j : ℕ) → j < i → marked (step i ms) j ≡ marked ms j)
      → (d k : ℕ) → k + d ≡ n → (ms : List Bool) (j : ℕ) → j < k → marked (G k ms) j ≡ marked ms j
  settled s zero k e ms j l = ap (λ (xs : List Bool). marked xs j) (done k ms (omega arith))
  settled s (suc d) k e ms j l =
      ap (λ (xs : List Bool). marked xs j) (turn k ms (omega arith)) ∙ settled s d (k + 1) (omega arith) (step k ms) j (omega arith)
      ∙ s k ms j l

-- ── what is covered by ranges and through parts ──
module _ (rs : List FormulaRecord) where
  abbrev pub at : ℕ → FormulaRecord
  at i = get_or rs i no_record

  module _ (h : FormulaRecord) where
    abbrev range_step : ℕ → List Bool → List Bool
    range_step i ms = mark_if (covers_range h (at i)) ms i

    abbrev range_rest : ℕ → List Bool → List Bool
    range_rest i ms = range_from h (drop i rs) i ms

    range_done : (i : ℕ) (ms : List Bool) → length rs ≤ i → range_rest i ms ≡ ms
    range_done i ms l = at_drop_all (λ (xs : List FormulaRecord). range_from h xs i ms) rs i l

    range_next : (i : ℕ) (ms : List Bool) → i < length rs → range_rest i ms ≡ range_rest (i + 1) (range_step i ms)
    range_next i ms l = range_turn rs i no_record l h ms

    range_grows : (i : ℕ) (ms : List Bool) (j : ℕ) → marked ms j ≡ true → marked (range_step i ms) j ≡ true
    range_grows i ms j m = if_keeps (covers_range h (at i)) ms i j m

    range_long : (i : ℕ) (ms : List Bool) → length (range_step i ms) ≡ length ms
    range_long i ms = if_length (covers_range h (at i)) ms i

    pub range_keeps : (ms : List Bool) (j : ℕ) → marked ms j ≡ true → marked (range_from h rs 0 ms) j ≡ true
    range_keeps = keeps (length rs) range_step range_rest range_next range_done range_grows range_long (length rs) 0 (omega arith)

    pub range_length : (ms : List Bool) → length (range_from h rs 0 ms) ≡ length ms
    range_length = lengths (length rs) range_step range_rest range_next range_done range_grows range_long (length rs) 0 (omega arith)

    pub range_marks : (ms : List Bool) (i : ℕ) → i < length rs → i < length ms → covers_range h (at i) ≡ true
        → marked (range_from h rs 0 ms) i ≡ true
    range_marks ms i l m c =
        lands (length rs) range_step range_rest range_next range_done range_grows range_long i i l ms
        (λ now e n. if_here (covers_range h (at i)) now i c (omega arith))

    pub range_only : (P : ℕ → Type 0) → ((i : ℕ) → i < length rs → covers_range h (at i) ≡ true → P i)
        → (ms : List Bool) → ((j : ℕ) → marked ms j ≡ true → P j) → (j : ℕ) → marked (range_from h rs 0 ms) j ≡ true → P j
    range_only P f =
        only (length rs) range_step range_rest range_next range_done range_grows range_long P turned (length rs) 0 (omega arith)
      where
        turned : (i : ℕ) → i < length rs → (ms : List Bool) → ((j : ℕ) → marked ms j ≡ true → P j) → (j : ℕ)
            → marked (range_step i ms) j ≡ true → P j
        turned i l ms p j m = elim (if_only (covers_range h (at i)) ms i j m) [ inl w ↦ subst P (sym w.1) (f i l w.0) | inr o ↦ p j o ]

  module _ (hs : List Bool) where
    abbrev ranges_step : ℕ → List Bool → List Bool
    ranges_step i ms = range_if rs hs i (at i) ms

    abbrev ranges_rest : ℕ → List Bool → List Bool
    ranges_rest i ms = ranges_from rs hs (drop i rs) i ms

    ranges_done : (i : ℕ) (ms : List Bool) → length rs ≤ i → ranges_rest i ms ≡ ms
    ranges_done i ms l = at_drop_all (λ (xs : List FormulaRecord). ranges_from rs hs xs i ms) rs i l

    ranges_next : (i : ℕ) (ms : List Bool) → i < length rs → ranges_rest i ms ≡ ranges_rest (i + 1) (ranges_step i ms)
    ranges_next i ms l = ranges_turn rs i no_record l rs hs ms

    ranges_grows : (i : ℕ) (ms : List Bool) (j : ℕ) → marked ms j ≡ true → marked (ranges_step i ms) j ≡ true
    ranges_grows i ms j m = go (marked hs i && is_range (at i))
      where
        go : (b : Bool) → marked (cond b (range_from (at i) rs 0 ms) ms) j ≡ true
        go true = range_keeps (at i) ms j m
        go false = m

    ranges_long : (i : ℕ) (ms : List Bool) → length (ranges_step i ms) ≡ length ms
    ranges_long i ms = go (marked hs i && is_range (at i))
      where
        go : (b : Bool) → length (cond b (range_from (at i) rs 0 ms) ms) ≡ length ms
        go true = range_length (at i) ms
        go false = refl

    pub ranges_keeps : (ms : List Bool) (j : ℕ) → marked ms j ≡ true → marked (ranges_from rs hs rs 0 ms) j ≡ true
    ranges_keeps = keeps (length rs) ranges_step ranges_rest ranges_next ranges_done ranges_grows ranges_long (length rs) 0 (omega arith)

    pub ranges_length : (ms : List Bool) → length (ranges_from rs hs rs 0 ms) ≡ length ms
    ranges_length = lengths (length rs) ranges_step ranges_rest ranges_next ranges_done ranges_grows ranges_long (length rs) 0 (omega arith)

    pub ranges_marks_lem : (ms : List Bool) (j i : ℕ) → j < length rs → i < length rs → i < length ms
        → marked hs j ≡ true → is_range (at j) ≡ true → covers_range (at j) (at i) ≡ true → marked (ranges_from rs hs rs 0 ms) i ≡ true
    ranges_marks_lem ms j i l k m p q c =
        lands (length rs) ranges_step ranges_rest ranges_next ranges_done ranges_grows ranges_long j i l ms
        (λ now e n. go now (marked hs j && is_range (at j)) (and_in (marked hs j) (is_range (at j)) p q) (omega arith))
      where
        go : (now : List Bool) (b : Bool) → b ≡ true → i < length now → marked (cond b (range_from (at j) rs 0 now) now) i ≡ true
        go now true e n = range_marks (at j) now i k n c
        go now false e n = absurd (false≢true e)

    pub ranges_only : (P : ℕ → Type 0)
        → ((j i : ℕ) → j < length rs → i < length rs → marked hs j ≡ true → covers_range (at j) (at i) ≡ true → P i)
        → (ms : List Bool) → ((j : ℕ) → marked ms j ≡ true → P j) → (j : ℕ) → marked (ranges_from rs hs rs 0 ms) j ≡ true → P j
    ranges_only P f =
        only (length rs) ranges_step ranges_rest ranges_next ranges_done ranges_grows ranges_long P turned (length rs) 0 (omega arith)
      where
        turned : (i : ℕ) → i < length rs → (ms : List Bool) → ((j : ℕ) → marked ms j ≡ true → P j) → (j : ℕ)
            → marked (ranges_step i ms) j ≡ true → P j
        turned i l ms p j m = go (marked hs i && is_range (at i)) refl m
          where
            go : (b : Bool) → (marked hs i && is_range (at i)) ≡ b → marked (cond b (range_from (at i) rs 0 ms) ms) j ≡ true → P j
            go true e m = range_only (at i) P (λ k n c. f i k l n (and_out (marked hs i) (is_range (at i)) e).0 c) ms p j m
            go false e m = p j m

  module _ (everything : Bool) where
    abbrev joined_step : ℕ → List Bool → List Bool
    joined_step i ms = mark_if (follows everything (at i) ms) ms i

    abbrev joined_rest : ℕ → List Bool → List Bool
    joined_rest i ms = joined_from everything (drop i rs) i ms

    joined_done : (i : ℕ) (ms : List Bool) → length rs ≤ i → joined_rest i ms ≡ ms
    joined_done i ms l = at_drop_all (λ (xs : List FormulaRecord). joined_from everything xs i ms) rs i l

    joined_next : (i : ℕ) (ms : List Bool) → i < length rs → joined_rest i ms ≡ joined_rest (i + 1) (joined_step i ms)
    joined_next i ms l = joined_turn rs i no_record l everything ms

    joined_grows : (i : ℕ) (ms : List Bool) (j : ℕ) → marked ms j ≡ true → marked (joined_step i ms) j ≡ true
    joined_grows i ms j m = if_keeps (follows everything (at i) ms) ms i j m

    joined_long : (i : ℕ) (ms : List Bool) → length (joined_step i ms) ≡ length ms
    joined_long i ms = if_length (follows everything (at i) ms) ms i

    pub joined_keeps : (ms : List Bool) (j : ℕ) → marked ms j ≡ true → marked (joined_from everything rs 0 ms) j ≡ true
    joined_keeps = keeps (length rs) joined_step joined_rest joined_next joined_done joined_grows joined_long (length rs) 0 (omega arith)

    -- marks below i are final when record i is looked at
    pub joined_marks : (ms : List Bool) (i : ℕ) → i < length rs → i < length ms
        → ((now : List Bool) → ((j : ℕ) → j < i → marked (joined_from everything rs 0 ms) j ≡ true → marked now j ≡ true)
        → follows everything (at i) now ≡ true)
        → marked (joined_from everything rs 0 ms) i ≡ true
    joined_marks ms i l m f =
        lands (length rs) joined_step joined_rest joined_next joined_done joined_grows joined_long i i l ms
        (λ now e n. if_here (follows everything (at i) now) now i
        (f now (λ j k h. sym (final now j k) ∙ sym (ap (λ (xs : List Bool). marked xs j) e) ∙ h)) (omega arith))
      where
        final : (now : List Bool) (j : ℕ) → j < i → marked (joined_rest i now) j ≡ marked now j
        final now j k =
            settled (length rs) joined_step joined_rest joined_next joined_done joined_grows joined_long
            (λ i ms j l. if_other (follows everything (at i) ms) ms i j (λ e. omega arith)) (length rs - i) i (omega arith) now j k

    pub joined_only : (P : ℕ → Type 0)
        → ((i : ℕ) → i < length rs → (ms : List Bool) → ((j : ℕ) → marked ms j ≡ true → P j) → follows everything (at i) ms ≡ true → P i)
        → (ms : List Bool) → ((j : ℕ) → marked ms j ≡ true → P j) → (j : ℕ) → marked (joined_from everything rs 0 ms) j ≡ true → P j
    joined_only P f =
        only (length rs) joined_step joined_rest joined_next joined_done joined_grows joined_long P turned (length rs) 0 (omega arith)
      where
        turned : (i : ℕ) → i < length rs → (ms : List Bool) → ((j : ℕ) → marked ms j ≡ true → P j) → (j : ℕ)
            → marked (joined_step i ms) j ≡ true → P j
        turned i l ms p j m =
            elim (if_only (follows everything (at i) ms) ms i j m) [ inl w ↦ subst P (sym w.1) (f i l ms p w.0) | inr o ↦ p j o ]

-- ── what is held: a pass downwards ──
spread_keeps : (i : ℕ) (r : FormulaRecord) (ms : List Bool) (j : ℕ) → marked ms j ≡ true → marked (spread i r ms) j ≡ true
spread_keeps i r ms j m = go (marked ms i && is_conjunction r)
  where
    go : (b : Bool) → marked (cond b (mark (mark ms r.a) r.b) ms) j ≡ true
    go true = mark_keeps (mark ms r.a) r.b j (mark_keeps ms r.a j m)
    go false = m

spread_length : (i : ℕ) (r : FormulaRecord) (ms : List Bool) → length (spread i r ms) ≡ length ms
spread_length i r ms = go (marked ms i && is_conjunction r)
  where
    go : (b : Bool) → length (cond b (mark (mark ms r.a) r.b) ms) ≡ length ms
    go true = mark_length (mark ms r.a) r.b ∙ mark_length ms r.a
    go false = refl

-- a mark was there, or is that of a part of a marked conjunction
spread_only : (i : ℕ) (r : FormulaRecord) (ms : List Bool) (j : ℕ) → marked (spread i r ms) j ≡ true
    → (marked ms j ≡ true) ⊎ (((marked ms i ≡ true) × (r.kind ≡ 4)) × ((j ≡ r.a) ⊎ (j ≡ r.b)))
spread_only i r ms j m = go (marked ms i && is_conjunction r) refl m
  where
    go : (b : Bool) → (marked ms i && is_conjunction r) ≡ b → marked (cond b (mark (mark ms r.a) r.b) ms) j ≡ true
        → (marked ms j ≡ true) ⊎ (((marked ms i ≡ true) × (r.kind ≡ 4)) × ((j ≡ r.a) ⊎ (j ≡ r.b)))
    go true e m =
        let w = and_out (marked ms i) (is_conjunction r) e in
        let k : r.kind ≡ 4 = (eq_tells r.kind 4).0 w.1 in
        elim (mark_only (mark ms r.a) r.b j m) [
          | inl z ↦ inr ((w.0, k), inr z)
          | inr o ↦ elim (mark_only ms r.a j o) [ inl z ↦ inr ((w.0, k), inl z) | inr h ↦ inl h ]
        ]
    go false e m = inl m

spread_parts : (i : ℕ) (r : FormulaRecord) (ms : List Bool) → marked ms i ≡ true → r.kind ≡ 4 → r.a < length ms → r.b < length ms
    → (marked (spread i r ms) r.a ≡ true) × (marked (spread i r ms) r.b ≡ true)
spread_parts i r ms m k a b =
    go (marked ms i && is_conjunction r) (and_in (marked ms i) (is_conjunction r) m ((eq_tells r.kind 4).1 k))
  where
    go : (t : Bool) → t ≡ true
        → (marked (cond t (mark (mark ms r.a) r.b) ms) r.a ≡ true) ×
        (marked (cond t (mark (mark ms r.a) r.b) ms) r.b ≡ true)
    go true e = (
      mark_keeps (mark ms r.a) r.b r.a (mark_here ms r.a a),
      mark_here (mark ms r.a) r.b (omega (arith, mark_length ms r.a)),
    )
    go false e = absurd (false≢true e)

module _ (rs : List FormulaRecord) where
  abbrev held_rest : ℕ → List Bool → List Bool
  held_rest i ms = held_from (drop i rs) i ms

  held_done : (i : ℕ) (ms : List Bool) → length rs ≤ i → held_rest i ms ≡ ms
  held_done i ms l = at_drop_all (λ (xs : List FormulaRecord). held_from xs i ms) rs i l

  held_next : (i : ℕ) (ms : List Bool) → i < length rs → held_rest i ms ≡ spread i (at rs i) (held_rest (i + 1) ms)
  held_next i ms l = held_turn rs i no_record l ms

  held_length : (d i : ℕ) → i + d ≡ length rs → (ms : List Bool) → length (held_rest i ms) ≡ length ms
  held_length zero i e ms = ap length (held_done i ms (omega arith))
  held_length (suc d) i e ms =
      ap length (held_next i ms (omega arith)) ∙ spread_length i (at rs i) (held_rest (i + 1) ms) ∙ held_length d (i + 1) (omega arith) ms

  held_keeps : (d i : ℕ) → i + d ≡ length rs → (ms : List Bool) (j : ℕ) → marked ms j ≡ true → marked (held_rest i ms) j ≡ true
  held_keeps zero i e ms j m = ap (λ (xs : List Bool). marked xs j) (held_done i ms (omega arith)) ∙ m
  held_keeps (suc d) i e ms j m =
      ap (λ (xs : List Bool). marked xs j) (held_next i ms (omega arith))
      ∙ spread_keeps i (at rs i) (held_rest (i + 1) ms) j (held_keeps d (i + 1) (omega arith) ms j m)

  pub held_keep : (ms : List Bool) (j : ℕ) → marked ms j ≡ true → marked (held_from rs 0 ms) j ≡ true
  held_keep = held_keeps (length rs) 0 (omega arith)

  -- only numbers with P are marked, if P passes from a conjunction to its parts
  module _ (P : ℕ → Type 0) (down : (i : ℕ) → i < length rs → (at rs i).kind ≡ 4 → P i → P (at rs i).a × P (at rs i).b)
      (ms : List Bool) (base : (j : ℕ) → marked ms j ≡ true → P j) where
    held_limits : (d i : ℕ) → i + d ≡ length rs → (j : ℕ) → marked (held_rest i ms) j ≡ true → P j
    held_limits zero i e j m = base j (sym (ap (λ (xs : List Bool). marked xs j) (held_done i ms (omega arith))) ∙ m)
    held_limits (suc d) i e j m =
        go (held_limits d (i + 1) (omega arith))
        (spread_only i (at rs i) (held_rest (i + 1) ms) j (sym (ap (λ (xs : List Bool). marked xs j) (held_next i ms (omega arith))) ∙ m))
      where
        parts : ((k : ℕ) → marked (held_rest (i + 1) ms) k ≡ true → P k) → marked (held_rest (i + 1) ms) i ≡ true → (at rs i).kind ≡ 4
            → P (at rs i).a × P (at rs i).b
        parts ih h k = down i (omega arith) k (ih i h)

        go : ((k : ℕ) → marked (held_rest (i + 1) ms) k ≡ true → P k)
            → (marked (held_rest (i + 1) ms) j ≡ true)
            ⊎ (((marked (held_rest (i + 1) ms) i ≡ true) × ((at rs i).kind ≡ 4)) × ((j ≡ (at rs i).a) ⊎ (j ≡ (at rs i).b)))
            → P j
        go ih (inl h) = ih j h
        go ih (inr (w, inl z)) = subst P (sym z) (parts ih w.0 w.1).0
        go ih (inr (w, inr z)) = subst P (sym z) (parts ih w.0 w.1).1

    pub held_only : (j : ℕ) → marked (held_from rs 0 ms) j ≡ true → P j
    held_only = held_limits (length rs) 0 (omega arith)

  -- at the end the parts of each marked conjunction are marked, if parts stand before wholes
  module _ (before : (i : ℕ) → i < length rs → (at rs i).kind ≡ 4 → ((at rs i).a < i) × ((at rs i).b < i))
      (ms : List Bool) (enough : length rs ≤ length ms) where
    abbrev Both : ℕ → ℕ → Type 0
    Both k i = (marked (held_rest k ms) (at rs i).a ≡ true) × (marked (held_rest k ms) (at rs i).b ≡ true)

    held_closes : (d k : ℕ) → k + d ≡ length rs → (i : ℕ) → k ≤ i → i < length rs → (at rs i).kind ≡ 4
        → marked (held_rest k ms) i ≡ true → Both k i
    held_closes zero k e i g l c m = absurd (omega arith)
    held_closes (suc d) k e i g l c m = go (ℕ_discrete k i) (held_closes d (k + 1) (omega arith))
      where
        into : (j : ℕ) → marked (spread k (at rs k) (held_rest (k + 1) ms)) j ≡ true → marked (held_rest k ms) j ≡ true
        into j h = ap (λ (xs : List Bool). marked xs j) (held_next k ms (omega arith)) ∙ h

        was : marked (held_rest (k + 1) ms) i ≡ true
        was =
            elim (spread_only k (at rs k) (held_rest (k + 1) ms) i
            (sym (ap (λ (xs : List Bool). marked xs i) (held_next k ms (omega arith))) ∙ m)) [
              | inl h ↦ h
              | inr w ↦ let p = before k (omega arith) w.0.1 in
                  elim w.1 [ inl z ↦ absurd (omega (arith, p.0)) | inr z ↦ absurd (omega (arith, p.1)) ]
            ]

        here : (j : ℕ) → k ≡ j → (at rs j).kind ≡ 4 → marked (held_rest (k + 1) ms) j ≡ true → Both k j
        here j z q h =
            let K : (at rs k).kind ≡ 4 = ap (λ (n : ℕ). (at rs n).kind) z ∙ q in
            let H : marked (held_rest (k + 1) ms) k ≡ true = ap (marked (held_rest (k + 1) ms)) z ∙ h in
            let p = before k (omega arith) K in
            let n = held_length d (k + 1) (omega arith) ms in
            let b = spread_parts k (at rs k) (held_rest (k + 1) ms) H K (omega (arith, p.0)) (omega (arith, p.1)) in
            subst (λ (j : ℕ). Both k j) z (into (at rs k).a b.0, into (at rs k).b b.1)

        go : Dec (k ≡ i)
            → ((i : ℕ) → k + 1 ≤ i → i < length rs → (at rs i).kind ≡ 4 → marked (held_rest (k + 1) ms) i ≡ true → Both (k + 1) i)
            → Both k i
        go (yes z) ih = here i z c was
        go (no n) ih =
            let b = ih i (omega arith) l c was in (
              into (at rs i).a (spread_keeps k (at rs k) (held_rest (k + 1) ms) (at rs i).a b.0),
              into (at rs i).b (spread_keeps k (at rs k) (held_rest (k + 1) ms) (at rs i).b b.1),
            )

    pub held_closed : (i : ℕ) → i < length rs → (at rs i).kind ≡ 4 → marked (held_from rs 0 ms) i ≡ true
        → (marked (held_from rs 0 ms) (at rs i).a ≡ true) × (marked (held_from rs 0 ms) (at rs i).b ≡ true)
    held_closed i l c m = held_closes (length rs) 0 (omega arith) i (omega arith) l c m
