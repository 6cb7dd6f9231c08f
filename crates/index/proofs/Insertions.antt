-- A key written into the first free slot from its home, and slots that are all free.
use Rattle.std.proofs.Common.{◌≡◌, ℕ, zero, suc, ◌+◌, ◌%◌, ◌<◌, Bool, true, false, not, cond, ◌⊎◌, List, [], ◌∷◌, ◌++◌, length, get_or, set, replicate, Some, None, Option, is_some, sym, refl, ap, ◌∙◌, subst, ⊎_elim, mod-lt, arith, length-append, length-set}
use Rattle.std.specs.List.{slice_get}
use Rattle.std.proofs.lemmas.List.Sums.{sum_by-cons, sum_by-set, count_by-le-length}
use Rattle.std.proofs.lemmas.Option.{get_or_from_slice_get, slice_get_within}
use Rattle.std.proofs.lemmas.Bool.{cases_eq}
use Rattle.index.specs.declared.entry.Entry.{Entry}
use Rattle.index.specs.declared.Slot.{Slot}
use Rattle.index.specs.Keyed.{place, home, slot_of, free_slot, Held, AllHeld, filled, Reached, Indexed, VacantAt, Inserted, Extends, OneInsertion, Along, StopsAt, StopsNowhere}
use Rattle.index.proofs.Probes.{slot_held, slots_apart, same_slot, free_not_held, three, back, back_lt, back_place, nth_one, nth_set_same, nth_set_other, nth_append_left, nth_append_at, nth_append_cases}

-- the number of filled slots, one more
filled_set
    : {K : Type 0} (slots : List (Slot K)) (p : ℕ) (v : Slot K)
    → slice_get slots p ≡ Some free_slot
    → Held v
    → filled (set slots p v) ≡ filled slots + 1
filled_set {K} slots p v e h =
    let f : Slot K → ℕ = λ s. cond (is_some s.held) 1 0 in
    let was : f (get_or slots p free_slot) ≡ 0 = ap f (get_or_from_slice_get slots p free_slot free_slot e) in
    let one : f v ≡ 1 = ap (λ b. cond {A = ℕ} b 1 0) h in
    omega (arith, was, one, sum_by-set f slots p v free_slot (slice_get_within slots p free_slot e))

filled_all
    : {K : Type 0} (slots : List (Slot K))
    → ((j : ℕ) (s : Slot K) → slice_get slots j ≡ Some s → Held s)
    → filled slots ≡ length slots
filled_all [] h = refl
filled_all {K} (x ∷ xs) h =
    let f : Slot K → ℕ = λ s. cond (is_some s.held) 1 0 in
    let one : f x ≡ 1 = ap (λ b. cond {A = ℕ} b 1 0) (h 0 x refl) in
    omega (arith, one, sum_by-cons f x xs, filled_all xs (λ j s e. h (suc j) s e))

-- a free slot: not all are filled
filled_lt : {K : Type 0} (slots : List (Slot K)) (p : ℕ) → slice_get slots p ≡ Some free_slot → (k : K) → filled slots < length slots
filled_lt {K} slots p e k =
    let v : Slot K = slot_of k 0 in
    let more : filled (set slots p v) ≡ filled slots + 1 = filled_set slots p v e (slot_held k 0 (omega arith)) in
    omega (arith, more, count_by-le-length (λ (s : Slot K). is_some s.held) (set slots p v), length-set slots p v)

-- all places from a home held: as many as there are
pub all_full
    : {K : Type 0} (slots : List (Slot K)) (h : ℕ)
    → h < length slots
    → AllHeld (length slots) slots h (length slots)
    → filled slots ≡ length slots
all_full {K} slots h hn all =
    filled_all slots
    (λ j s e.
    let jn : j < length slots = slice_get_within slots j s e in
    all (back (length slots) h j) s (back_lt (length slots) h j hn jn) (ap (slice_get slots) (back_place (length slots) h j hn jn) ∙ e))

-- what is held stays held, under a write of a held slot
kept_held
    : {K : Type 0} (slots : List (Slot K)) (p : ℕ) (v : Slot K) (j : ℕ)
    → Held v
    → ((s : Slot K) → slice_get slots j ≡ Some s → Held s)
    → (s : Slot K)
    → slice_get (set slots p v) j ≡ Some s
    → Held s
kept_held {K} slots p v j hv old s e =
    ⊎_elim
    (λ (q : j ≡ p).
    let lt : p < length slots = omega (arith, q, slice_get_within (set slots p v) j s e, length-set slots p v) in
    let is : v ≡ s = nth_one (set slots p v) p j v s (sym q) (nth_set_same slots p v lt) e in
    subst (λ (x : Slot K). Held x) is hv)
    (λ ne. old s (sym (nth_set_other slots p j v ne) ∙ e))
    (cases_eq j p)

-- the way to a key that was there stays
reach_kept
    : {K : Type 0} (code : K → ℕ) (n : ℕ) (slots : List (Slot K)) (p : ℕ) (v : Slot K) (i : ℕ) (k : K)
    → Held v
    → slice_get slots p ≡ Some free_slot
    → Reached code n slots i k
    → Reached code n (set slots p v) i k
reach_kept {K} code n slots p v i k hv free r =
    record {
      far = r.far;
      numbered = r.numbered;
      near = r.near;
      here = nth_set_other slots p (place n (code k % n) r.far) v apart ∙ r.here;
      way = λ e t lt at. kept_held slots p v (place n (code k % n) e) hv (λ u q. r.way e u lt q) t at;
    }
  where
    apart : place n (code k % n) r.far ≡ p → ⊥
    apart q = slots_apart k i r.numbered (nth_one slots (place n (code k % n) r.far) p (slot_of k i) free_slot q r.here free)

pub entered
    : {K : Type 0} (code : K → ℕ) (slots : List (Slot K)) (ks : List K) (k : K) (p m : ℕ)
    → VacantAt code slots k p
    → Indexed code slots ks
    → m ≡ length ks
    → m + 1 < 65535
    → Indexed code (set slots p (slot_of k m)) (ks ++ k ∷ [])
entered {K} code slots ks k p m va ix is few =
    record {
      few = simp length-append (omega (arith, is, few));
      count = filled_set slots p (slot_of k m) va.here held ∙ simp length-append (omega (arith, ix.count));
      sound = sound';
      reach = λ i q at.
          subst (λ n. Reached code n (set slots p (slot_of k m)) i q) (sym (length-set slots p (slot_of k m)))
          (⊎_elim
          (λ old. reach_kept code (length slots) slots p (slot_of k m) i q held va.here (ix.reach i q old))
          (λ new. subst (λ (x : K). Reached code (length slots) (set slots p (slot_of k m)) i x) new.1 (newly i new.0))
          (nth_append_cases ks k q i at));
    }
  where
    small : m < 65535
    small = omega (arith, few)

    held : Held (slot_of k m)
    held = slot_held k m small

    within : p < length slots
    within = slice_get_within slots p free_slot va.here

    newly : (i : ℕ) → i ≡ length ks → Reached code (length slots) (set slots p (slot_of k m)) i k
    newly i e =
        record {
          far = va.far;
          numbered = omega (arith, e, is, few);
          near = va.near;
          here = ap (slice_get (set slots p (slot_of k m))) (sym va.is) ∙ nth_set_same slots p (slot_of k m) within
              ∙ ap (λ j. Some (slot_of k j)) (is ∙ sym e);
          way = λ d t lt at. kept_held slots p (slot_of k m) (place (length slots) (code k % length slots) d) held (λ u q. va.way d u lt q) t at;
        }

    sound' : (j i : ℕ) (q : K) → i < 65535 → slice_get (set slots p (slot_of k m)) j ≡ Some (slot_of q i) → slice_get (ks ++ k ∷ []) i ≡ Some q
    sound' j i q less at =
        ⊎_elim
        (λ (e : j ≡ p).
        let same = same_slot k q m i small less
        (nth_one (set slots p (slot_of k m)) p j (slot_of k m) (slot_of q i) (sym e) (nth_set_same slots p (slot_of k m) within) at) in
        ap (slice_get (ks ++ k ∷ [])) (sym same.1 ∙ is) ∙ nth_append_at ks k ∙ ap Some same.0)
        (λ ne. nth_append_left ks (k ∷ []) i q (ix.sound j i q less (sym (nth_set_other slots p j (slot_of k m) ne) ∙ at)))
        (cases_eq j p)

-- an insertion of the next number extends the list of keys
pub inserted_indexed
    : {K : Type 0} (code : K → ℕ) (slots : List (Slot K)) (k : K) (m : ℕ) (r : Bool) (after : List (Slot K))
    → Inserted code slots k m r after
    → Extends code slots k m r after
inserted_indexed {K} code slots k m true after i ks ix is few room =
    (refl, subst (λ (x : List (Slot K)). Indexed code x (ks ++ k ∷ [])) (sym i.2) (entered code slots ks k i.0 m i.1 ix is few))
inserted_indexed code slots k m false after i ks ix is few room = absurd (omega (arith, i.0, ix.count, is, room))

-- where every slot holds a key, an insertion changes nothing
pub inserted_full
    : {K : Type 0} (code : K → ℕ) (slots : List (Slot K)) (k : K) (m : ℕ) (r : Bool) (after : List (Slot K))
    → Inserted code slots k m r after
    → filled slots ≡ length slots
    → (r ≡ false) × (after ≡ slots)
inserted_full code slots k m true after i full = absurd (omega (arith, full, filled_lt slots i.0 i.1.here k))
inserted_full code slots k m false after i full = (refl, i.1)

-- the slots are as many as before
pub inserted_length
    : {K : Type 0} (code : K → ℕ) (slots : List (Slot K)) (k : K) (m : ℕ) (r : Bool) (after : List (Slot K))
    → Inserted code slots k m r after
    → length after ≡ length slots
inserted_length code slots k m true after i = ap length i.2 ∙ length-set slots i.0 (slot_of k m)
inserted_length code slots k m false after i = ap length i.1

-- there is one first free place
one_vacant : {K : Type 0} (code : K → ℕ) (slots : List (Slot K)) (k : K) (p q : ℕ) → VacantAt code slots k p → VacantAt code slots k q → p ≡ q
one_vacant {K} code slots k p q a b =
    ⊎_elim (λ lt. absurd (free_not_held K (b.way a.far free_slot lt (ap (slice_get slots) (sym a.is) ∙ a.here))))
    (⊎_elim (λ (e : a.far ≡ b.far). a.is ∙ ap (place (length slots) (home code (length slots) k)) e ∙ sym b.is)
    (λ gt. absurd (free_not_held K (a.way b.far free_slot gt (ap (slice_get slots) (sym b.is) ∙ b.here)))))
    (three a.far b.far)

pub one_insertion : {K : Type 0} (code : K → ℕ) → OneInsertion code
one_insertion code slots k m true true after other a b =
    (refl, a.2 ∙ ap (λ p. set slots p (slot_of k m)) (one_vacant code slots k a.0 b.0 a.1 b.1) ∙ sym b.2)
one_insertion code slots k m true false after other a b = absurd (omega (arith, b.0, filled_lt slots a.0 a.1.here k))
one_insertion code slots k m false true after other a b = absurd (omega (arith, a.0, filled_lt slots b.0 b.1.here k))
one_insertion code slots k m false false after other a b = (refl, a.1 ∙ sym b.1)

-- slots that are all free
filled_freed : (K : Type 0) (n : ℕ) → filled (replicate n (free_slot {K = K})) ≡ 0
filled_freed K zero = refl
filled_freed K (suc n) = filled_freed K n

freed_free : {K : Type 0} (n j : ℕ) (s : Slot K) → slice_get (replicate n free_slot) j ≡ Some s → s ≡ free_slot
freed_free zero j s e = cc
freed_free (suc n) zero s e = cc
freed_free (suc n) (suc j) s e = freed_free n j s e

pub freed_indexed : {K : Type 0} (code : K → ℕ) (n : ℕ) → Indexed code (replicate n free_slot) []
freed_indexed {K} code n =
    record {
      few = omega arith;
      count = filled_freed K n;
      sound = λ j i k small at. absurd (slots_apart k i small (freed_free n j (slot_of k i) at));
      reach = λ i k at. absurd (omega (arith, slice_get_within [] i k at));
    }

free_is : {K : Type 0} (s : Slot K) → is_some s.held ≡ false → s ≡ free_slot
free_is {K} s e = ap (λ (o : Option (Entry K)). record { held = o }) (none s.held e)
  where
    none : (o : Option (Entry K)) → is_some o ≡ false → o ≡ None
    none None h = refl
    none (Some x) h = cc

module _
    {K : Type 0} (code : K → ℕ) (Gives : Slot K → Bool → Type 0) (slots : List (Slot K)) (k : K)
    (tests : (s : Slot K) (b : Bool) → Gives s b → is_some s.held ≡ not b) where
  held : (d : ℕ) → Along (λ s. Gives s false) (length slots) slots (home code (length slots) k) d → AllHeld (length slots) slots (home code (length slots) k) d
  held d way e s lt at = tests s false (way e s lt at)

  -- a walk to a free slot stops at the first, or every slot holds a key
  pub vacant_there : (p : ℕ) → StopsAt code Gives slots k p → VacantAt code slots k p
  vacant_there p a = record {
    far = a.far;
    near = a.near;
    is = a.is;
    here = a.here ∙ ap Some (free_is a.slot (tests a.slot true a.stops));
    way = held a.far a.way;
  }

  pub vacant_nowhere : StopsNowhere code Gives slots k → filled slots ≡ length slots
  vacant_nowhere a = ⊎_elim none (λ some. all_full slots (home code (length slots) k) (mod-lt (code k) some) (held (length slots) a.way)) (empty (length slots))
    where
      empty : (n : ℕ) → (n ≡ 0) ⊎ (0 < n)
      empty n = grind arith

      none : length slots ≡ 0 → filled slots ≡ length slots
      none e = omega (arith, e, count_by-le-length (λ (s : Slot K). is_some s.held) slots)
