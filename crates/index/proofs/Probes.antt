-- Places from a home, and lists read and written by place.
use Rattle.std.proofs.Common.{◌≡◌, ℕ, zero, suc, ◌+◌, ◌-◌, ◌<◌, ◌≤◌, cond, ltb, ◌⊎◌, List, [], ◌∷◌, ◌++◌, length, get_or, set, Some, is_some, true, false, sym, refl, ap, ◌∙◌, subst, inl, inr, ⊎_elim, arith, length-append}
use Rattle.std.specs.Coded.{le_prop}
use Rattle.std.specs.List.{slice_get, range_with_len}
use Rattle.std.specs.Iterator.Adapters.{chain_first, chain_second, chain_first_done, chain_second_done, chain_steps}
use Rattle.std.specs.declared.iter.Chain.{Chain}
use Rattle.std.specs.declared.ops.Range.{Range}
use Rattle.std.proofs.iter.Yields.{nat_range_steps}
use Rattle.std.proofs.lemmas.Iterator.{YieldsList, YieldsList-from_range}
use Rattle.std.proofs.lemmas.Iterator.Consumers.{YieldsList-from_chain}
use Rattle.std.proofs.lemmas.List.{get_or_append_left, get_or-append_right}
use Rattle.std.proofs.lemmas.List.FromFn.{length-range_with_len, get_or-range_with_len}
use Rattle.std.proofs.lemmas.Option.{same_Some}
use Rattle.std.proofs.Math.Decide.{dec_lt}
use Rattle.index.specs.declared.entry.Entry.{Entry}
use Rattle.index.specs.declared.Slot.{Slot}
use Rattle.index.specs.Keyed.{Along, place, slot_of, slot_under, free_slot, Held, HoldsOther}

pub place_lt : (n h d : ℕ) → h < n → d < n → place n h d < n
place_lt n h d hn dn = grind (arith, place)

-- the places in the order in which a walk from the home h tries them
abbrev pub order : ℕ → ℕ → List ℕ
order n h = range_with_len h (n - h) ++ range_with_len 0 h

pub order_length : (n h : ℕ) → h < n → length (order n h) ≡ n
order_length n h lt =
    length-append (range_with_len h (n - h)) (range_with_len 0 h)
    ∙ omega (arith, length-range_with_len h (n - h), length-range_with_len 0 h)

pub order_at : (n h d x : ℕ) → h < n → d < n → get_or (order n h) d x ≡ place n h d
order_at n h d x lt dn = ⊎_elim before after (split d (n - h))
  where
    split : (a b : ℕ) → (a < b) ⊎ (b ≤ a)
    split a b = grind arith

    first : d < n - h → h + d ≡ place n h d
    first l = grind (arith, place)

    second : n - h ≤ d → 0 + (d - (n - h)) ≡ place n h d
    second l = grind (arith, place)

    before : d < n - h → get_or (order n h) d x ≡ place n h d
    before l =
        get_or_append_left (range_with_len h (n - h)) (range_with_len 0 h) x d (omega (arith, l, length-range_with_len h (n - h)))
        ∙ get_or-range_with_len h (n - h) d x l
        ∙ first l

    after : n - h ≤ d → get_or (order n h) d x ≡ place n h d
    after l =
        get_or-append_right (range_with_len h (n - h)) (range_with_len 0 h) (n - h) d x (length-range_with_len h (n - h)) l
        ∙ get_or-range_with_len 0 h (d - (n - h)) x (omega (arith, l, lt, dn))
        ∙ second l

pub order_within : (n h d x : ℕ) → h < n → d < length (order n h) → x ≡ get_or (order n h) d x → x < n
order_within n h d x lt l e =
    let dn : d < n = omega (arith, l, order_length n h lt) in
    omega (arith, e, order_at n h d x lt dn, place_lt n h d lt dn)

-- how far the place j is from the home h
pub back : ℕ → ℕ → ℕ → ℕ
back n h j = cond (ltb j h) (j + n - h) (j - h)

pub back_lt : (n h j : ℕ) → h < n → j < n → back n h j < n
unfolding back
back_lt n h j hn jn = grind (arith, back)

pub back_place : (n h j : ℕ) → h < n → j < n → place n h (back n h j) ≡ j
unfolding back
back_place n h j hn jn = grind (arith, back, place)

pub three : (a b : ℕ) → (a < b) ⊎ ((a ≡ b) ⊎ (b < a))
three a b = grind arith

-- one place holds one element
pub nth_one : {A : Type 0} (xs : List A) (i j : ℕ) (x y : A) → i ≡ j → slice_get xs i ≡ Some x → slice_get xs j ≡ Some y → x ≡ y
nth_one xs i j x y e a b = let s : Some x ≡ Some y = sym a ∙ ap (slice_get xs) e ∙ b in cc

-- the same of two places that are equally far from one home
pub same_place
    : {A : Type 0} (xs : List A) (h d e : ℕ) (x y : A)
    → d ≡ e
    → slice_get xs (place (length xs) h d) ≡ Some x
    → slice_get xs (place (length xs) h e) ≡ Some y
    → x ≡ y
same_place xs h d e x y q a b = nth_one xs (place (length xs) h d) (place (length xs) h e) x y (ap (place (length xs) h) q) a b

pub nth_set_same : {A : Type 0} (xs : List A) (j : ℕ) (v : A) → j < length xs → slice_get (set xs j v) j ≡ Some v
nth_set_same [] j v h = absurd (omega arith)
nth_set_same (x ∷ xs) zero v h = refl
nth_set_same (x ∷ xs) (suc j) v h = nth_set_same xs j v (omega arith)

pub nth_set_other : {A : Type 0} (xs : List A) (j i : ℕ) (v : A) → (i ≡ j → ⊥) → slice_get (set xs j v) i ≡ slice_get xs i
nth_set_other [] zero i v ne = refl
nth_set_other [] (suc j) i v ne = refl
nth_set_other (x ∷ xs) zero zero v ne = absurd (ne refl)
nth_set_other (x ∷ xs) zero (suc i) v ne = refl
nth_set_other (x ∷ xs) (suc j) zero v ne = refl
nth_set_other (x ∷ xs) (suc j) (suc i) v ne = nth_set_other xs j i v (λ e. ne (ap suc e))

pub nth_append_left : {A : Type 0} (xs ys : List A) (i : ℕ) (x : A) → slice_get xs i ≡ Some x → slice_get (xs ++ ys) i ≡ Some x
nth_append_left [] ys i x e = cc
nth_append_left (y ∷ xs) ys zero x e = e
nth_append_left (y ∷ xs) ys (suc i) x e = nth_append_left xs ys i x e

pub nth_append_at : {A : Type 0} (xs : List A) (x : A) → slice_get (xs ++ x ∷ []) (length xs) ≡ Some x
nth_append_at [] x = refl
nth_append_at (y ∷ xs) x = nth_append_at xs x

pub nth_append_cases
    : {A : Type 0} (xs : List A) (x y : A) (i : ℕ)
    → slice_get (xs ++ x ∷ []) i ≡ Some y
    → (slice_get xs i ≡ Some y) ⊎ ((i ≡ length xs) × (x ≡ y))
nth_append_cases [] x y zero e = inr (refl, cc)
nth_append_cases [] x y (suc i) e = inl (cc)
nth_append_cases (z ∷ xs) x y zero e = inl e
nth_append_cases (z ∷ xs) x y (suc i) e =
    ⊎_elim (λ l. inl l) (λ r. inr (ap suc r.0, r.1)) (nth_append_cases xs x y i e)

-- a slot that holds a key is no free slot
pub free_not_held : (K : Type 0) → Held (free_slot {K = K}) → ⊥
free_not_held K h = let e : false ≡ true = h in absurd (cc)

-- the slot of a number that a key has holds the key with the number
pub slot_is
    : {K : Type 0} (k : K) (i : ℕ) (small : i < 65535)
    → slot_of k i ≡ record { held = Some (record { key = k; number = i; numbered = small }) }
slot_is {K} k i small = by (dec_lt i 65535)
  where
    by : (d : Dec (i < 65535)) → slot_under k i d ≡ record { held = Some (record { key = k; number = i; numbered = small }) }
    by (yes less) =
        ap (λ (p : i < 65535). record { held = Some (record { key = k; number = i; numbered = p }) }) (le_prop less small)
    by (no large) = absurd (large small)

-- the same of an entry
pub slot_entered : {K : Type 0} (x : Entry K) → record { held = Some x } ≡ slot_of x.key x.number
slot_entered x = sym (slot_is x.key x.number x.numbered)

pub slot_held : {K : Type 0} (k : K) (i : ℕ) → i < 65535 → Held (slot_of k i)
slot_held {K} k i small = ap (λ (s : Slot K). is_some s.held) (slot_is k i small)

-- and no other key
pub slot_holds : {K : Type 0} (k : K) (i : ℕ) → i < 65535 → HoldsOther k (slot_of k i) → ⊥
slot_holds k i small other = subst (HoldsOther k) (slot_is k i small) other refl

pub slots_apart : {K : Type 0} (k : K) (i : ℕ) → i < 65535 → slot_of k i ≡ free_slot → ⊥
slots_apart {K} k i small e = free_not_held K (sym (ap (λ (s : Slot K). is_some s.held) e) ∙ slot_held k i small)

-- slots that hold one key and number hold the same
pub same_slot : {K : Type 0} (k q : K) (i j : ℕ) → i < 65535 → j < 65535 → slot_of k i ≡ slot_of q j → (k ≡ q) × (i ≡ j)
same_slot {K} k q i j small less e =
    let x : Entry K = record { key = k; number = i; numbered = small } in
    let y : Entry K = record { key = q; number = j; numbered = less } in
    let same : x ≡ y = same_Some x y (ap (λ (s : Slot K). s.held) (sym (slot_is k i small) ∙ e ∙ slot_is q j less)) in
    (ap (λ (z : Entry K). z.key) same, ap (λ (z : Entry K). z.number) same)

-- a walk over the places from h to the end, and then over those before h
pub walk
    : {s : Chain (Range ℕ) (Range ℕ)} (n h : ℕ)
    → chain_first s ≡ record { start = h; end = n }
    → chain_second s ≡ record { start = 0; end = h }
    → chain_first_done s ≡ false
    → chain_second_done s ≡ false
    → YieldsList (chain_steps nat_range_steps nat_range_steps) (λ x. x) s (order n h)
walk n h first second first_done second_done =
    YieldsList-from_chain (YieldsList-from_range h n (n - h) first refl) (YieldsList-from_range 0 h h second (omega arith)) first_done second_done

-- a turn of it, after the places xs: where the next place is, from the home k
pub turned
    : (n h k : ℕ) (xs : List ℕ) (at : ℕ)
    → h < n
    → h ≡ k
    → (length xs < length (order n h)) × (at ≡ get_or (order n h) (length xs) at)
    → (length xs < n) × (at ≡ place n k (length xs)) × (at < n)
turned n h k xs at lt is turn =
    let near : length xs < n = omega (arith, turn.0, order_length n h lt) in (
      near,
      turn.1 ∙ order_at n h (length xs) at lt near ∙ ap (λ j. place n j (length xs)) is,
      order_within n h (length xs) at lt turn.0 turn.1,
    )

-- one more slot on the way
pub along_more
    : {K : Type 0} (P : Slot K → Type 0) (slots : List (Slot K)) (h d : ℕ) (s : Slot K)
    → Along P (length slots) slots h d
    → slice_get slots (place (length slots) h d) ≡ Some s
    → P s
    → Along P (length slots) slots h (d + 1)
along_more {K} P slots h d s before here p e t lt at = ⊎_elim (λ less. before e t less at) same (split e d lt)
  where
    split : (a b : ℕ) → a < b + 1 → (a < b) ⊎ (a ≡ b)
    split a b l = grind arith

    same : e ≡ d → P t
    same q = subst P (same_place slots h d e s t (sym q) here at) p
