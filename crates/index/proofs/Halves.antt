-- A walk from a home: the slots from the home on, and then those before it.
use Rattle.std.proofs.Common.{◌≡◌, ℕ, zero, suc, ◌+◌, ◌-◌, ◌<◌, ◌≤◌, ◌⊎◌, Bool, true, false, List, [], ◌∷◌, length, take, drop, Some, None, Option, refl, sym, ap, ◌∙◌, subst, ⊎_elim, arith, length-drop}
use Rattle.std.proofs.lemmas.List.{length-take-le}
use Rattle.std.specs.List.{slice_get}
use Rattle.index.specs.declared.Slot.{Slot}
use Rattle.index.specs.First.{NoneBefore, FirstAt}
use Rattle.index.specs.Keyed.{Along, place, home, StopsAt, Probed}

-- the slot of place e from the home on, where i is its place among all
nth_drop : {A : Type 0} (xs : List A) (h e i : ℕ) → i ≡ h + e → slice_get xs i ≡ slice_get (drop h xs) e
nth_drop xs zero e i q = ap (slice_get xs) (omega (arith, q))
nth_drop [] (suc h) e i q = refl
nth_drop (x ∷ xs) (suc h) e zero q = absurd (omega (arith, q))
nth_drop (x ∷ xs) (suc h) e (suc i) q = nth_drop xs h e i (omega (arith, q))

-- the slot of place e before the home
nth_take : {A : Type 0} (xs : List A) (h e : ℕ) → e < h → slice_get xs e ≡ slice_get (take h xs) e
nth_take xs zero e lt = absurd (omega (arith, lt))
nth_take [] (suc h) e lt = refl
nth_take (x ∷ xs) (suc h) zero lt = refl
nth_take (x ∷ xs) (suc h) (suc e) lt = nth_take xs h e (omega (arith, lt))

split : (a b : ℕ) → (a < b) ⊎ (b ≤ a)
split a b = grind arith

-- the places in these two parts
place_after : (n h e : ℕ) → h + e < n → place n h e ≡ h + e
place_after n h e lt = grind (arith, place)

place_before : (n h e : ℕ) → n ≤ h + e → place n h e ≡ h + e - n
place_before n h e le = grind (arith, place)

module _ {K : Type 0} (Gives : Slot K → Bool → Type 0) (slots : List (Slot K)) (h : ℕ) (within : h < length slots) where
  after_at : (e : ℕ) → h + e < length slots → slice_get slots (place (length slots) h e) ≡ slice_get (drop h slots) e
  after_at e lt = nth_drop slots h e (place (length slots) h e) (place_after (length slots) h e lt)

  before_at : (e i : ℕ) → i < h → length slots + i ≡ h + e → slice_get slots (place (length slots) h e) ≡ slice_get (take h slots) i
  before_at e i lt is =
      ap (slice_get slots) (place_before (length slots) h e (omega (arith, is)) ∙ omega (arith, is))
      ∙ nth_take slots h i lt

  -- the test gave false at the first d slots from the home on
  way_after : (d : ℕ) → h + d ≤ length slots → NoneBefore Gives (drop h slots) d → Along (λ s. Gives s false) (length slots) slots h d
  way_after d le none e s lt at = none e s lt (sym (after_at e (omega (arith, le, lt))) ∙ at)

  -- and then at the first p slots of all
  way_before
      : (d p : ℕ)
      → p ≤ h
      → length slots + p ≡ h + d
      → NoneBefore Gives (drop h slots) (length slots - h)
      → NoneBefore Gives (take h slots) p
      → Along (λ s. Gives s false) (length slots) slots h d
  way_before d p le is none more e s lt at = ⊎_elim first second (split (h + e) (length slots))
    where
      first : h + e < length slots → Gives s false
      first l = none e s (omega (arith, l, within)) (sym (after_at e l) ∙ at)

      second : length slots ≤ h + e → Gives s false
      second l =
          more (h + e - length slots) s (omega (arith, l, lt, is))
          (sym (before_at e (h + e - length slots) (omega (arith, l, lt, is, le)) (omega (arith, l))) ∙ at)

  module _ (code : K → ℕ) (k : K) (begun : h ≡ home code (length slots) k) where
    from_home
        : (d : ℕ)
        → Along (λ s. Gives s false) (length slots) slots h d
        → Along (λ s. Gives s false) (length slots) slots (home code (length slots) k) d
    from_home d way = subst (λ j. Along (λ s. Gives s false) (length slots) slots j d) begun way

    stops_at
        : (d p : ℕ) (s : Slot K)
        → d < length slots
        → p ≡ place (length slots) h d
        → slice_get slots p ≡ Some s
        → Gives s true
        → Along (λ s. Gives s false) (length slots) slots h d
        → StopsAt code Gives slots k p
    stops_at d p s near is here stops way =
        record {
          far = d;
          slot = s;
          near = near;
          is = is ∙ ap (λ j. place (length slots) j d) begun;
          here = here;
          stops = stops;
          way = from_home d way;
        }

    found_after : (p : ℕ) → FirstAt Gives (drop h slots) (Some p) → Probed code Gives slots k (Some (h + p))
    found_after p f =
        let near : h + p < length slots = omega (arith, f.0, length-drop h slots) in
        let is : h + p ≡ place (length slots) h p = sym (place_after (length slots) h p near) in (
          near,
          stops_at p (h + p) f.1.0 (omega (arith, near)) is (nth_drop slots h p (h + p) refl ∙ f.1.1) f.1.2
              (way_after p (omega (arith, near)) f.2),
        )

    found_before : (r : Option ℕ) → FirstAt Gives (drop h slots) None → FirstAt Gives (take h slots) r → Probed code Gives slots k r
    found_before None none more =
        record {
          way = from_home (length slots)
              (way_before (length slots) h (omega arith) (omega arith)
              (subst (NoneBefore Gives (drop h slots)) (length-drop h slots) none)
              (subst (NoneBefore Gives (take h slots)) (length-take-le h slots (omega (arith, within))) more));
        }
    found_before (Some p) none more =
        let lt : p < h = omega (arith, more.0, length-take-le h slots (omega (arith, within))) in
        let d : ℕ = length slots - h + p in
        let sum : length slots + p ≡ h + (length slots - h + p) = omega (arith, within) in
        let is : p ≡ place (length slots) h (length slots - h + p) =
        omega (arith, within, place_before (length slots) h (length slots - h + p) (omega (arith, within))) in (
          omega (arith, lt, within),
          stops_at (length slots - h + p) p more.1.0 (omega (arith, lt, within)) is (nth_take slots h p lt ∙ more.1.1) more.1.2
              (way_before (length slots - h + p) p (omega (arith, lt)) sum
              (subst (NoneBefore Gives (drop h slots)) (length-drop h slots) none) more.2),
        )

    -- where the test gives true from the home on, the walk stops there
    pub stops_after : (p : ℕ) (after : List (Slot K)) → after ≡ drop h slots → FirstAt Gives after (Some p) → Probed code Gives slots k (Some (h + p))
    stops_after p after is f = found_after p (subst (λ xs. FirstAt Gives xs (Some p)) is f)

    -- where it does not, the walk goes on before the home
    pub stops_before
        : (r : Option ℕ) (before after : List (Slot K))
        → before ≡ take h slots
        → after ≡ drop h slots
        → FirstAt Gives after None
        → FirstAt Gives before r
        → Probed code Gives slots k r
    stops_before r before after is then none f =
        found_before r (subst (λ xs. FirstAt Gives xs None) then none) (subst (λ xs. FirstAt Gives xs r) is f)
