-- A look-up: what its answer says of the list of keys, and that it has one answer.
use Rattle.std.proofs.Common.{◌≡◌, ◌≢◌, ℕ, ◌<◌, Bool, true, false, Decides, List, length, Some, None, Option, sym, refl, ap, ◌∙◌, subst, inl, inr, ⊎_elim, arith}
use Rattle.std.specs.List.{slice_get}
use Rattle.std.specs.Option.{option_map, IfSome, IsSomeAnd}
use Rattle.index.specs.declared.entry.Entry.{Entry}
use Rattle.index.specs.declared.Slot.{Slot}
use Rattle.index.specs.Keyed.{place, home, slot_of, free_slot, Passed, Reached, Indexed, NotIn, Found, Hit, FreeAt, Miss, Looked, OneLookup, Along, FreeOrHolds, StopsAt, StopsNowhere}
use Rattle.index.proofs.Probes.{slot_is, slot_holds, slots_apart, same_slot, free_not_held, three, same_place, nth_one}

-- an index that reaches the key by a slot within the passed ones is refuted
not_passed
    : {K : Type 0} (code : K → ℕ) (slots : List (Slot K)) (k : K) (d i : ℕ)
    → Passed slots (home code (length slots) k) k d
    → (r : Reached code (length slots) slots i k)
    → r.far < d
    → ⊥
not_passed code slots k d i ps r lt = slot_holds k i r.numbered (ps r.far (slot_of k i) lt r.here)

-- a key that the passed slots lack is not in the list, where the next slot is free
none_at_free
    : {K : Type 0} (code : K → ℕ) (slots : List (Slot K)) (ks : List K) (k : K) (d : ℕ)
    → Indexed code slots ks
    → Passed slots (home code (length slots) k) k d
    → FreeAt slots (home code (length slots) k) d
    → NotIn k ks
none_at_free {K} code slots ks k d ix ps f i at =
    let r : Reached code (length slots) slots i k = ix.reach i k at in
    ⊎_elim (λ lt. not_passed code slots k d i ps r lt)
    (⊎_elim
    (λ (q : r.far ≡ d).
    slots_apart k i r.numbered (same_place slots (home code (length slots) k) r.far d _ _ q r.here f))
    (λ gt. free_not_held K (r.way d free_slot gt f)))
    (three r.far d)

-- nor where all slots were passed
none_at_all
    : {K : Type 0} (code : K → ℕ) (slots : List (Slot K)) (ks : List K) (k : K) (d : ℕ)
    → Indexed code slots ks
    → Passed slots (home code (length slots) k) k d
    → d ≡ length slots
    → NotIn k ks
none_at_all code slots ks k d ix ps e i at =
    let r = ix.reach i k at in
    not_passed code slots k d i ps r (omega (arith, r.near, e))

-- what the answer of a look-up says of the list of keys
pub looked_found
    : {K : Type 0} (code : K → ℕ) (slots : List (Slot K)) (k : K) (r : Option ℕ)
    → Looked code slots k r
    → (ks : List K)
    → Indexed code slots ks
    → Found ks k r
looked_found code slots k None m ks ix =
    ⊎_elim (λ e. none_at_all code slots ks k m.far ix m.way e) (λ f. none_at_free code slots ks k m.far ix m.way f) m.stop
looked_found code slots k (Some i) h ks ix = ix.sound _ i k h.numbered h.here

-- a hit and a miss exclude each other
hit_miss : {K : Type 0} (code : K → ℕ) (slots : List (Slot K)) (k : K) (i : ℕ) → Hit code slots k i → Miss code slots k → ⊥
hit_miss {K} code slots k i a m =
    ⊎_elim (λ lt. slot_holds k i a.numbered (m.way a.far (slot_of k i) lt a.here))
    (⊎_elim
    (λ (q : a.far ≡ m.far).
    ⊎_elim (λ e. omega (arith, a.near, e, q))
    (λ (f : FreeAt slots (home code (length slots) k) m.far).
    slots_apart k i a.numbered (same_place slots (home code (length slots) k) a.far m.far _ _ q a.here f))
    m.stop)
    (λ gt.
    ⊎_elim (λ e. omega (arith, a.near, e, gt)) (λ f. a.way m.far free_slot gt f) m.stop))
    (three a.far m.far)

-- two hits have one number
hit_hit : {K : Type 0} (code : K → ℕ) (slots : List (Slot K)) (k : K) (i j : ℕ) → Hit code slots k i → Hit code slots k j → i ≡ j
hit_hit {K} code slots k i j a b =
    ⊎_elim (λ lt. absurd (slot_holds k i a.numbered (b.way a.far (slot_of k i) lt a.here)))
    (⊎_elim
    (λ (q : a.far ≡ b.far).
    (same_slot k k i j a.numbered b.numbered (same_place slots (home code (length slots) k) a.far b.far _ _ q a.here b.here)).1)
    (λ gt. absurd (slot_holds k j b.numbered (a.way b.far (slot_of k j) gt b.here))))
    (three a.far b.far)

pub one_lookup : {K : Type 0} (code : K → ℕ) → OneLookup code
one_lookup code slots k None None a b = refl
one_lookup code slots k None (Some j) a b = absurd (hit_miss code slots k j b a)
one_lookup code slots k (Some i) None a b = absurd (hit_miss code slots k i a b)
one_lookup code slots k (Some i) (Some j) a b = ap Some (hit_hit code slots k i j a b)

-- a slot at which the test of a look-up gives false
other : {K : Type 0} (k : K) (o : Option (Entry K)) → Decides false (IfSome o (λ x. x.key ≡ k)) → IsSomeAnd o (λ x. x.key ≢ k)
other k None h = let e : false ≡ true = h.1 tt in absurd (cc)
other k (Some x) h = λ same. let e : false ≡ true = h.1 same in absurd (cc)

module _
    {K : Type 0} (code : K → ℕ) (Gives : Slot K → Bool → Type 0) (slots : List (Slot K)) (k : K)
    (tests : (s : Slot K) (b : Bool) → Gives s b → Decides b (FreeOrHolds k s)) where
  passed : (d : ℕ) → Along (λ s. Gives s false) (length slots) slots (home code (length slots) k) d → Passed slots (home code (length slots) k) k d
  passed d way e s lt at = other k s.held (tests s false (way e s lt at))

  -- a walk that stops nowhere has missed
  pub looked_nowhere : StopsNowhere code Gives slots k → Looked code slots k None
  looked_nowhere a = record { far = length slots; way = passed (length slots) a.way; stop = inl refl }

  -- where it stops, a free slot is a miss, and another one a hit
  pub looked_there : (p : ℕ) (s : Slot K) → StopsAt code Gives slots k p → slice_get slots p ≡ Some s → Looked code slots k (option_map (λ x. x.number) s.held)
  looked_there p s a at =
      let same : a.slot ≡ s = nth_one slots p p a.slot s refl a.here at in
      by s.held refl ((tests s true (subst (λ t. Gives t true) same a.stops)).0 refl)
    where
      there : slice_get slots (place (length slots) (home code (length slots) k) a.far) ≡ Some s
      there = ap (slice_get slots) (sym a.is) ∙ at

      by : (o : Option (Entry K)) → s.held ≡ o → IfSome o (λ x. x.key ≡ k) → Looked code slots k (option_map (λ x. x.number) o)
      by None e h = record { far = a.far; way = passed a.far a.way; stop = inr (there ∙ ap (λ (o : Option (Entry K)). Some (record { held = o })) e) }
      by (Some x) e h = record {
        far = a.far;
        numbered = x.numbered;
        near = a.near;
        way = passed a.far a.way;
        here = there
            ∙ ap (λ (o : Option (Entry K)). Some (record { held = o }))
            (e ∙ ap (λ q. Some (record { key = q; number = x.number; numbered = x.numbered })) h)
            ∙ ap Some (sym (slot_is k x.number x.numbered));
      }
