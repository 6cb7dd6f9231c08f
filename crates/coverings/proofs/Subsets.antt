-- The words that a cube's valuations stand in: its values with each subset of its free variables, from the largest to the smallest.
use Rattle.std.proofs.Common.{◌≡◌, ℕ, ◌+◌, ◌-◌, ◌/◌, ◌^◌, ◌<◌, ◌≤◌, Bool, true, false, cond, ◌&&◌, ◌||◌, ltb, leb, List, length, get_or, set, sym, refl, ap, ◌∙◌, subst, inl, inr, true≢false, add_comm, arith, get_or-set_other, get_or-set_same, pow_pos, ltb-true, le-ltb, lt-ltb, eq-eqb, eqb-true, le-leb, leb-false, leb-true}
use mathlib.Core.Bool.{false≢true}
use native.Mathlib.Decide.{ℕ_discrete}
use lib.Bits.{bit_and, bit_or, and_shr, and_le_l, and_le_r, and_lt, or_lt, xor_lt}
use Rattle.std.proofs.lemmas.Nat.{shr_below}
use Rattle.std.proofs.lemmas.Bool.{cases_Bool}
use Rattle.temporal.specs.Game.{bit}
use Rattle.temporal.proofs.Truth.{both_ways}
use Rattle.tableau.proofs.Fits.{bit_and_lem}
use Rattle.coverings.specs.declared.cube.Cube.{Cube}
use Rattle.coverings.specs.Cubes.{Formed, low_word, agrees_high}
use Rattle.coverings.specs.Bitmap.{apart, join_word, free_high, Apart, Joined}
use Rattle.coverings.proofs.Bits.{differ, bit_or_lem, bit_xor_lem, by_bits, bit_low, and_twice, subset_below}

-- ── bits ──
free_in : (h l m : Bool) → (h && l) ≡ h → ((h && m) || (h && differ (l || m) m)) ≡ h
free_in true true true e = refl
free_in true true false e = refl
free_in true false m e = absurd (false≢true e)
free_in false l m e = refl

row_mask : (v t l m : Bool) → (v && m) ≡ v → (t && differ (l || m) m) ≡ t → ((v || t) && m) ≡ v
row_mask true t l m e f = e
row_mask false true true true e f = absurd (false≢true f)
row_mask false true true false e f = refl
row_mask false true false true e f = absurd (false≢true f)
row_mask false true false false e f = refl
row_mask false false l m e f = refl

row_free : (v t l m : Bool) → (v && m) ≡ v → (t && differ (l || m) m) ≡ t → ((v || t) && differ (l || m) m) ≡ t
row_free true t l false e f = absurd (false≢true e)
row_free true true l true e f = f
row_free true false true true e f = refl
row_free true false false true e f = refl
row_free false t l m e f = f

module _ (high : ℕ) (c : Cube) (formed : Formed (6 + high) c) where
  abbrev mask : ℕ
  mask = c.mask / 64

  abbrev values : ℕ
  values = c.values / 64

  abbrev free : ℕ
  free = free_high high c

  -- word of the values and a subset of the free variables
  abbrev row : ℕ → ℕ
  row t = bit_or values t

  mask_lt : mask < 2 ^ high
  mask_lt =
      shr_below c.mask high 6 (subst (λ (k : ℕ). c.mask < 2 ^ k) (add_comm 6 high) formed.below)

  values_in : bit_and values mask ≡ values
  values_in = sym (and_shr c.values c.mask 6) ∙ ap (λ (n : ℕ). n / 64) formed.inside

  values_lt : values < 2 ^ high
  values_lt =
      let e : bit_and values mask ≤ mask = and_le_r values mask in
      let d = values_in in
      omega (arith, mask_lt)

  all_lt : 2 ^ high - 1 < 2 ^ high
  all_lt = omega (arith, pow_pos high)

  free_lt : free < 2 ^ high
  free_lt = xor_lt high (bit_or (2 ^ high - 1) mask) mask (or_lt high (2 ^ high - 1) mask all_lt mask_lt) mask_lt

  bit_free : (i : ℕ) → bit free i ≡ differ (bit (2 ^ high - 1) i || bit mask i) (bit mask i)
  bit_free i =
      bit_xor_lem (bit_or (2 ^ high - 1) mask) mask i ∙ ap (λ b. differ b (bit mask i)) (bit_or_lem (2 ^ high - 1) mask i)

  bit_values : (i : ℕ) → (bit values i && bit mask i) ≡ bit values i
  bit_values i = sym (bit_and_lem values mask i) ∙ ap (λ (n : ℕ). bit n i) values_in

  bit_subset : (t : ℕ) → bit_and t free ≡ t → (i : ℕ)
      → (bit t i && differ (bit (2 ^ high - 1) i || bit mask i) (bit mask i)) ≡ bit t i
  bit_subset t s i =
      ap (λ b. bit t i && b) (sym (bit_free i)) ∙ sym (bit_and_lem t free i) ∙ ap (λ (n : ℕ). bit n i) s

  subset_lt : (t : ℕ) → bit_and t free ≡ t → t < 2 ^ high
  subset_lt t s =
      let e : bit_and t free ≤ free = and_le_r t free in
      omega (arith, free_lt)

  row_lt : (t : ℕ) → bit_and t free ≡ t → row t < 2 ^ high
  row_lt t s = or_lt high values t values_lt (subset_lt t s)

  -- what agrees is such a word
  row_of : (h : ℕ) → h < 2 ^ high → agrees_high h c ≡ true → row (bit_and h free) ≡ h
  row_of h l a =
      let e : bit_and h mask ≡ values = eqb-true (bit_and h mask) values a in
      ap (λ (v : ℕ). bit_or v (bit_and h free)) (sym e)
      ∙ by_bits high (bit_or (bit_and h mask) (bit_and h free)) h
      (or_lt high (bit_and h mask) (bit_and h free) (and_lt high h mask l mask_lt) (and_lt high h free l free_lt)) l
      (λ i p. bit_or_lem (bit_and h mask) (bit_and h free) i
      ∙ (λ j. bit_and_lem h mask i j || (bit_and_lem h free i ∙ ap (λ b. bit h i && b) (bit_free i)) j)
      ∙ free_in (bit h i) (bit (2 ^ high - 1) i) (bit mask i) (bit_low high h i l))

  -- and such a word agrees
  row_agrees : (t : ℕ) → bit_and t free ≡ t → agrees_high (row t) c ≡ true
  row_agrees t s =
      eq-eqb (bit_and (row t) mask) values
      (by_bits high (bit_and (row t) mask) values (and_lt high (row t) mask (row_lt t s) mask_lt) values_lt
      (λ i p. bit_and_lem (row t) mask i ∙ ap (λ b. b && bit mask i) (bit_or_lem values t i)
      ∙ row_mask (bit values i) (bit t i) (bit (2 ^ high - 1) i) (bit mask i) (bit_values i) (bit_subset t s i)))

  row_rest : (t : ℕ) → bit_and t free ≡ t → bit_and (row t) free ≡ t
  row_rest t s =
      by_bits high (bit_and (row t) free) t (and_lt high (row t) free (row_lt t s) free_lt) (subset_lt t s)
      (λ i p. bit_and_lem (row t) free i ∙ (λ j. bit_or_lem values t i j && bit_free i j)
      ∙ row_free (bit values i) (bit t i) (bit (2 ^ high - 1) i) (bit mask i) (bit_values i) (bit_subset t s i))

  rest_in : (h : ℕ) → bit_and (bit_and h free) free ≡ bit_and h free
  rest_in h = and_twice high h free free_lt

  -- ── the words marked so far: those of the subsets that pass a test ──
  module _ (ws : List ℕ) where
    abbrev pub Done : (ℕ → Bool) → List ℕ → Type 0
    Done p xs =
        ((h : ℕ) → h < 2 ^ high → agrees_high h c ≡ true → p (bit_and h free) ≡ true → apart (get_or ws h 0) (low_word c) ≡ true)
        × ((h : ℕ) → h < 2 ^ high
        → get_or xs h 0 ≡ cond (agrees_high h c && p (bit_and h free)) (bit_or (get_or ws h 0) (low_word c)) (get_or ws h 0))

    -- tests that say the same of all subsets
    pub done_by : (p q : ℕ → Bool) (xs : List ℕ) → ((t : ℕ) → bit_and t free ≡ t → p t ≡ q t) → Done p xs → Done q xs
    done_by p q xs e d = (
      (λ h l a r. d.0 h l a (e (bit_and h free) (rest_in h) ∙ r)),
      (λ h l. d.1 h l
          ∙ ap (λ b. cond (agrees_high h c && b) (bit_or (get_or ws h 0) (low_word c)) (get_or ws h 0)) (e (bit_and h free) (rest_in h))),
    )

    module _ (rest : ℕ) (sub : bit_and rest free ≡ rest) (xs : List ℕ) (d : Done (ltb rest) xs) where
      -- word h as it was, or with the cube's bits
      abbrev wanted : ℕ → Bool → ℕ
      wanted h b = cond b (bit_or (get_or ws h 0) (low_word c)) (get_or ws h 0)

      abbrev put : ℕ
      put = bit_or (get_or xs (row rest) 0) (low_word c)

      same_here : get_or xs (row rest) 0 ≡ get_or ws (row rest) 0
      same_here =
          let e : ltb rest (bit_and (row rest) free) ≡ false =
          le-ltb rest (bit_and (row rest) free) (omega (arith, row_rest rest sub)) in
          d.1 (row rest) (row_lt rest sub)
          ∙ go (agrees_high (row rest) c) (ltb rest (bit_and (row rest) free)) _ _ e
        where
          go : (a b : Bool) (x y : ℕ) → b ≡ false → cond (a && b) x y ≡ y
          go true b x y e = ap (λ k. cond k x y) e
          go false b x y e = refl

      -- something was marked
      pub stopped : apart (get_or xs (row rest) 0) (low_word c) ≡ false → Apart high c ws → ⊥
      stopped e a =
          true≢false (sym (a (row rest) (row_lt rest sub) (row_agrees rest sub))
          ∙ ap (λ (n : ℕ). apart n (low_word c)) (sym same_here) ∙ e)

      -- one word more
      pub done_more : 2 ^ high ≤ length xs → apart (get_or xs (row rest) 0) (low_word c) ≡ true
          → Done (leb rest) (join_word xs (row rest) (low_word c))
      done_more long e = (free_before, joined)
        where
          here : (h : ℕ) → h < 2 ^ high → agrees_high h c ≡ true → bit_and h free ≡ rest → h ≡ row rest
          here h l a r = sym (row_of h l a) ∙ ap row r

          free_before : (h : ℕ) → h < 2 ^ high → agrees_high h c ≡ true → leb rest (bit_and h free) ≡ true
              → apart (get_or ws h 0) (low_word c) ≡ true
          free_before h l a r = go (ℕ_discrete (bit_and h free) rest)
            where
              go : Dec (bit_and h free ≡ rest) → apart (get_or ws h 0) (low_word c) ≡ true
              go (yes t) =
                  ap (λ (k : ℕ). apart (get_or ws k 0) (low_word c)) (here h l a t)
                  ∙ ap (λ (n : ℕ). apart n (low_word c)) (sym same_here) ∙ e
              go (no t) = d.0 h l a (lt-ltb rest (bit_and h free) (omega (arith, leb-true rest (bit_and h free) r)))

          joined : (h : ℕ) → h < 2 ^ high
              → get_or (set xs (row rest) put) h 0 ≡ wanted h (agrees_high h c && leb rest (bit_and h free))
          joined h l = go (ℕ_discrete h (row rest))
            where
              go : Dec (h ≡ row rest) → get_or (set xs (row rest) put) h 0 ≡ wanted h (agrees_high h c && leb rest (bit_and h free))
              go (yes t) =
                  let b : leb rest (bit_and h free) ≡ true =
                  le-leb rest (bit_and h free) (omega (arith, ap (λ (k : ℕ). bit_and k free) t ∙ row_rest rest sub)) in
                  ap (λ (k : ℕ). get_or (set xs (row rest) put) k 0) t
                  ∙ get_or-set_same xs (row rest) put 0 (omega (arith, row_lt rest sub))
                  ∙ ap (λ (n : ℕ). bit_or n (low_word c)) (same_here ∙ ap (λ (k : ℕ). get_or ws k 0) (sym t))
                  ∙ ap (wanted h)
                  (sym (ap (λ b. b && leb rest (bit_and h free)) (ap (λ (k : ℕ). agrees_high k c) t ∙ row_agrees rest sub) ∙ b))
              go (no t) =
                  get_or-set_other xs (row rest) h put 0 t ∙ d.1 h l
                  ∙ ap (wanted h) (other (agrees_high h c) refl)
                where
                  other : (a : Bool) → agrees_high h c ≡ a → (a && ltb rest (bit_and h free)) ≡ (a && leb rest (bit_and h free))
                  other false q = refl
                  other true q =
                      both_ways (ltb rest (bit_and h free)) (leb rest (bit_and h free))
                      (λ z. le-leb rest (bit_and h free) (omega (arith, ltb-true rest (bit_and h free) z)))
                      (λ z. lt-ltb rest (bit_and h free) (above (leb-true rest (bit_and h free) z)))
                    where
                      above : rest ≤ bit_and h free → rest < bit_and h free
                      above z = elim (ℕ_discrete (bit_and h free) rest) [ yes k ↦ absurd (t (here h l q k)) | no k ↦ omega arith ]

    -- the next smaller subset
    pub done_next : (rest : ℕ) → bit_and rest free ≡ rest → 0 < rest → (xs : List ℕ)
        → Done (leb rest) xs → Done (ltb (bit_and (rest - 1) free)) xs
    done_next rest sub pos xs d = done_by (leb rest) (ltb (bit_and (rest - 1) free)) xs tests d
      where
        tests : (t : ℕ) → bit_and t free ≡ t → leb rest t ≡ ltb (bit_and (rest - 1) free) t
        tests t s =
            both_ways (leb rest t) (ltb (bit_and (rest - 1) free) t)
            (λ z. lt-ltb (bit_and (rest - 1) free) t (omega (arith, leb-true rest t z, and_le_l (rest - 1) free)))
            (λ z. le-leb rest t (up (ltb-true (bit_and (rest - 1) free) t z)))
          where
            up : bit_and (rest - 1) free < t → rest ≤ t
            up z = elim (cases_Bool (leb rest t)) [ inl e ↦ leb-true rest t e | inr e ↦ absurd (omega (arith, low e)) ]
              where
                low : leb rest t ≡ false → t ≤ bit_and (rest - 1) free
                low e = subset_below rest free t sub s (leb-false rest t e)

    -- nothing is left
    pub done_end : (xs : List ℕ) → Done (leb 0) xs → Apart high c ws × Joined high c ws xs
    done_end xs d = (
      (λ h l a. d.0 h l a (le-leb 0 (bit_and h free) (omega arith))),
      (λ h l. d.1 h l ∙ go (agrees_high h c) (leb 0 (bit_and h free)) _ _ (le-leb 0 (bit_and h free) (omega arith))),
    )
      where
        go : (a b : Bool) (x y : ℕ) → b ≡ true → cond (a && b) x y ≡ cond a x y
        go true b x y e = ap (λ k. cond k x y) e
        go false b x y e = refl

    -- ── a turn of the loop, by what its variables hold ──
    module _ (rest fixed left word : ℕ) (v : fixed ≡ values) (f : left ≡ free) (w : word ≡ low_word c) (s : bit_and rest left ≡ rest)
        (xs : List ℕ) (d : Done (ltb rest) xs) (r : Bool) (e : r ≡ apart (get_or xs (bit_or fixed rest) 0) word) where
      sub : bit_and rest free ≡ rest
      sub = ap (bit_and rest) (sym f) ∙ s

      told : apart (get_or xs (row rest) 0) (low_word c) ≡ r
      told = (λ j. apart (get_or xs (bit_or (sym v j) rest) 0) (sym w j)) ∙ sym e

      pub turn_stops : r ≡ false → Apart high c ws → ⊥
      turn_stops z = stopped rest sub xs d (told ∙ z)

      module _ (ys : List ℕ) (y : ys ≡ cond r (join_word xs (bit_or fixed rest) word) xs) (long : 2 ^ high ≤ length xs) (z : r ≡ true) where
        turn_marks : Done (leb rest) ys
        turn_marks =
            let q : ys ≡ join_word xs (row rest) (low_word c) =
            y ∙ ap (λ b. cond b (join_word xs (bit_or fixed rest) word) xs) z ∙ (λ j. join_word xs (bit_or (v j) rest) (w j)) in
            subst (Done (leb rest)) (sym q) (done_more rest sub xs d long (told ∙ z))

        pub turn_next : 0 < rest → Done (ltb (bit_and (rest - 1) left)) ys
        turn_next p =
            subst (λ (k : ℕ). Done (ltb (bit_and (rest - 1) k)) ys) (sym f) (done_next rest sub p ys turn_marks)

        pub turn_ends : rest ≡ 0 → Apart high c ws × Joined high c ws ys
        turn_ends p = done_end ys (subst (λ (k : ℕ). Done (leb k) ys) p turn_marks)
