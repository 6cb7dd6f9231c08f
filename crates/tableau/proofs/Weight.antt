-- Formulas in normal form of bounded weight: closed under parts and rests, and finitely many.
use Rattle.std.proofs.Common.{◌≡◌, ℕ, zero, suc, ◌+◌, ◌≤◌, max, Bool, true, false, ◌⊎◌, List, [], ◌∷◌, ◌++◌, sym, refl, subst, inl, inr, arith}
use native.Mathlib.Decide.{dec_le, dec_lt}
use Rattle.temporal.specs.Formula.{Formula, bot, top, lit, conj, disj, next, always, eventually, Kind, is_bot, is_top, other, kind}
use Rattle.temporal.specs.Formula.{conjoin_by, disjoin_by, conjoin, disjoin, constant, Reading, rest, Numbered, Fine}
use Rattle.temporal.specs.Parts.{◌∈◌, first, later, IsPart}
use Rattle.temporal.proofs.Lists.{in_left, in_right, in_append, one_member}
use Rattle.tableau.specs.Lists.{concat_map}
use Rattle.tableau.specs.Met.{met}
use Rattle.tableau.proofs.Positions.{list, list_has}

abbrev pub weight : Formula → ℕ
weight bot = 0
weight top = 0
weight (lit s i) = 0
weight (conj f g) = suc (max (weight f) (weight g))
weight (disj f g) = suc (max (weight f) (weight g))
weight (next n f) = n + weight f
weight (always n m f) = suc m + weight f
weight (eventually n m f) = suc m + weight f

module _ (ne ns : ℕ) where
  -- in normal form and of weight at most w
  abbrev pub Light : ℕ → Formula → Type 0
  Light w f = Fine ne ns f × (weight f ≤ w)

  conjoin_light : (w : ℕ) (f g : Formula) → Light w f → Light w g
      → (kind f ≡ other → kind g ≡ other → suc (max (weight f) (weight g)) ≤ w) → Light w (conjoin f g)
  conjoin_light w f g p q h = go (kind f) (kind g) refl refl
    where
      go : (k l : Kind) → kind f ≡ k → kind g ≡ l → Light w (conjoin_by k l f g)
      go is_bot l a b = (tt, omega arith)
      go is_top l a b = q
      go other is_bot a b = (tt, omega arith)
      go other is_top a b = p
      go other other a b = (((a, p.0), (b, q.0)), h a b)

  disjoin_light : (w : ℕ) (f g : Formula) → Light w f → Light w g
      → (kind f ≡ other → kind g ≡ other → suc (max (weight f) (weight g)) ≤ w) → Light w (disjoin f g)
  disjoin_light w f g p q h = go (kind f) (kind g) refl refl
    where
      go : (k l : Kind) → kind f ≡ k → kind g ≡ l → Light w (disjoin_by k l f g)
      go is_bot l a b = q
      go is_top l a b = (tt, omega arith)
      go other is_bot a b = p
      go other is_top a b = (tt, omega arith)
      go other other a b = (((a, p.0), (b, q.0)), h a b)

  -- the rest is no heavier
  rest_light : (R : Reading) (f : Formula) → Fine ne ns f → Light (weight f) (rest R f)
  rest_light R bot h = (tt, omega arith)
  rest_light R top h = (tt, omega arith)
  rest_light R (lit s i) h = go (R s i)
    where
      go : (b : Bool) → Light 0 (constant b)
      go true = (tt, omega arith)
      go false = (tt, omega arith)
  rest_light R (conj f g) h =
      let p = rest_light R f h.0.1 in let q = rest_light R g h.1.1 in
      conjoin_light (weight (conj f g)) (rest R f) (rest R g) (p.0, omega arith) (q.0, omega arith) (λ a b. omega arith)
  rest_light R (disj f g) h =
      let p = rest_light R f h.0.1 in let q = rest_light R g h.1.1 in
      disjoin_light (weight (disj f g)) (rest R f) (rest R g) (p.0, omega arith) (q.0, omega arith) (λ a b. omega arith)
  rest_light R (next zero f) h = let p = rest_light R f h.1.1 in (p.0, omega arith)
  rest_light R (next (suc zero) f) h = (h.1.1, omega arith)
  rest_light R (next (suc (suc n)) f) h = ((omega arith, h.1), omega arith)
  rest_light R (always zero zero f) h = let p = rest_light R f h.1.1 in (p.0, omega arith)
  rest_light R (always zero (suc m) f) h =
      let p = rest_light R f h.1.1 in
      conjoin_light (weight (always 0 (suc m) f)) (rest R f) (always 0 m f) (p.0, omega arith) ((omega arith, h.1), omega arith)
      (λ a b. omega arith)
  rest_light R (always (suc n) zero f) h = (tt, omega arith)
  rest_light R (always (suc n) (suc m) f) h = ((omega arith, h.1), omega arith)
  rest_light R (eventually zero zero f) h = let p = rest_light R f h.1.1 in (p.0, omega arith)
  rest_light R (eventually zero (suc m) f) h =
      let p = rest_light R f h.1.1 in
      disjoin_light (weight (eventually 0 (suc m) f)) (rest R f) (eventually 0 m f) (p.0, omega arith) ((omega arith, h.1), omega arith)
      (λ a b. omega arith)
  rest_light R (eventually (suc n) zero f) h = (tt, omega arith)
  rest_light R (eventually (suc n) (suc m) f) h = ((omega arith, h.1), omega arith)

  module _ (w : ℕ) where
    pub light_rest : (R : Reading) (f : Formula) → Light w f → Light w (rest R f)
    light_rest R f h = let p = rest_light R f h.0 in (p.0, omega arith)

    one : (f : Formula) → Light w f → (g : Formula) → g ∈ (f ∷ []) → Light w g
    one f h = one_member f (Light w) h

    -- so is what the rest wants listed, and each part
    pub light_met : (R : Reading) (f : Formula) → Light w f → (g : Formula) → g ∈ met R f → Light w g
    light_met R bot h g m = one bot h g m
    light_met R top h g m = one top h g m
    light_met R (lit s i) h g m = one (rest R (lit s i)) (light_rest R (lit s i) h) g m
    light_met R (conj f k) h g first = light_rest R (conj f k) h
    light_met R (conj f k) h g (later m) = elim (in_append (met R f) (met R k) g m)
        [ inl a ↦ light_met R f (h.0.0.1, omega arith) g a | inr b ↦ light_met R k (h.0.1.1, omega arith) g b ]
    light_met R (disj f k) h g first = light_rest R (disj f k) h
    light_met R (disj f k) h g (later m) = elim (in_append (met R f) (met R k) g m)
        [ inl a ↦ light_met R f (h.0.0.1, omega arith) g a | inr b ↦ light_met R k (h.0.1.1, omega arith) g b ]
    light_met R (next n f) h g m = one (rest R (next n f)) (light_rest R (next n f) h) g m
    light_met R (always zero zero f) h g m = light_met R f (h.0.1.1, omega arith) g m
    light_met R (always zero (suc k) f) h g first = light_rest R (always zero (suc k) f) h
    light_met R (always zero (suc k) f) h g (later first) = ((omega arith, h.0.1), omega arith)
    light_met R (always zero (suc k) f) h g (later (later m)) = light_met R f (h.0.1.1, omega arith) g m
    light_met R (always (suc n) k f) h g m = one (rest R (always (suc n) k f)) (light_rest R (always (suc n) k f) h) g m
    light_met R (eventually zero zero f) h g m = light_met R f (h.0.1.1, omega arith) g m
    light_met R (eventually zero (suc k) f) h g first = light_rest R (eventually zero (suc k) f) h
    light_met R (eventually zero (suc k) f) h g (later first) = ((omega arith, h.0.1), omega arith)
    light_met R (eventually zero (suc k) f) h g (later (later m)) = light_met R f (h.0.1.1, omega arith) g m
    light_met R (eventually (suc n) k f) h g m = one (rest R (eventually (suc n) k f)) (light_rest R (eventually (suc n) k f) h) g m

    pub light_part : (f : Formula) → Light w f → (g : Formula) → IsPart g f → Light w g
    light_part bot h g e = subst (Light w) (sym e) h
    light_part top h g e = subst (Light w) (sym e) h
    light_part (lit s i) h g e = subst (Light w) (sym e) h
    light_part (conj f k) h g (inl e) = subst (Light w) (sym e) h
    light_part (conj f k) h g (inr (inl a)) = light_part f (h.0.0.1, omega arith) g a
    light_part (conj f k) h g (inr (inr b)) = light_part k (h.0.1.1, omega arith) g b
    light_part (disj f k) h g (inl e) = subst (Light w) (sym e) h
    light_part (disj f k) h g (inr (inl a)) = light_part f (h.0.0.1, omega arith) g a
    light_part (disj f k) h g (inr (inr b)) = light_part k (h.0.1.1, omega arith) g b
    light_part (next n f) h g (inl e) = subst (Light w) (sym e) h
    light_part (next n f) h g (inr a) = light_part f (h.0.1.1, omega arith) g a
    light_part (always n k f) h g (inl e) = subst (Light w) (sym e) h
    light_part (always n k f) h g (inr a) = light_part f (h.0.1.1, omega arith) g a
    light_part (eventually n k f) h g (inl e) = subst (Light w) (sym e) h
    light_part (eventually n k f) h g (inr a) = light_part f (h.0.1.1, omega arith) g a

  -- ── lightness is decidable ──
  and_dec : {P Q : Type 0} → Dec P → Dec Q → Dec (P × Q)
  and_dec (yes p) (yes q) = yes (p, q)
  and_dec (yes p) (no n) = no (λ h. n h.1)
  and_dec (no n) q = no (λ h. n h.0)

  or_dec : {P Q : Type 0} → Dec P → Dec Q → Dec (P ⊎ Q)
  or_dec (yes p) q = yes (inl p)
  or_dec (no n) (yes q) = yes (inr q)
  or_dec (no n) (no k) = no (λ h. elim h [ inl p ↦ n p | inr q ↦ k q ])

  other_dec : (k : Kind) → Dec (k ≡ other)
  other_dec is_bot = no (λ e. let y : ◌≡◌ {A = ℕ} 0 1 = cc in omega arith)
  other_dec is_top = no (λ e. let y : ◌≡◌ {A = ℕ} 0 1 = cc in omega arith)
  other_dec other = yes refl

  part_dec : (f : Formula) → Dec (Fine ne ns f) → Dec ((kind f ≡ other) × Fine ne ns f)
  part_dec f d = and_dec (other_dec (kind f)) d

  fine_dec : (f : Formula) → Dec (Fine ne ns f)
  fine_dec bot = yes tt
  fine_dec top = yes tt
  fine_dec (lit s i) = or_dec (and_dec (dec_lt i 16) (dec_lt i ne)) (and_dec (dec_le 16 i) (dec_lt i (16 + ns)))
  fine_dec (conj f g) = and_dec (part_dec f (fine_dec f)) (part_dec g (fine_dec g))
  fine_dec (disj f g) = and_dec (part_dec f (fine_dec f)) (part_dec g (fine_dec g))
  fine_dec (next n f) = and_dec (and_dec (dec_le 1 n) (dec_le n 4095)) (part_dec f (fine_dec f))
  fine_dec (always n m f) = and_dec (and_dec (dec_le n m) (dec_le m 4095)) (part_dec f (fine_dec f))
  fine_dec (eventually n m f) = and_dec (and_dec (dec_le n m) (dec_le m 4095)) (part_dec f (fine_dec f))

  pub light_dec : (w : ℕ) (f : Formula) → Dec (Light w f)
  light_dec w f = and_dec (fine_dec f) (dec_le (weight f) w)

  -- ── a list with all light formulas, by levels ──
  in_each : {A B : Type 0} (f : A → List B) (xs : List A) (a : A) (b : B) → a ∈ xs → b ∈ f a → b ∈ concat_map f xs
  in_each f [] a b m i = elim m [ ]
  in_each f (x ∷ xs) a b first i = in_left (f a) (concat_map f xs) b i
  in_each f (x ∷ xs) a b (later m) i = in_right (f x) (concat_map f xs) b (in_each f xs a b m i)

  pairs : Formula → Formula → List Formula
  pairs f g = conj f g ∷ disj f g ∷ []

  ranges : Formula → ℕ → ℕ → List Formula
  ranges f n m = next n f ∷ always n m f ∷ eventually n m f ∷ []

  upto : ℕ → List ℕ
  upto w = list (λ k. k) (suc w)

  abbrev ranged : ℕ → Formula → List Formula
  ranged w f = concat_map (λ n. concat_map (ranges f n) (upto w)) (upto w)

  wholes : ℕ → List Formula → List Formula
  wholes w L = concat_map (λ f. concat_map (pairs f) L ++ ranged w f) L

  literals : ℕ → List Formula
  literals i = lit true i ∷ lit false i ∷ []

  pub level : ℕ → List Formula
  level zero = bot ∷ top ∷ concat_map literals (upto (16 + ne + ns))
  level (suc w) = level w ++ wholes (suc w) (level w)

  in_upto : (w n : ℕ) → n ≤ w → n ∈ upto w
  unfolding upto
  in_upto w n l = list_has (λ k. k) (suc w) n (omega arith)

  module _ (w : ℕ) (L : List Formula) (f : Formula) (i : f ∈ L) where
    in_pairs : (g h : Formula) → g ∈ L → h ∈ pairs f g → h ∈ wholes w L
    unfolding wholes
    in_pairs g h j m = in_each (λ f. concat_map (pairs f) L ++ ranged w f) L f h i
        (in_left (concat_map (pairs f) L) _ h (in_each (pairs f) L g h j m))

    in_ranges : (n m : ℕ) (h : Formula) → n ≤ w → m ≤ w → h ∈ ranges f n m → h ∈ wholes w L
    unfolding wholes
    in_ranges n m h a b j =
        in_each (λ f. concat_map (pairs f) L ++ ranged w f) L f h i (in_right (concat_map (pairs f) L) _ h
        (in_each (λ n. concat_map (ranges f n) (upto w)) (upto w) n h (in_upto w n a) (in_each (ranges f n) (upto w) m h (in_upto w m b) j)))

  level_lit : (w : ℕ) (s : Bool) (i : ℕ) → Numbered ne ns i → lit s i ∈ level w
  unfolding level literals
  level_lit zero true i h =
      later (later (in_each literals (upto (16 + ne + ns)) i (lit true i) (in_upto (16 + ne + ns) i (omega arith)) first))
  level_lit zero false i h =
      later (later (in_each literals (upto (16 + ne + ns)) i (lit false i) (in_upto (16 + ne + ns) i (omega arith)) (later first)))
  level_lit (suc w) s i h = in_left (level w) _ (lit s i) (level_lit w s i h)

  pub level_has : (w : ℕ) (f : Formula) → Light w f → f ∈ level w
  unfolding level pairs ranges
  level_has zero bot h = first
  level_has zero top h = later first
  level_has (suc w) bot h = in_left (level w) _ bot (level_has w bot (tt, omega arith))
  level_has (suc w) top h = in_left (level w) _ top (level_has w top (tt, omega arith))
  level_has zero (lit s i) h = level_lit zero s i h.0
  level_has (suc w) (lit s i) h = level_lit (suc w) s i h.0
  level_has zero (conj f g) h = absurd (omega arith)
  level_has (suc w) (conj f g) h =
      in_right (level w) _ (conj f g) (in_pairs (suc w) (level w) f (level_has w f (h.0.0.1, omega arith)) g (conj f g)
      (level_has w g (h.0.1.1, omega arith)) first)
  level_has zero (disj f g) h = absurd (omega arith)
  level_has (suc w) (disj f g) h =
      in_right (level w) _ (disj f g) (in_pairs (suc w) (level w) f (level_has w f (h.0.0.1, omega arith)) g (disj f g)
      (level_has w g (h.0.1.1, omega arith)) (later first))
  level_has zero (next n f) h = absurd (omega arith)
  level_has (suc w) (next n f) h =
      in_right (level w) _ (next n f) (in_ranges (suc w) (level w) f (level_has w f (h.0.1.1, omega arith)) n 0 (next n f)
      (omega arith) (omega arith) first)
  level_has zero (always n m f) h = absurd (omega arith)
  level_has (suc w) (always n m f) h =
      in_right (level w) _ (always n m f) (in_ranges (suc w) (level w) f (level_has w f (h.0.1.1, omega arith)) n m (always n m f)
      (omega arith) (omega arith) (later first))
  level_has zero (eventually n m f) h = absurd (omega arith)
  level_has (suc w) (eventually n m f) h =
      in_right (level w) _ (eventually n m f) (in_ranges (suc w) (level w) f (level_has w f (h.0.1.1, omega arith)) n m
      (eventually n m f) (omega arith) (omega arith) (later (later first)))
