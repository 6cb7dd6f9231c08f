-- Positions: the sublists of a list of formulas, in its order.
use Rattle.std.proofs.Common.{◌≡◌, ℕ, zero, suc, ◌<◌, ◌⊎◌, List, [], ◌∷◌, ◌++◌, map, length, get_or, sym, refl, ap, subst, inl, inr, arith}
use Rattle.temporal.specs.Formula.{Formula}
use Rattle.temporal.specs.Parts.{◌∈◌, first, later}
use Rattle.temporal.proofs.Lists.{in_left, in_right, in_append, in_map, map_in, in_cons, cast}
use Rattle.temporal.proofs.Same.{dec_member}

pub list : {A : Type 0} → (ℕ → A) → ℕ → List A
list f zero = []
list f (suc n) = f 0 ∷ list (λ k. f (suc k)) n

pub length_list : {A : Type 0} (f : ℕ → A) (n : ℕ) → length (list f n) ≡ n
unfolding list
length_list f zero = refl
length_list f (suc n) = ap suc (length_list (λ k. f (suc k)) n)

pub get_or_list : {A : Type 0} (f : ℕ → A) (n i : ℕ) (d : A) → i < n → get_or (list f n) i d ≡ f i
unfolding list
get_or_list f zero i d h = absurd (omega arith)
get_or_list f (suc n) zero d h = refl
get_or_list f (suc n) (suc i) d h = get_or_list (λ k. f (suc k)) n i d (omega arith)

pub in_list : {A : Type 0} (f : ℕ → A) (n : ℕ) (x : A) → x ∈ list f n → (i : ℕ) × (i < n) × (x ≡ f i)
unfolding list
in_list f zero x m = elim m [ ]
in_list f (suc n) x first = (0, omega arith, refl)
in_list f (suc n) x (later m) = let r = in_list (λ k. f (suc k)) n x m in (suc r.0, omega arith, r.2)

pub list_has : {A : Type 0} (f : ℕ → A) (n i : ℕ) → i < n → f i ∈ list f n
unfolding list
list_has f zero i h = absurd (omega arith)
list_has f (suc n) zero h = first
list_has f (suc n) (suc i) h = later (list_has (λ k. f (suc k)) n i (omega arith))

-- ── sublists ──
-- the first list has some members of the second, in its order
pub data Sub {A : Type 0} : List A → List A → Type 0 where
  done : Sub [] []
  keep : {x : A} {xs ys : List A} → Sub xs ys → Sub (x ∷ xs) (x ∷ ys)
  skip : {x : A} {xs ys : List A} → Sub xs ys → Sub xs (x ∷ ys)

pub sub_in : {A : Type 0} {xs ys : List A} → Sub xs ys → (x : A) → x ∈ xs → x ∈ ys
sub_in done x m = m
sub_in (keep s) x first = first
sub_in (keep s) x (later m) = later (sub_in s x m)
sub_in (skip s) x m = later (sub_in s x m)

pub none_sub : {A : Type 0} (xs : List A) → Sub [] xs
none_sub [] = done
none_sub (x ∷ xs) = skip (none_sub xs)

pub one_sub : {A : Type 0} (x : A) (xs : List A) → x ∈ xs → Sub (x ∷ []) xs
one_sub x [] m = elim m [ ]
one_sub x (y ∷ xs) first = keep (none_sub xs)
one_sub x (y ∷ xs) (later m) = skip (one_sub x xs m)

pub sublists : {A : Type 0} → List A → List (List A)
sublists [] = [] ∷ []
sublists (x ∷ xs) = map (λ ys. x ∷ ys) (sublists xs) ++ sublists xs

pub sublists_sub : {A : Type 0} (xs ys : List A) → ys ∈ sublists xs → Sub ys xs
unfolding sublists
sublists_sub [] ys first = done
sublists_sub [] ys (later m) = elim m [ ]
sublists_sub {A} (x ∷ xs) ys m = go (in_append (map (λ zs. x ∷ zs) (sublists xs)) (sublists xs) ys m) (sublists_sub xs)
  where
    go : (ys ∈ map (λ zs. x ∷ zs) (sublists xs)) ⊎ (ys ∈ sublists xs) → ((zs : List A) → zs ∈ sublists xs → Sub zs xs) → Sub ys (x ∷ xs)
    go (inl a) ih = let r = map_in (λ zs. x ∷ zs) (sublists xs) ys a in
        subst (λ (l : List A). Sub l (x ∷ xs)) (sym r.2) (keep (ih r.0 r.1))
    go (inr b) ih = skip (ih ys b)

-- the members of U that are in S
keep_if : {P : Type 0} → Dec P → Formula → List Formula → List Formula
keep_if (yes p) u L = u ∷ L
keep_if (no n) u L = L

pub sift : List Formula → List Formula → List Formula
sift S [] = []
sift S (u ∷ U) = keep_if (dec_member u S) u (sift S U)

pub sift_listed : (S U : List Formula) → sift S U ∈ sublists U
unfolding sift sublists keep_if
sift_listed S [] = first
sift_listed S (u ∷ U) = go (dec_member u S) (sift_listed S U)
  where
    go : (d : Dec (u ∈ S)) → sift S U ∈ sublists U → keep_if d u (sift S U) ∈ (map (λ ys. u ∷ ys) (sublists U) ++ sublists U)
    go (yes p) ih = in_left (map (λ ys. u ∷ ys) (sublists U)) (sublists U) (u ∷ sift S U) (in_map (λ ys. u ∷ ys) (sublists U) (sift S U) ih)
    go (no n) ih = in_right (map (λ ys. u ∷ ys) (sublists U)) (sublists U) (sift S U) ih

pub sift_in : (S U : List Formula) (h : Formula) → h ∈ sift S U → h ∈ S
unfolding sift keep_if
sift_in S [] h m = elim m [ ]
sift_in S (u ∷ U) h m = go (dec_member u S) (sift_in S U h) m
  where
    go : (d : Dec (u ∈ S)) → (h ∈ sift S U → h ∈ S) → h ∈ keep_if d u (sift S U) → h ∈ S
    go (yes p) ih m = elim (in_cons m) [ inl e ↦ cast (sym e) p | inr i ↦ ih i ]
    go (no n) ih m = ih m

pub in_sift : (S U : List Formula) (h : Formula) → h ∈ U → h ∈ S → h ∈ sift S U
unfolding sift keep_if
in_sift S [] h m i = elim m [ ]
in_sift S (u ∷ U) h first i = go (dec_member u S)
  where
    go : (d : Dec (h ∈ S)) → h ∈ keep_if d h (sift S U)
    go (yes p) = first
    go (no n) = absurd (n i)
in_sift S (u ∷ U) h (later m) i = go (dec_member u S) (in_sift S U h m i)
  where
    go : (d : Dec (u ∈ S)) → h ∈ sift S U → h ∈ keep_if d u (sift S U)
    go (yes p) ih = later ih
    go (no n) ih = ih
