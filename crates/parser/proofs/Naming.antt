-- Names in a list: which are there, and how many of a kind stand before one.
use Rattle.std.proofs.Common.{◌≡◌, ℕ, zero, suc, ◌+◌, ◌-◌, ◌<◌, Bool, true, false, cond, ◌≢◌, ◌⊎◌, List, [], ◌∷◌, ◌++◌, length, get_or, take, drop, set, replicate, Some, sym, refl, ap, ◌∙◌, subst, inl, inr, ⊎_elim, arith, length-take}
use mathlib.Core.Bool.{beq}
use Rattle.std.specs.List.{slice_get}
use Rattle.std.proofs.lemmas.Option.{slice_get_within}
use Rattle.std.proofs.lemmas.List.{take_more_set, drop-replicate, drop-drop, drop-set-lt, get_or-set_same, get_or-set_other}
use Rattle.std.proofs.lemmas.Bool.{cases_Bool, cond-true, cond-false}
use Rattle.index.specs.Keyed.{NotIn}
use Rattle.names.specs.declared.Name.{Name}
use Rattle.grammar.specs.Numbering.{same_name, environmental, same_kind, rank, listed, variable_of}
use Rattle.grammar.proofs.Names.{same_name_lem, name_same}
use Rattle.parser.specs.declared.table.Names.{Names}
use Rattle.parser.specs.Naming.{names_of, of_kind, Numbered, Appended, blank_name}

-- where a name is at a place of the list, and where it is at none
pub is_listed : (x : Name) (names : List Name) (i : ℕ) → slice_get names i ≡ Some x → listed x names ≡ true
is_listed x [] i e = absurd cc
is_listed x (y ∷ ys) zero e = let q : x ≡ y = cc in cond-true _ _ _ (ap (λ z. same_name x z) (sym q) ∙ name_same x)
is_listed x (y ∷ ys) (suc i) e =
    ⊎_elim (λ t. cond-true _ _ _ t) (λ f. cond-false _ _ _ f ∙ is_listed x ys i e) (cases_Bool (same_name x y))

pub not_listed : (x : Name) (names : List Name) → NotIn x names → listed x names ≡ false
not_listed x [] h = refl
not_listed x (y ∷ ys) h =
    ⊎_elim (λ t. absurd (h 0 (ap Some (sym (same_name_lem x y t)))))
    (λ f. cond-false _ _ _ f ∙ not_listed x ys (λ i e. h (suc i) e)) (cases_Bool (same_name x y))

pub rank_more : (x : Name) (names ys : List Name) → listed x names ≡ true → rank x (names ++ ys) ≡ rank x names
rank_more x [] ys l = absurd cc
rank_more x (y ∷ zs) ys l =
    ⊎_elim (λ t. cond-true _ _ _ t ∙ sym (cond-true _ _ _ t))
    (λ f.
    cond-false _ _ _ f
    ∙ ap (λ n. cond (same_kind x y) 1 0 + n) (rank_more x zs ys (sym (cond-false (same_name x y) true (listed x zs) f) ∙ l))
    ∙ sym (cond-false _ _ _ f))
    (cases_Bool (same_name x y))

unlisted_rest : (x y : Name) (ys : List Name) → listed x (y ∷ ys) ≡ false → (same_name x y ≡ false) × (listed x ys ≡ false)
unlisted_rest x y ys l =
    ⊎_elim (λ t. let u = cond-true (same_name x y) true (listed x ys) t in absurd cc)
    (λ f. (f, sym (cond-false (same_name x y) true (listed x ys) f) ∙ l)) (cases_Bool (same_name x y))

pub rank_new : (x : Name) (names : List Name) → listed x names ≡ false → rank x names ≡ of_kind (environmental x) names
rank_new x [] l = refl
rank_new x (y ∷ ys) l =
    let p = unlisted_rest x y ys l in
    cond-false _ _ _ p.0 ∙ ap (λ n. cond (same_kind x y) 1 0 + n) (rank_new x ys p.1)

pub rank_last : (x : Name) (names : List Name) → listed x names ≡ false → rank x (names ++ x ∷ []) ≡ rank x names
rank_last x [] l = cond-true _ _ _ (name_same x)
rank_last x (y ∷ ys) l =
    let p = unlisted_rest x y ys l in
    cond-false _ _ _ p.0 ∙ ap (λ n. cond (same_kind x y) 1 0 + n) (rank_last x ys p.1) ∙ sym (cond-false _ _ _ p.0)

kind_more :
    (b : Bool) (names : List Name) (x : Name) → of_kind b (names ++ x ∷ []) ≡ of_kind b names + cond (beq b (environmental x)) 1 0
kind_more b [] x = omega arith
kind_more b (y ∷ ys) x = omega (arith, kind_more b ys x)

environments_more : (e : Bool) → ◌≡◌ {A = ℕ} (cond (beq true e) 1 0) (cond e 1 0)
environments_more true = refl
environments_more false = refl

systems_more : (e : Bool) → ◌≡◌ {A = ℕ} (cond (beq false e) 1 0) (cond e 0 1)
systems_more true = refl
systems_more false = refl

nth_push :
    (names : List Name) (x y : Name) (i : ℕ) → slice_get (names ++ x ∷ []) i ≡ Some y → (slice_get names i ≡ Some y) ⊎ ((i ≡ length names) × (x ≡ y))
nth_push [] x y zero e = inr (refl, cc)
nth_push [] x y (suc i) e = absurd cc
nth_push (z ∷ zs) x y zero e = inl e
nth_push (z ∷ zs) x y (suc i) e = ⊎_elim (λ l. inl l) (λ r. inr (ap suc r.0, r.1)) (nth_push zs x y i e)

module _ (n n' : Names) (x : Name) (v : ℕ) (a : Appended n x (environmental x) v n') where
  pub names_more : names_of n' ≡ names_of n ++ x ∷ []
  names_more =
      ap (λ k. take k n'.items) a.count ∙ ap (λ l. take (n.count + 1) l) a.items
      ∙ take_more_set n.items n.count x a.room

  names_long : length (names_of n) ≡ n.count
  names_long = omega (arith, length-take n.count n.items, a.room)

  module _ (k : Numbered n) (l : listed x (names_of n) ≡ false) (f : rank x (names_of n) < 16) (is : v ≡ variable_of x (names_of n)) where
    -- of the names met before, and of the new one
    each :
        (i : ℕ) (y : Name) → slice_get (names_of n ++ x ∷ []) i ≡ Some y →
        (get_or n'.variables i 0 ≡ variable_of y (names_of n ++ x ∷ [])) × (rank y (names_of n ++ x ∷ []) < 16)
    each i y e =
        ⊎_elim
        (λ o.
        let r = rank_more y (names_of n) (x ∷ []) (is_listed y (names_of n) i o) in
        let ne : i ≢ n.count = omega (arith, slice_get_within (names_of n) i y o, names_long) in (
          ap (λ vs. get_or vs i 0) a.variables ∙ get_or-set_other n.variables n.count i v 0 ne
              ∙ k.variables i y o ∙ ap (λ m. cond (environmental y) 0 16 + m) (sym r),
          omega (arith, r, k.few i y o),
        ))
        (λ o.
        let r = rank_last x (names_of n) l in
        let at : i ≡ n.count = omega (arith, names_long, o.0) in
        let P : Name → Type 0 =
        λ z. (get_or n'.variables i 0 ≡ variable_of z (names_of n ++ x ∷ [])) × (rank z (names_of n ++ x ∷ []) < 16) in
        subst P o.1 (
          ap (λ vs. get_or vs i 0) a.variables ∙ ap (λ j. get_or (set n.variables n.count v) j 0) at
              ∙ get_or-set_same n.variables n.count v 0 a.space ∙ is ∙ ap (λ m. cond (environmental x) 0 16 + m) (sym r),
          omega (arith, r, f),
        ))
        (nth_push (names_of n) x y i e)

    pub numbered_more : Numbered n'
    numbered_more = record {
      variables =
          let P : List Name → Type 0 = λ ns. (i : ℕ) (y : Name) → slice_get ns i ≡ Some y → get_or n'.variables i 0 ≡ variable_of y ns in
          subst P (sym names_more) (λ i y e. (each i y e).0);
      few =
          let P : List Name → Type 0 = λ ns. (i : ℕ) (y : Name) → slice_get ns i ≡ Some y → rank y ns < 16 in
          subst P (sym names_more) (λ i y e. (each i y e).1);
      environment =
          a.environments ∙ ap (λ m. m + cond (environmental x) 1 0) k.environment
          ∙ ap (λ m. of_kind true (names_of n) + m) (sym (environments_more (environmental x)))
          ∙ sym (kind_more true (names_of n) x) ∙ ap (of_kind true) (sym names_more);
      system =
          a.systems ∙ ap (λ m. m + cond (environmental x) 0 1) k.system
          ∙ ap (λ m. of_kind false (names_of n) + m) (sym (systems_more (environmental x)))
          ∙ sym (kind_more false (names_of n) x) ∙ ap (of_kind false) (sym names_more);
      blank =
          let e : 32 - n.count - 1 ≡ 32 - (n.count + 1) = omega arith in
          ap (λ j. drop j n'.items) a.count ∙ ap (λ is. drop (n.count + 1) is) a.items
          ∙ drop-set-lt (n.count + 1) n.items n.count x (omega arith)
          ∙ sym (drop-drop 1 n.count n.items) ∙ ap (drop 1) k.blank
          ∙ drop-replicate 1 (32 - n.count) blank_name ∙ ap (λ j. replicate j blank_name) (e ∙ ap (λ j. 32 - j) (sym a.count));
    }

kinds_used :
    (n : Names) (e : Bool) → Numbered n → cond e n.environment n.system ≡ of_kind e (names_of n)
kinds_used n true k = k.environment
kinds_used n false k = k.system

-- how many of the kind of a new name there are is its rank
pub used_is :
    (n : Names) (x : Name) (b : Bool) (m : ℕ) → Numbered n → listed x (names_of n) ≡ false → b ≡ environmental x →
    m ≡ cond b n.environment n.system → m ≡ rank x (names_of n)
used_is n x b m k l e h =
    h ∙ kinds_used n b k ∙ ap (λ d. of_kind d (names_of n)) e ∙ sym (rank_new x (names_of n) l)
