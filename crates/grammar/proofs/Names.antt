-- The list of names: what putting a name behind it keeps.
use Rattle.std.proofs.Common.{◌≡◌, ℕ, ◌+◌, ◌<◌, ◌≤◌, Bool, true, false, cond, not, List, [], ◌∷◌, ◌++◌, length, filter, sym, refl, ap, ◌∙◌, subst, inl, inr, ⊎_elim, arith, length-append}
use mathlib.Core.Bool.{beq}
use Rattle.std.proofs.lemmas.List.Elements.{filter-append}
use Rattle.std.proofs.lemmas.Slice.Eq.{bytes_eq-Decides}
use Rattle.std.proofs.lemmas.Bool.{false≢true, both_ways, and_parts, and_from, eqb-true, eq-eqb, cond-true, cond-false, cases_Bool}
use Rattle.names.specs.declared.Name.{Name}
use Rattle.grammar.specs.Numbering.{same_name, environmental, same_kind, rank, listed, extended, variable_of, environment_names, system_names, Distinct}
use Rattle.temporal.specs.Formula.{Numbered}

-- ── equal names ──
pub same_name_lem : (x y : Name) → same_name x y ≡ true → x ≡ y
same_name_lem x y e =
    let p = and_parts _ _ e in
    let bytes = (bytes_eq-Decides x.bytes y.bytes).0 p.0 in
    let long = eqb-true x.length y.length p.1 in
    λ i. record { bytes = bytes i; length = long i }

pub name_same : (x : Name) → same_name x x ≡ true
name_same x = and_from _ _ ((bytes_eq-Decides x.bytes x.bytes).1 refl) (eq-eqb x.length x.length refl)

other_name : (x y : Name) → same_name x y ≡ false → same_name y x ≡ false
other_name x y e =
    ⊎_elim
    (λ same. absurd (both_ways _ e (subst (λ z. same_name x z ≡ true) (sym (same_name_lem y x same)) (name_same x))))
    (λ other. other)
    (cases_Bool (same_name y x))

-- one if counted, the first number of a kind
abbrev tally : Bool → ℕ
tally b = cond b 1 0

abbrev base : Bool → ℕ
base b = cond b 0 16

counted : (b : Bool) → b ≡ true → tally b ≡ 1
counted b e = ap tally e

passed : (b : Bool) → b ≡ false → tally b ≡ 0
passed b e = ap tally e

-- ── the names of x's kind, which are those that pass p ──
module _ (x : Name) (p : Name → Bool) (same : (y : Name) → same_kind x y ≡ p y) where
  one_more : (b : Bool) (y : Name) (ys : List Name) → length (cond b (y ∷ ys) ys) ≡ tally b + length ys
  one_more true y ys = omega arith
  one_more false y ys = omega arith

  rank_past : (y : Name) (ys : List Name) → same_name x y ≡ false → rank x (y ∷ ys) ≡ tally (p y) + rank x ys
  rank_past y ys e = cond-false (same_name x y) _ _ e ∙ ap (λ b. tally b + rank x ys) (same y)

  past_listed : (y : Name) (ys : List Name) → same_name x y ≡ false → listed x (y ∷ ys) ≡ listed x ys
  past_listed y ys e = cond-false (same_name x y) _ _ e

  here_listed : (y : Name) (ys : List Name) → same_name x y ≡ true → listed x (y ∷ ys) ≡ true
  here_listed y ys e = cond-true (same_name x y) _ _ e

  -- a name that is not there gets the next number of its kind
  rank_absent : (names : List Name) → listed x names ≡ false → rank x names ≡ length (filter p names)
  rank_absent [] h = refl
  rank_absent (y ∷ ys) h =
      ⊎_elim
      (λ here. absurd (both_ways _ h (here_listed y ys here)))
      (λ other.
      let r = rank_absent ys (sym (past_listed y ys other) ∙ h) in
      omega (arith, rank_past y ys other, one_more (p y) y (filter p ys), r))
      (cases_Bool (same_name x y))

  -- a name that is there has a number below the count of its kind
  rank_present : p x ≡ true → (names : List Name) → listed x names ≡ true → rank x names < length (filter p names)
  rank_present own [] h = absurd (false≢true h)
  rank_present own (y ∷ ys) h =
      ⊎_elim
      (λ here.
      let zero_rank : rank x (y ∷ ys) ≡ 0 = cond-true (same_name x y) _ _ here in
      let kind : p y ≡ true = subst (λ z. p z ≡ true) (same_name_lem x y here) own in
      omega (arith, zero_rank, counted (p y) kind, one_more (p y) y (filter p ys)))
      (λ other.
      let r = rank_present own ys (sym (past_listed y ys other) ∙ h) in
      omega (arith, rank_past y ys other, one_more (p y) y (filter p ys), r))
      (cases_Bool (same_name x y))

-- ── one name more ──
module _ (x : Name) (q : Name → Bool) where
  put_length : (names : List Name) → length (filter q (names ++ x ∷ [])) ≡ length (filter q names) + tally (q x)
  put_length names =
      ap length (filter-append q names (x ∷ [])) ∙ length-append (filter q names) (filter q (x ∷ []))
      ∙ ap (λ k. length (filter q names) + k) (alone (q x))
    where
      alone : (b : Bool) → length (cond b (x ∷ []) []) ≡ tally b
      alone true = refl
      alone false = refl

  stays : (names : List Name) → listed x names ≡ true → extended x names ≡ names
  stays names h = cond-true (listed x names) _ _ h

  grows : (names : List Name) → listed x names ≡ false → extended x names ≡ names ++ x ∷ []
  grows names h = cond-false (listed x names) _ _ h

  -- no kind gets fewer names
  pub extended_more : (names : List Name) → length (filter q names) ≤ length (filter q (extended x names))
  extended_more names =
      ⊎_elim
      (λ here. omega (arith, ap (λ l. length (filter q l)) (stays names here)))
      (λ other. omega (arith, ap (λ l. length (filter q l)) (grows names other), put_length names))
      (cases_Bool (listed x names))

  -- the other kind gets none
  extended_other : (names : List Name) → q x ≡ false → length (filter q (extended x names)) ≡ length (filter q names)
  extended_other names no_kind =
      ⊎_elim
      (λ here. ap (λ l. length (filter q l)) (stays names here))
      (λ other.
      omega (arith, ap (λ l. length (filter q l)) (grows names other), put_length names, passed (q x) no_kind))
      (cases_Bool (listed x names))

  -- a name of the kind is numbered below the new count, which is at most 16 if its number is below 16
  module _ (same : (y : Name) → same_kind x y ≡ q y) (own : q x ≡ true) where
    extended_own : (names : List Name) → rank x names < length (filter q (extended x names))
    extended_own names =
        ⊎_elim
        (λ here. omega (arith, rank_present x q same own names here, ap (λ l. length (filter q l)) (stays names here)))
        (λ other.
        omega (arith, rank_absent x q same names other, ap (λ l. length (filter q l)) (grows names other), put_length names, counted (q x) own))
        (cases_Bool (listed x names))

    extended_few :
        (names : List Name) → rank x names < 16 → length (filter q names) ≤ 16 → length (filter q (extended x names)) ≤ 16
    extended_few names lt le =
        ⊎_elim
        (λ here. omega (arith, ap (λ l. length (filter q l)) (stays names here)))
        (λ other.
        omega (arith, rank_absent x q same names other, ap (λ l. length (filter q l)) (grows names other), put_length names, counted (q x) own))
        (cases_Bool (listed x names))

-- ── no name twice ──
still_absent : (x y : Name) (names : List Name) → listed y names ≡ false → same_name y x ≡ false → listed y (names ++ x ∷ []) ≡ false
still_absent x y [] h other = cond-false (same_name y x) _ _ other
still_absent x y (z ∷ zs) h other =
    ⊎_elim
    (λ here. absurd (both_ways _ h (cond-true (same_name y z) _ _ here)))
    (λ apart.
    cond-false (same_name y z) _ _ apart ∙ still_absent x y zs (sym (cond-false (same_name y z) _ _ apart) ∙ h) other)
    (cases_Bool (same_name y z))

distinct_put : (x : Name) (names : List Name) → Distinct names → listed x names ≡ false → Distinct (names ++ x ∷ [])
distinct_put x [] d h = (refl, tt)
distinct_put x (y ∷ ys) d h =
    ⊎_elim
    (λ here. absurd (both_ways _ h (cond-true (same_name x y) _ _ here)))
    (λ other. (
      still_absent x y ys d.0 (other_name x y other),
      distinct_put x ys d.1 (sym (cond-false (same_name x y) _ _ other) ∙ h),
    ))
    (cases_Bool (same_name x y))

extended_distinct : (x : Name) (names : List Name) → Distinct names → Distinct (extended x names)
extended_distinct x names d =
    ⊎_elim
    (λ here. subst Distinct (sym (cond-true (listed x names) _ _ here)) d)
    (λ other. subst Distinct (sym (cond-false (listed x names) _ _ other)) (distinct_put x names d other))
    (cases_Bool (listed x names))

-- ── both kinds ──
-- no name twice, and at most 16 of each kind
pub record Few (names : List Name) : Type 0 where
  pub distinct : Distinct names
  pub environment : length (environment_names names) ≤ 16
  pub system : length (system_names names) ≤ 16

-- no kind has fewer names in the second list
pub record Grown (names more : List Name) : Type 0 where
  pub environment : length (environment_names names) ≤ length (environment_names more)
  pub system : length (system_names names) ≤ length (system_names more)

pub grown_same : (names : List Name) → Grown names names
grown_same names = record { environment = omega arith; system = omega arith }

pub grown_both : (a b c : List Name) → Grown a b → Grown b c → Grown a c
grown_both a b c p q = record { environment = omega arith; system = omega arith }

pub grown_extended : (x : Name) (names : List Name) → Grown names (extended x names)
grown_extended x names =
    record { environment = extended_more x environmental names; system = extended_more x (λ y. not (environmental y)) names }

alike : (b c : Bool) → b ≡ true → beq b c ≡ c
alike b true e = ap (λ k. beq k true) e
alike b false e = ap (λ k. beq k false) e

unlike : (b c : Bool) → b ≡ false → beq b c ≡ not c
unlike b true e = ap (λ k. beq k true) e
unlike b false e = ap (λ k. beq k false) e

module _ (x : Name) (names : List Name) (lt : rank x names < 16) where
  pub few_extended : Few names → Few (extended x names)
  few_extended f =
      ⊎_elim
      (λ e.
      record {
        distinct = extended_distinct x names f.distinct;
        environment = extended_few x environmental (λ y. alike (environmental x) (environmental y) e) e names lt f.environment;
        system = omega (arith, extended_other x (λ y. not (environmental y)) names (ap not e), f.system);
      })
      (λ s.
      record {
        distinct = extended_distinct x names f.distinct;
        environment = omega (arith, extended_other x environmental names s, f.environment);
        system =
            extended_few x (λ y. not (environmental y)) (λ y. unlike (environmental x) (environmental y) s) (ap not s) names lt f.system;
      })
      (cases_Bool (environmental x))

  pub numbered_extended :
      Numbered (length (environment_names (extended x names))) (length (system_names (extended x names))) (variable_of x names)
  numbered_extended =
      ⊎_elim
      (λ e.
      let first : base (environmental x) ≡ 0 = ap base e in
      let below = extended_own x environmental (λ y. alike (environmental x) (environmental y) e) e names in
      inl (omega (arith, first, lt), omega (arith, first, below)))
      (λ s.
      let first : base (environmental x) ≡ 16 = ap base s in
      let below = extended_own x (λ y. not (environmental y)) (λ y. unlike (environmental x) (environmental y) s) (ap not s) names in
      inr (omega (arith, first), omega (arith, first, below)))
      (cases_Bool (environmental x))
