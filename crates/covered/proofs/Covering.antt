-- From the marks of what a set holds, the passes upwards mark what it covers.
use Rattle.std.proofs.Common.{◌≡◌, ℕ, ◌<◌, ◌≤◌, Bool, true, false, cond, ◌&&◌, ◌||◌, eqb, leb, ◌⊎◌, List, length, sym, refl, ap, ◌∙◌, inl, inr, arith, eqb-true}
use mathlib.Core.Bool.{false≢true}
use Rattle.temporal.specs.Formula.{Formula, bot, top, lit, conj, disj, next, always, eventually, shape, same}
use Rattle.temporal.specs.Parts.{◌∈◌}
use Rattle.temporal.specs.Game.{Spec}
use Rattle.temporal.proofs.Truth.{and_out, and_in, or_out, or_in, both_ways}
use Rattle.temporal.proofs.Lists.{cast}
use Rattle.temporal.proofs.Tells.{Tells, and_tells, eq_tells, le_tells}
use Rattle.temporal.proofs.Same.{same_tells, member_tells}
use Rattle.tableau.specs.Lists.{any}
use Rattle.tableau.specs.Cover.{held, wider, inner, plainly, covers}
use Rattle.tableau.proofs.Tests.{any_out, any_in}
use Rattle.tableau.proofs.Cover.{plainly_out, covers_plainly, covers_false}
use Rattle.records.specs.declared.FormulaRecord.{FormulaRecord}
use Rattle.records.specs.Table.{Table, Listed, formula_of}
use Rattle.covered.specs.Marks.{marked, is_range, includes, stronger, covers_range, parts_cover, follows, ranges_from, covered_marks}
use Rattle.covered.specs.Meaning.{Members, Covers}
use Rattle.covered.proofs.Spread.{at, ranges_keeps, ranges_length, ranges_marks_lem, ranges_only, joined_keeps, joined_marks, joined_only}
use Rattle.covered.proofs.Formulas.{first_formula, top_at, conj_at, disj_at, always_at}
use Rattle.covered.proofs.Formulas.{eventually_at, kind_of_lem, lower_of, upper_of, left_of, right_of}
use Rattle.covered.proofs.Formulas.{parts_before, different_formulas, held_numbered}

-- ── what the tests on records say ──
includes_tells : (o r : FormulaRecord) → Tells (includes o r) ((o.n ≤ r.n) × (r.m ≤ o.m))
includes_tells o r = and_tells (leb o.n r.n) (leb r.m o.m) (le_tells o.n r.n) (le_tells r.m o.m)

abbrev Stronger : FormulaRecord → FormulaRecord → Type 0
Stronger h r = ((h.kind ≡ 7) × ((h.n ≤ r.n) × (r.m ≤ h.m))) ⊎ ((h.kind ≡ 8) × ((r.n ≤ h.n) × (h.m ≤ r.m)))

stronger_out : (h r : FormulaRecord) → stronger h r ≡ true → Stronger h r
stronger_out h r s = go (eqb h.kind 7) refl (eqb h.kind 8) refl s
  where
    go : (p : Bool) → eqb h.kind 7 ≡ p → (q : Bool) → eqb h.kind 8 ≡ q
        → cond p (includes h r) (cond q (includes r h) false) ≡ true → Stronger h r
    go true e q d s = inl (eqb-true h.kind 7 e, (includes_tells h r).0 s)
    go false e true d s = inr (eqb-true h.kind 8 d, (includes_tells r h).0 s)
    go false e false d s = absurd (false≢true s)

stronger_always : (h r : FormulaRecord) → h.kind ≡ 7 → h.n ≤ r.n → r.m ≤ h.m → stronger h r ≡ true
stronger_always h r k n m =
    ap (λ (k : ℕ). cond (eqb k 7) (includes h r) (cond (eqb k 8) (includes r h) false)) k ∙ (includes_tells h r).1 (n, m)

stronger_eventually : (h r : FormulaRecord) → h.kind ≡ 8 → r.n ≤ h.n → h.m ≤ r.m → stronger h r ≡ true
stronger_eventually h r k n m =
    ap (λ (k : ℕ). cond (eqb k 7) (includes h r) (cond (eqb k 8) (includes r h) false)) k ∙ (includes_tells r h).1 (n, m)

covers_range_in : (h r : FormulaRecord) → h.kind ≡ r.kind → h.a ≡ r.a → stronger h r ≡ true → covers_range h r ≡ true
covers_range_in h r k a s =
    and_in (eqb h.kind r.kind) (eqb h.a r.a && stronger h r) ((eq_tells h.kind r.kind).1 k)
    (and_in (eqb h.a r.a) (stronger h r) ((eq_tells h.a r.a).1 a) s)

covers_range_out : (h r : FormulaRecord) → covers_range h r ≡ true → (h.kind ≡ r.kind) × (h.a ≡ r.a) × Stronger h r
covers_range_out h r c =
    let p = and_out (eqb h.kind r.kind) (eqb h.a r.a && stronger h r) c in
    let q = and_out (eqb h.a r.a) (stronger h r) p.1 in
    ((eq_tells h.kind r.kind).0 p.0, (eq_tells h.a r.a).0 q.0, stronger_out h r q.1)

-- why a record is covered through its parts
data FromParts (r : FormulaRecord) (ms : List Bool) : Type 0 where
  of_true : r.kind ≡ 1 → FromParts r ms
  of_both : r.kind ≡ 4 → marked ms r.a ≡ true → marked ms r.b ≡ true → FromParts r ms
  of_one : r.kind ≡ 5 → (marked ms r.a ≡ true) ⊎ (marked ms r.b ≡ true) → FromParts r ms

parts_out : (r : FormulaRecord) (ms : List Bool) → parts_cover r ms ≡ true → FromParts r ms
parts_out r ms s = go (eqb r.kind 1) refl (eqb r.kind 4) refl (eqb r.kind 5) refl s
  where
    go : (p : Bool) → eqb r.kind 1 ≡ p → (q : Bool) → eqb r.kind 4 ≡ q → (o : Bool) → eqb r.kind 5 ≡ o
        → cond p true (cond q (marked ms r.a && marked ms r.b) (cond o (marked ms r.a || marked ms r.b) false)) ≡ true
        → FromParts r ms
    go true e q d o c s = of_true (eqb-true r.kind 1 e)
    go false e true d o c s =
        let w = and_out (marked ms r.a) (marked ms r.b) s in of_both (eqb-true r.kind 4 d) w.0 w.1
    go false e false d true c s = of_one (eqb-true r.kind 5 c) (or_out (marked ms r.a) (marked ms r.b) s)
    go false e false d false c s = absurd (false≢true s)

abbrev parts_of : ℕ → FormulaRecord → List Bool → Bool
parts_of k r ms =
    cond (eqb k 1) true (cond (eqb k 4) (marked ms r.a && marked ms r.b)
    (cond (eqb k 5) (marked ms r.a || marked ms r.b) false))

parts_in : (r : FormulaRecord) (ms : List Bool) → FromParts r ms → parts_cover r ms ≡ true
parts_in r ms (of_true e) = ap (λ (k : ℕ). parts_of k r ms) e
parts_in r ms (of_both e p q) = ap (λ (k : ℕ). parts_of k r ms) e ∙ and_in (marked ms r.a) (marked ms r.b) p q
parts_in r ms (of_one e o) = ap (λ (k : ℕ). parts_of k r ms) e ∙ or_in (marked ms r.a) (marked ms r.b) o

-- ── what a set covers ──
wider_tells : (n m : ℕ) (f h : Formula)
    → Tells (wider n m f h) ((h ≡ always (shape h).lower (shape h).upper f) × (((shape h).lower ≤ n) × (m ≤ (shape h).upper)))
wider_tells n m f h =
    and_tells (same h (always (shape h).lower (shape h).upper f)) (leb (shape h).lower n && leb m (shape h).upper) (same_tells h _)
    (and_tells (leb (shape h).lower n) (leb m (shape h).upper) (le_tells _ _) (le_tells _ _))

inner_tells : (n m : ℕ) (f h : Formula)
    → Tells (inner n m f h) ((h ≡ eventually (shape h).lower (shape h).upper f) × ((n ≤ (shape h).lower) × ((shape h).upper ≤ m)))
inner_tells n m f h =
    and_tells (same h (eventually (shape h).lower (shape h).upper f)) (leb n (shape h).lower && leb (shape h).upper m) (same_tells h _)
    (and_tells (leb n (shape h).lower) (leb (shape h).upper m) (le_tells _ _) (le_tells _ _))

covers_always : (S : List Formula) (n m i j : ℕ) (f : Formula) → always i j f ∈ held S → i ≤ n → m ≤ j → covers S (always n m f) ≡ true
covers_always S n m i j f h p q =
    or_in (plainly S (always n m f)) (any (wider n m f) (held S))
    (inr (any_in (wider n m f) (held S) (always i j f) h ((wider_tells n m f (always i j f)).1 (refl, (p, q)))))

covers_eventually : (S : List Formula) (n m i j : ℕ) (f : Formula) → eventually i j f ∈ held S → n ≤ i → j ≤ m
    → covers S (eventually n m f) ≡ true
covers_eventually S n m i j f h p q =
    or_in (plainly S (eventually n m f)) (any (inner n m f) (held S))
    (inr (any_in (inner n m f) (held S) (eventually i j f) h ((inner_tells n m f (eventually i j f)).1 (refl, (p, q)))))

covers_both : (S : List Formula) (f g : Formula) → covers S f ≡ true → covers S g ≡ true → covers S (conj f g) ≡ true
covers_both S f g p q = or_in (plainly S (conj f g)) (covers S f && covers S g) (inr (and_in (covers S f) (covers S g) p q))

covers_one : (S : List Formula) (f g : Formula) → (covers S f ≡ true) ⊎ (covers S g ≡ true) → covers S (disj f g) ≡ true
covers_one S f g o = or_in (plainly S (disj f g)) (covers S f || covers S g) (inr (or_in (covers S f) (covers S g) o))

-- ── the law ──
module _ (spec : Spec) (rs : List FormulaRecord) (t : Table spec rs) (S : List Formula) (listed : Listed rs S)
    (hs : List Bool) (enough : length rs ≤ length hs) (members : Members rs (held S) hs) where
  in_held : (j : ℕ) → j < length rs → marked hs j ≡ true → formula_of rs j ∈ held S
  in_held j l m = (member_tells (formula_of rs j) (held S)).0 (sym (members j l) ∙ m)

  held_in : (j : ℕ) → j < length rs → formula_of rs j ∈ held S → marked hs j ≡ true
  held_in j l m = members j l ∙ (member_tells (formula_of rs j) (held S)).1 m

  abbrev covered_at : ℕ → Type 0
  covered_at j = covers S (formula_of rs j) ≡ true

  covered_by : (j : ℕ) (f : Formula) → formula_of rs j ≡ f → covers S f ≡ true → covered_at j
  covered_by j f e c = ap (covers S) e ∙ c

  abbrev marks_ranges : List Bool
  marks_ranges = ranges_from rs hs rs 0 hs

  -- only what is covered is marked
  Good : ℕ → Type 0
  Good j = j < length rs → covered_at j

  plain_good : (j : ℕ) → marked hs j ≡ true → Good j
  unfolding Good
  plain_good j m l = covers_plainly S (formula_of rs j) (inr (in_held j l m))

  range_good : (j i : ℕ) → j < length rs → i < length rs → marked hs j ≡ true → covers_range (at rs j) (at rs i) ≡ true → Good i
  unfolding Good
  range_good j i k l m c o =
      let w = covers_range_out (at rs j) (at rs i) c in
      let b : formula_of rs (at rs j).a ≡ formula_of rs (at rs i).a = ap (formula_of rs) w.1 in
      elim w.2 [
        | inl s ↦
            covered_by i _ (always_at spec rs t i l (sym w.0 ∙ s.0))
            (covers_always S (at rs i).n (at rs i).m (at rs j).n (at rs j).m (formula_of rs (at rs i).a)
            (cast (always_at spec rs t j k s.0 ∙ ap (always (at rs j).n (at rs j).m) b) (in_held j k m)) s.1.0 s.1.1)
        | inr s ↦
            covered_by i _ (eventually_at spec rs t i l (sym w.0 ∙ s.0))
            (covers_eventually S (at rs i).n (at rs i).m (at rs j).n (at rs j).m (formula_of rs (at rs i).a)
            (cast (eventually_at spec rs t j k s.0 ∙ ap (eventually (at rs j).n (at rs j).m) b) (in_held j k m)) s.1.0 s.1.1)
      ]

  all_good : marked hs 0 ≡ true → (i : ℕ) → covered_at i
  all_good m i = covers_false S (formula_of rs i) (cast (first_formula spec rs t) (in_held 0 (omega (arith, t.two)) m))

  parts_good : (i : ℕ) → i < length rs → (ms : List Bool) → ((j : ℕ) → marked ms j ≡ true → Good j) → FromParts (at rs i) ms → covered_at i
  unfolding Good
  parts_good i l ms p (of_true e) = covered_by i top (top_at spec rs t i l e) refl
  parts_good i l ms p (of_both e x y) =
      let b = parts_before spec rs t i 3 l e in
      covered_by i _ (conj_at spec rs t i l e)
      (covers_both S (formula_of rs (at rs i).a) (formula_of rs (at rs i).b) (p (at rs i).a x (omega (arith, b.0)))
      (p (at rs i).b y (omega (arith, b.1))))
  parts_good i l ms p (of_one e o) =
      let b = parts_before spec rs t i 4 l e in
      covered_by i _ (disj_at spec rs t i l e)
      (covers_one S (formula_of rs (at rs i).a) (formula_of rs (at rs i).b)
      (elim o [ inl x ↦ inl (p (at rs i).a x (omega (arith, b.0))) | inr y ↦ inr (p (at rs i).b y (omega (arith, b.1))) ]))

  follows_good : (i : ℕ) → i < length rs → (ms : List Bool) → ((j : ℕ) → marked ms j ≡ true → Good j)
      → follows (marked hs 0) (at rs i) ms ≡ true → Good i
  unfolding Good
  follows_good i l ms p f o =
      elim (or_out (marked hs 0) (parts_cover (at rs i) ms) f)
      [ inl m ↦ all_good m i | inr c ↦ parts_good i l ms p (parts_out (at rs i) ms c) ]

  sound : (i : ℕ) → i < length rs → marked (covered_marks rs hs) i ≡ true → covers S (formula_of rs i) ≡ true
  unfolding Good
  sound i l m =
      joined_only rs (marked hs 0) Good follows_good marks_ranges (ranges_only rs hs Good range_good hs plain_good) i m l

  -- all that is covered is marked
  final_long : (i : ℕ) → i < length rs → i < length marks_ranges
  final_long i l = omega (arith, ranges_length rs hs hs, enough)

  joins : (i : ℕ) → i < length rs
      → ((ms : List Bool) → ((j : ℕ) → j < i → marked (covered_marks rs hs) j ≡ true → marked ms j ≡ true)
      → (marked hs 0 ≡ true) ⊎ FromParts (at rs i) ms)
      → marked (covered_marks rs hs) i ≡ true
  joins i l f =
      joined_marks rs (marked hs 0) marks_ranges i l (final_long i l)
      (λ ms b. or_in (marked hs 0) (parts_cover (at rs i) ms) (elim (f ms b) [ inl m ↦ inl m | inr p ↦ inr (parts_in (at rs i) ms p) ]))

  plain : (f : Formula) (i : ℕ) → i < length rs → formula_of rs i ≡ f → plainly S f ≡ true → marked (covered_marks rs hs) i ≡ true
  plain f i l e p =
      elim (plainly_out S f p) [
        | inl m ↦ joins i l (λ ms b. inl (held_in 0 (omega (arith, t.two)) (cast (sym (first_formula spec rs t)) m)))
        | inr m ↦ joined_keeps rs (marked hs 0) marks_ranges i (ranges_keeps rs hs hs i (held_in i l (cast (sym e) m)))
      ]

  ranged : (j i : ℕ) → j < length rs → i < length rs → formula_of rs j ∈ held S → is_range (at rs j) ≡ true
      → covers_range (at rs j) (at rs i) ≡ true → marked (covered_marks rs hs) i ≡ true
  ranged j i k l m r c =
      joined_keeps rs (marked hs 0) marks_ranges i (ranges_marks_lem rs hs hs j i k l (omega arith) (held_in j k m) r c)

  by_always : (n m : ℕ) (f : Formula) (i : ℕ) → i < length rs → formula_of rs i ≡ always n m f → any (wider n m f) (held S) ≡ true
      → marked (covered_marks rs hs) i ≡ true
  by_always n m f i l e a =
      let r = any_out (wider n m f) (held S) a in
      let w = (wider_tells n m f r.0).0 r.2 in
      let h = held_numbered spec rs t S listed r.0 r.1 in
      let j = h.0 in
      let g : formula_of rs j ≡ always (shape r.0).lower (shape r.0).upper f = h.2 ∙ w.0 in
      let k : (at rs j).kind ≡ 7 = kind_of_lem spec rs t j _ h.1 g in
      let o : (at rs i).kind ≡ 7 = kind_of_lem spec rs t i _ l e in
      let p = parts_before spec rs t j 6 h.1 k in
      let q = parts_before spec rs t i 6 l o in
      let b : (at rs j).a ≡ (at rs i).a = different_formulas spec rs t (at rs j).a (at rs i).a (omega (arith, p.0, h.1))
      (omega (arith, q.0))
      (left_of spec rs t j _ h.1 g ∙ sym (left_of spec rs t i _ l e)) in
      let nj : (at rs j).n ≡ (shape r.0).lower = lower_of spec rs t j _ h.1 g in
      let mj : (at rs j).m ≡ (shape r.0).upper = upper_of spec rs t j _ h.1 g in
      let ni : (at rs i).n ≡ n = lower_of spec rs t i _ l e in
      let mi : (at rs i).m ≡ m = upper_of spec rs t i _ l e in
      ranged j i h.1 l (cast (sym h.2) r.1)
      (or_in (eqb (at rs j).kind 7) (eqb (at rs j).kind 8) (inl ((eq_tells (at rs j).kind 7).1 k)))
      (covers_range_in (at rs j) (at rs i) (k ∙ sym o) b
      (stronger_always (at rs j) (at rs i) k (omega (arith, w.1.0)) (omega (arith, w.1.1))))

  by_eventually : (n m : ℕ) (f : Formula) (i : ℕ) → i < length rs → formula_of rs i ≡ eventually n m f → any (inner n m f) (held S) ≡ true
      → marked (covered_marks rs hs) i ≡ true
  by_eventually n m f i l e a =
      let r = any_out (inner n m f) (held S) a in
      let w = (inner_tells n m f r.0).0 r.2 in
      let h = held_numbered spec rs t S listed r.0 r.1 in
      let j = h.0 in
      let g : formula_of rs j ≡ eventually (shape r.0).lower (shape r.0).upper f = h.2 ∙ w.0 in
      let k : (at rs j).kind ≡ 8 = kind_of_lem spec rs t j _ h.1 g in
      let o : (at rs i).kind ≡ 8 = kind_of_lem spec rs t i _ l e in
      let p = parts_before spec rs t j 7 h.1 k in
      let q = parts_before spec rs t i 7 l o in
      let b : (at rs j).a ≡ (at rs i).a = different_formulas spec rs t (at rs j).a (at rs i).a (omega (arith, p.0, h.1))
      (omega (arith, q.0))
      (left_of spec rs t j _ h.1 g ∙ sym (left_of spec rs t i _ l e)) in
      let nj : (at rs j).n ≡ (shape r.0).lower = lower_of spec rs t j _ h.1 g in
      let mj : (at rs j).m ≡ (shape r.0).upper = upper_of spec rs t j _ h.1 g in
      let ni : (at rs i).n ≡ n = lower_of spec rs t i _ l e in
      let mi : (at rs i).m ≡ m = upper_of spec rs t i _ l e in
      ranged j i h.1 l (cast (sym h.2) r.1)
      (or_in (eqb (at rs j).kind 7) (eqb (at rs j).kind 8) (inr ((eq_tells (at rs j).kind 8).1 k)))
      (covers_range_in (at rs j) (at rs i) (k ∙ sym o) b
      (stronger_eventually (at rs j) (at rs i) k (omega (arith, w.1.0)) (omega (arith, w.1.1))))

  complete : (f : Formula) (i : ℕ) → i < length rs → formula_of rs i ≡ f → covers S f ≡ true → marked (covered_marks rs hs) i ≡ true
  complete bot i l e c = plain bot i l e c
  complete top i l e c = joins i l (λ ms b. inr (of_true (kind_of_lem spec rs t i top l e)))
  complete (lit s v) i l e c = plain (lit s v) i l e c
  complete (conj x y) i l e c =
      let k = kind_of_lem spec rs t i (conj x y) l e in
      let p = parts_before spec rs t i 3 l k in
      elim (or_out (plainly S (conj x y)) (covers S x && covers S y) c) [
        | inl h ↦ plain (conj x y) i l e h
        | inr h ↦ let w = and_out (covers S x) (covers S y) h in
            let u = complete x (at rs i).a (omega (arith, p.0)) (left_of spec rs t i (conj x y) l e) w.0 in
            let v = complete y (at rs i).b (omega (arith, p.1)) (right_of spec rs t i (conj x y) l e) w.1 in
            joins i l (λ ms b. inr (of_both k (b (at rs i).a p.0 u) (b (at rs i).b p.1 v)))
      ]
  complete (disj x y) i l e c =
      let k = kind_of_lem spec rs t i (disj x y) l e in
      let p = parts_before spec rs t i 4 l k in
      elim (or_out (plainly S (disj x y)) (covers S x || covers S y) c) [
        | inl h ↦ plain (disj x y) i l e h
        | inr h ↦ elim (or_out (covers S x) (covers S y) h) [
          | inl w ↦ let u = complete x (at rs i).a (omega (arith, p.0)) (left_of spec rs t i (disj x y) l e) w in
              joins i l (λ ms b. inr (of_one k (inl (b (at rs i).a p.0 u))))
          | inr w ↦ let v = complete y (at rs i).b (omega (arith, p.1)) (right_of spec rs t i (disj x y) l e) w in
              joins i l (λ ms b. inr (of_one k (inr (b (at rs i).b p.1 v))))
        ]
      ]
  complete (next n x) i l e c = plain (next n x) i l e c
  complete (always n m x) i l e c =
      elim (or_out (plainly S (always n m x)) (any (wider n m x) (held S)) c)
      [ inl h ↦ plain (always n m x) i l e h | inr h ↦ by_always n m x i l e h ]
  complete (eventually n m x) i l e c =
      elim (or_out (plainly S (eventually n m x)) (any (inner n m x) (held S)) c)
      [ inl h ↦ plain (eventually n m x) i l e h | inr h ↦ by_eventually n m x i l e h ]

  pub marks_covered : Covers rs S (covered_marks rs hs)
  marks_covered i l =
      both_ways (marked (covered_marks rs hs) i) (covers S (formula_of rs i)) (sound i l) (complete (formula_of rs i) i l refl)
