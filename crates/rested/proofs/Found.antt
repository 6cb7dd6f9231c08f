-- A record is listed exactly where its formula is.
use Rattle.std.proofs.Common.{◌≡◌, ℕ, zero, suc, ◌<◌, ◌≤◌, Bool, true, false, ◌⊎◌, List, [], ◌∷◌, map, length, Some, None, Option, sym, refl, ap, ◌∙◌, subst, inl, inr, arith}
use mathlib.Core.Bool.{false≢true}
use Rattle.std.specs.List.{slice_get}
use Rattle.temporal.specs.Formula.{Formula, Reading, bot, top, shape, is_bot, is_top, other, kind}
use Rattle.temporal.specs.Formula.{conjoin, disjoin, conjoin_by, disjoin_by}
use Rattle.temporal.specs.Formula.{lit, conj, disj, next, always, eventually}
use Rattle.temporal.specs.Parts.{member}
use Rattle.temporal.proofs.Lists.{place}
use Rattle.temporal.proofs.Same.{member_tells}
use Rattle.tableau.specs.Card.{Entry, build}
use Rattle.tableau.proofs.Different.{Read}
use Rattle.formulas.specs.declared.Formula.{Formula as Entered}
use Rattle.formulas.specs.declared.Formula.TheVariants as entry
use Rattle.index.specs.Keyed.{Found}
use Rattle.records.specs.declared.FormulaRecord.{FormulaRecord}
use Rattle.records.specs.Kinds.{recorded}
use Rattle.records.specs.Raw.{entry_of}
use Rattle.rested.specs.declared.key.FormulaKey.{FormulaKey}
use Rattle.records.specs.Table.{entry_at, formulas_of, formula_of}
use Rattle.formulas.specs.declared.junction.Junction.{Junction}
use Rattle.formulas.specs.declared.junction.Junction.TheVariants.{And, Or}
use Rattle.formulas.specs.Junctions.{join_of, range_of, absorbing_of, neutral_of, entry_of_both, entry_over}
use Rattle.rested.specs.Listing.{InForm, key_of}
use Rattle.rested.specs.Rests.{Placed, Rested}
use Rattle.rested.proofs.Trees.{trees_long, tree_bot, tree_top, tree_plain, tree_built, tree_read, trees_differ}

-- ── places in the list of keys ──
pub key_at : (rs : List FormulaRecord) (i : ℕ) (k : FormulaKey) → slice_get (map key_of rs) i ≡ Some k
    → (i < length rs) × (entry_at rs i ≡ entry_of k.formula)
key_at [] i k e = let z : ◌≡◌ {A = ℕ} 0 1 = cc in absurd (omega arith)
key_at (r ∷ rs) zero k e = let s : key_of r ≡ k = cc in (omega arith, ap (λ (x : FormulaKey). entry_of x.formula) s)
key_at (r ∷ rs) (suc i) k e = let h = key_at rs i k e in (omega (arith, h.0), h.1)

pub at_key : (rs : List FormulaRecord) (i : ℕ) (f : FormulaRecord) → i < length rs → entry_at rs i ≡ entry_of f
    → slice_get (map key_of rs) i ≡ Some (key_of f)
at_key [] i f l e = absurd (omega arith)
at_key (r ∷ rs) zero f l e =
    λ j. Some (record { formula = record { kind = (e j).kind; variable = (e j).variable; a = (e j).a; b = (e j).b; n = (e j).n; m = (e j).m } })
at_key (r ∷ rs) (suc i) f l e = at_key rs i f (omega arith) e

-- ── what conjunctions and disjunctions have in common ──
-- the constant that decides alone, the one that leaves the other part, and the operator
abbrev pub absorbing : Junction → Formula
absorbing And = bot
absorbing Or = top

abbrev pub neutral : Junction → Formula
neutral And = top
neutral Or = bot

abbrev pub operator_of : Junction → Formula → Formula → Formula
operator_of And = conj
operator_of Or = disj

absorbing_first : (j : Junction) (f : Formula) → join_of j (absorbing j) f ≡ absorbing j
absorbing_first And f = refl
absorbing_first Or f = refl

absorbing_second : (j : Junction) (f : Formula) → join_of j f (absorbing j) ≡ absorbing j
absorbing_second And f = elim (kind f) as (λ k. conjoin_by k is_bot f bot ≡ bot) [ is_bot ↦ refl | is_top ↦ refl | other ↦ refl ]
absorbing_second Or f = elim (kind f) as (λ k. disjoin_by k is_top f top ≡ top) [ is_bot ↦ refl | is_top ↦ refl | other ↦ refl ]

neutral_first : (j : Junction) (f : Formula) → join_of j (neutral j) f ≡ f
neutral_first And f = refl
neutral_first Or f = refl

neutral_second : (j : Junction) (f : Formula) → join_of j f (neutral j) ≡ f
neutral_second And f = conjoin_top f
  where
    conjoin_top : (f : Formula) → conjoin f top ≡ f
    conjoin_top bot = refl
    conjoin_top top = refl
    conjoin_top (lit s v) = refl
    conjoin_top (conj f g) = refl
    conjoin_top (disj f g) = refl
    conjoin_top (next n f) = refl
    conjoin_top (always n m f) = refl
    conjoin_top (eventually n m f) = refl
neutral_second Or f = disjoin_bot f
  where
    disjoin_bot : (f : Formula) → disjoin f bot ≡ f
    disjoin_bot bot = refl
    disjoin_bot top = refl
    disjoin_bot (lit s v) = refl
    disjoin_bot (conj f g) = refl
    disjoin_bot (disj f g) = refl
    disjoin_bot (next n f) = refl
    disjoin_bot (always n m f) = refl
    disjoin_bot (eventually n m f) = refl

others_joined : (j : Junction) (f g : Formula) → kind f ≡ other → kind g ≡ other → operator_of j f g ≡ join_of j f g
others_joined And f g d e = λ i. conjoin_by (sym d i) (sym e i) f g
others_joined Or f g d e = λ i. disjoin_by (sym d i) (sym e i) f g

module _ (rs : List FormulaRecord) (ok : InForm rs) where
  -- where the list has the record of an entry
  abbrev pub ListedAt : Entered → Option ℕ → Type 0
  ListedAt e o = Found (map key_of rs) (key_of (recorded e)) o

  -- the formula of a record, over the listed formulas
  abbrev pub whole : FormulaRecord → Formula
  whole f = build f.kind f.variable f.n f.m (formula_of rs f.a) (formula_of rs f.b)

  part_below : (i a : ℕ) → i ≤ length rs → (a ≡ 0) ⊎ (a < i) → a < length rs
  part_below i a l (inl e) = omega (arith, ok.table.two)
  part_below i a l (inr h) = omega arith

  -- a record with listed parts, all of whose fields show in its formula: what a look-up says of the record holds of the formula
  pub found_placed : (f : FormulaRecord) (o : Option ℕ) → Read (length rs) (entry_of f) (formula_of rs f.a) (formula_of rs f.b) (whole f)
      → Found (map key_of rs) (key_of f) o → Placed (formulas_of rs) (whole f) o
  found_placed f o sh = go o
    where
      absent : Found (map key_of rs) (key_of f) None → (b : Bool) → member (whole f) (formulas_of rs) ≡ b → b ≡ false
      absent h false e = refl
      absent h true e =
          let p = place bot (formulas_of rs) (whole f) ((member_tells (whole f) (formulas_of rs)).0 e) in
          let i = p.0 in
          let l : i < length rs = omega (arith, p.1, trees_long rs ok) in
          let r = tree_read rs ok i l in
          let g = entry_at rs i in
          let t : formula_of rs i ≡ whole f = p.2 in
          let a : g.a ≡ f.a =
          trees_differ rs ok g.a f.a (part_below i g.a (omega arith) r.a) (part_below (length rs) f.a (omega arith) sh.a)
          (sym r.one ∙ ap (λ (x : Formula). (shape x).left) t ∙ sh.one) in
          let b : g.b ≡ f.b =
          trees_differ rs ok g.b f.b (part_below i g.b (omega arith) r.b) (part_below (length rs) f.b (omega arith) sh.b)
          (sym r.two ∙ ap (λ (x : Formula). (shape x).right) t ∙ sh.two) in
          let k : g.kind ≡ f.kind = sym r.kind ∙ ap (λ (x : Formula). (shape x).operator) t ∙ sh.kind in
          let v : g.variable ≡ f.variable = sym r.variable ∙ ap (λ (x : Formula). (shape x).variable) t ∙ sh.variable in
          let n : g.n ≡ f.n = sym r.n ∙ ap (λ (x : Formula). (shape x).lower) t ∙ sh.n in
          let m : g.m ≡ f.m = sym r.m ∙ ap (λ (x : Formula). (shape x).upper) t ∙ sh.m in
          absurd (h i (at_key rs i f l (λ j. record { kind = k j; variable = v j; a = a j; b = b j; n = n j; m = m j })))

      go : (o : Option ℕ) → Found (map key_of rs) (key_of f) o → Placed (formulas_of rs) (whole f) o
      go None h = absent h (member (whole f) (formulas_of rs)) refl
      go (Some i) h =
          let p = key_at rs i (key_of f) h in (
            omega (arith, p.0, trees_long rs ok),
            tree_built rs ok i p.0
                ∙ ap (λ (g : Entry). build g.kind g.variable g.n g.m (formula_of rs g.a) (formula_of rs g.b)) p.1,
          )

  -- the records of a conjunction and a disjunction, and of an X, G and F, with listed parts
  module _ (x y : ℕ) (lx : x < length rs) (ly : y < length rs) (o : Option ℕ) where
    pub conj_placed : ListedAt (entry.And x y) o → Placed (formulas_of rs) (conj (formula_of rs x) (formula_of rs y)) o
    conj_placed =
        found_placed (recorded (entry.And x y)) o
        (record { kind = refl; variable = refl; n = refl; m = refl; one = refl; two = refl; a = inr lx; b = inr ly })

    pub disj_placed : ListedAt (entry.Or x y) o → Placed (formulas_of rs) (disj (formula_of rs x) (formula_of rs y)) o
    disj_placed =
        found_placed (recorded (entry.Or x y)) o
        (record { kind = refl; variable = refl; n = refl; m = refl; one = refl; two = refl; a = inr lx; b = inr ly })

    pub both_placed : (j : Junction) → ListedAt (entry_of_both j x y) o
        → Placed (formulas_of rs) (operator_of j (formula_of rs x) (formula_of rs y)) o
    both_placed And = conj_placed
    both_placed Or = disj_placed

  module _ (a n m : ℕ) (la : a < length rs) (o : Option ℕ) where
    pub next_placed : ListedAt (entry.Next n a) o → Placed (formulas_of rs) (next n (formula_of rs a)) o
    next_placed =
        found_placed (recorded (entry.Next n a)) o
        (record { kind = refl; variable = refl; n = refl; m = refl; one = refl; two = sym (tree_bot rs ok); a = inr la; b = inl refl })

    pub always_placed : ListedAt (entry.Always n m a) o → Placed (formulas_of rs) (always n m (formula_of rs a)) o
    always_placed =
        found_placed (recorded (entry.Always n m a)) o
        (record { kind = refl; variable = refl; n = refl; m = refl; one = refl; two = sym (tree_bot rs ok); a = inr la; b = inl refl })

    pub eventually_placed : ListedAt (entry.Eventually n m a) o → Placed (formulas_of rs) (eventually n m (formula_of rs a)) o
    eventually_placed =
        found_placed (recorded (entry.Eventually n m a)) o
        (record { kind = refl; variable = refl; n = refl; m = refl; one = refl; two = sym (tree_bot rs ok); a = inr la; b = inl refl })

    pub over_placed : (j : Junction) → ListedAt (entry_over j n m a) o → Placed (formulas_of rs) (range_of j n m (formula_of rs a)) o
    over_placed And = always_placed
    over_placed Or = eventually_placed

  -- ── joined by number: entry 0 is false, entry 1 true, no other is a constant ──
  pub zero_placed : Placed (formulas_of rs) bot (Some 0)
  zero_placed = (omega (arith, ok.table.two, trees_long rs ok), tree_bot rs ok)

  pub one_placed : Placed (formulas_of rs) top (Some 1)
  one_placed = (omega (arith, ok.table.two, trees_long rs ok), tree_top rs ok)

  absorbing_at : (j : Junction) → formula_of rs (absorbing_of j) ≡ absorbing j
  absorbing_at And = tree_bot rs ok
  absorbing_at Or = tree_top rs ok

  neutral_at : (j : Junction) → formula_of rs (neutral_of j) ≡ neutral j
  neutral_at And = tree_top rs ok
  neutral_at Or = tree_bot rs ok

  absorbing_listed : (j : Junction) → absorbing_of j < length rs
  absorbing_listed And = omega (arith, ok.table.two)
  absorbing_listed Or = omega (arith, ok.table.two)

  plain : (j : Junction) (x : ℕ) → x < length rs → (x ≡ absorbing_of j → ⊥) → (x ≡ neutral_of j → ⊥) → kind (formula_of rs x) ≡ other
  plain And x l p q = tree_plain rs ok x l (omega arith)
  plain Or x l p q = tree_plain rs ok x l (omega arith)

  module _ (j : Junction) (x y : ℕ) (lx : x < length rs) (ly : y < length rs) where
    abbrev Both : Option ℕ → Type 0
    Both o = Placed (formulas_of rs) (join_of j (formula_of rs x) (formula_of rs y)) o

    place_of : (k : ℕ) → k < length rs → formula_of rs k ≡ join_of j (formula_of rs x) (formula_of rs y) → Both (Some k)
    place_of k l e = (omega (arith, l, trees_long rs ok), e)

    pub joined_absorbing : (x ≡ absorbing_of j) ⊎ ((x ≡ absorbing_of j → ⊥) × (y ≡ absorbing_of j)) → Both (Some (absorbing_of j))
    joined_absorbing h =
        place_of (absorbing_of j) (absorbing_listed j)
        (absorbing_at j ∙ sym (elim h [
          | inl e ↦ ap (λ t. join_of j t (formula_of rs y)) (ap (formula_of rs) e ∙ absorbing_at j) ∙ absorbing_first j (formula_of rs y)
          | inr e ↦ ap (λ t. join_of j (formula_of rs x) t) (ap (formula_of rs) e.1 ∙ absorbing_at j) ∙ absorbing_second j (formula_of rs x)
        ]))

    pub joined_first_neutral : x ≡ neutral_of j → Both (Some y)
    joined_first_neutral e =
        place_of y ly
        (sym (ap (λ t. join_of j t (formula_of rs y)) (ap (formula_of rs) e ∙ neutral_at j) ∙ neutral_first j (formula_of rs y)))

    pub joined_second_neutral : y ≡ neutral_of j → Both (Some x)
    joined_second_neutral e =
        place_of x lx
        (sym (ap (λ t. join_of j (formula_of rs x) t) (ap (formula_of rs) e ∙ neutral_at j) ∙ neutral_second j (formula_of rs x)))

    pub joined_found : (x ≡ absorbing_of j → ⊥) → (y ≡ absorbing_of j → ⊥) → (x ≡ neutral_of j → ⊥) → (y ≡ neutral_of j → ⊥) → (o : Option ℕ)
        → ListedAt (entry_of_both j x y) o → Both o
    joined_found p q r s o h =
        subst (λ (t : Formula). Placed (formulas_of rs) t o)
        (others_joined j (formula_of rs x) (formula_of rs y) (plain j x lx p r) (plain j y ly q s)) (both_placed x y lx ly o j h)

  -- one answer only
  pub one_answer : (R : Reading) (f : Formula) (o p : Option ℕ) → Rested R (formulas_of rs) f o → Rested R (formulas_of rs) f p → o ≡ p
  one_answer R f None None a b = refl
  one_answer R f None (Some k) a b = absurd (false≢true (sym a ∙ b.0))
  one_answer R f (Some k) None a b = absurd (false≢true (sym b ∙ a.0))
  one_answer R f (Some j) (Some k) a b =
      ap Some (trees_differ rs ok j k (omega (arith, a.1, trees_long rs ok)) (omega (arith, b.1, trees_long rs ok)) (a.2 ∙ sym b.2))
