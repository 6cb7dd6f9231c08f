-- What a card's list of records says of its formulas, record by record.
use Rattle.std.proofs.Common.{◌≡◌, ℕ, suc, ◌<◌, true, false, ◌⊎◌, List, [], ◌∷◌, map, length, sym, refl, ap, ◌∙◌, subst, inl, inr, arith}
use native.Mathlib.Decide.{ℕ_discrete}
use Rattle.std.proofs.lemmas.List.{length-map, get_or-map}
use Rattle.temporal.specs.Formula.{Formula, bot, top, lit, conj, disj, next, always, eventually, shape}
use Rattle.temporal.specs.Parts.{◌∈◌}
use Rattle.temporal.specs.Game.{Spec}
use Rattle.temporal.proofs.Lists.{place, in_append, in_cons}
use Rattle.tableau.specs.Card.{Entry, Card, no_entry, build, tree_of}
use Rattle.tableau.specs.Cover.{conjuncts, held}
use Rattle.tableau.proofs.Trees.{length_trees, GoodList, first_kind}
use Rattle.tableau.proofs.Different.{Read, tree_step, tree_read, different_trees}
use Rattle.tableau.proofs.Cover.{held_member}
use Rattle.records.specs.Raw.{entry_of}
use Rattle.records.specs.declared.FormulaRecord.{FormulaRecord}
use Rattle.records.specs.Table.{Table, Listed, formulas_of, formula_of, entry_at}
use Rattle.covered.proofs.Passes.{no_record}
use Rattle.covered.proofs.Spread.{at}

-- only false has operator 0
bot_by_operator : (f : Formula) → (shape f).operator ≡ 0 → f ≡ bot
bot_by_operator bot e = refl
bot_by_operator top e = absurd (omega arith)
bot_by_operator (lit true v) e = absurd (omega arith)
bot_by_operator (lit false v) e = absurd (omega arith)
bot_by_operator (conj x y) e = absurd (omega arith)
bot_by_operator (disj x y) e = absurd (omega arith)
bot_by_operator (next n x) e = absurd (omega arith)
bot_by_operator (always n m x) e = absurd (omega arith)
bot_by_operator (eventually n m x) e = absurd (omega arith)

-- a card with these formulas and nothing else
abbrev list_card : List FormulaRecord → Card
list_card rs = record { kind = 1; formulas = map entry_of rs; labels = []; nodes = []; moves = [] }

module _ (spec : Spec) (rs : List FormulaRecord) (t : Table spec rs) where
  lengths : length (map entry_of rs) ≡ length rs
  lengths = length-map rs entry_of

  good : GoodList spec (list_card rs)
  good = record {
    two_formulas = omega (arith, t.two, lengths);
    formulas = λ i l. t.formed i (omega (arith, lengths));
    different = λ i l. t.different i (omega (arith, lengths));
  }

  entry_is : (i : ℕ) → i < length rs → entry_at rs i ≡ entry_of (at rs i)
  entry_is i l = get_or-map entry_of rs i no_record no_entry l

  pub formula_count : length (formulas_of rs) ≡ length rs
  formula_count = omega (arith, length_trees [] (map entry_of rs), lengths)

  pub different_formulas : (i j : ℕ) → i < length rs → j < length rs → formula_of rs i ≡ formula_of rs j → i ≡ j
  different_formulas i j l k e = different_trees spec (list_card rs) good i j (omega (arith, lengths)) (omega (arith, lengths)) e

  pub formula_read : (i : ℕ) → i < length rs
      → Read i (entry_of (at rs i)) (formula_of rs (at rs i).a) (formula_of rs (at rs i).b) (formula_of rs i)
  formula_read i l =
      subst (λ (f : Entry). Read i f (formula_of rs f.a) (formula_of rs f.b) (formula_of rs i)) (entry_is i l)
      (tree_read spec (list_card rs) good i (omega (arith, lengths)))

  first_record : (at rs 0).kind ≡ 0
  first_record =
      ap (λ (f : Entry). f.kind) (sym (entry_is 0 (omega (arith, t.two)))) ∙ first_kind spec (list_card rs) good 0 (omega arith)

  -- record 0 is false
  pub first_formula : formula_of rs 0 ≡ bot
  first_formula = bot_by_operator (formula_of rs 0) ((formula_read 0 (omega (arith, t.two))).kind ∙ first_record)

  -- a record of another kind than 0 stands behind its parts
  pub parts_before : (i k : ℕ) → i < length rs → (at rs i).kind ≡ suc k → ((at rs i).a < i) × ((at rs i).b < i)
  parts_before i k l e = (under (at rs i).a (formula_read i l).a, under (at rs i).b (formula_read i l).b)
    where
      not_first : 0 < i
      not_first = go (ℕ_discrete i 0)
        where
          go : Dec (i ≡ 0) → 0 < i
          go (no n) = omega arith
          go (yes z) = let w : suc k ≡ 0 = sym e ∙ ap (λ (j : ℕ). (at rs j).kind) z ∙ first_record in absurd (omega arith)

      under : (p : ℕ) → (p ≡ 0) ⊎ (p < i) → p < i
      under p (inl z) = omega (arith, not_first)
      under p (inr m) = m

  -- a formula of the list has a number
  pub numbered : (f : Formula) → f ∈ formulas_of rs → (i : ℕ) × (i < length rs) × (formula_of rs i ≡ f)
  numbered f m = let r = place bot (formulas_of rs) f m in (r.0, omega (arith, r.1, formula_count), r.2)

  -- ── the formula of a kind ──
  by_kind : (i k : ℕ) → i < length rs → (at rs i).kind ≡ suc k
      → formula_of rs i ≡ build (suc k) (at rs i).variable (at rs i).n (at rs i).m (formula_of rs (at rs i).a) (formula_of rs (at rs i).b)
  by_kind i k l e =
      let f = entry_is i l in
      let p = parts_before i k l e in
      let a : (entry_at rs i).a ≡ (at rs i).a = ap (λ (g : Entry). g.a) f in
      let b : (entry_at rs i).b ≡ (at rs i).b = ap (λ (g : Entry). g.b) f in
      tree_step (list_card rs) i (omega (arith, lengths)) (omega (arith, p.0)) (omega (arith, p.1))
      ∙ ap (tree_of (formulas_of rs)) f
      ∙ ap (λ (k : ℕ). build k (at rs i).variable (at rs i).n (at rs i).m (formula_of rs (at rs i).a) (formula_of rs (at rs i).b)) e

  pub top_at : (i : ℕ) → i < length rs → (at rs i).kind ≡ 1 → formula_of rs i ≡ top
  top_at i l e = by_kind i 0 l e

  pub conj_at : (i : ℕ) → i < length rs → (at rs i).kind ≡ 4 → formula_of rs i ≡ conj (formula_of rs (at rs i).a) (formula_of rs (at rs i).b)
  conj_at i l e = by_kind i 3 l e

  pub disj_at : (i : ℕ) → i < length rs → (at rs i).kind ≡ 5 → formula_of rs i ≡ disj (formula_of rs (at rs i).a) (formula_of rs (at rs i).b)
  disj_at i l e = by_kind i 4 l e

  pub always_at : (i : ℕ) → i < length rs → (at rs i).kind ≡ 7
      → formula_of rs i ≡ always (at rs i).n (at rs i).m (formula_of rs (at rs i).a)
  always_at i l e = by_kind i 6 l e

  pub eventually_at : (i : ℕ) → i < length rs → (at rs i).kind ≡ 8
      → formula_of rs i ≡ eventually (at rs i).n (at rs i).m (formula_of rs (at rs i).a)
  eventually_at i l e = by_kind i 7 l e

  -- ── the kind of a formula ──
  pub kind_of_lem : (i : ℕ) (f : Formula) → i < length rs → formula_of rs i ≡ f → (at rs i).kind ≡ (shape f).operator
  kind_of_lem i f l e = sym (formula_read i l).kind ∙ ap (λ (g : Formula). (shape g).operator) e

  pub lower_of : (i : ℕ) (f : Formula) → i < length rs → formula_of rs i ≡ f → (at rs i).n ≡ (shape f).lower
  lower_of i f l e = sym (formula_read i l).n ∙ ap (λ (g : Formula). (shape g).lower) e

  pub upper_of : (i : ℕ) (f : Formula) → i < length rs → formula_of rs i ≡ f → (at rs i).m ≡ (shape f).upper
  upper_of i f l e = sym (formula_read i l).m ∙ ap (λ (g : Formula). (shape g).upper) e

  pub left_of : (i : ℕ) (f : Formula) → i < length rs → formula_of rs i ≡ f → formula_of rs (at rs i).a ≡ (shape f).left
  left_of i f l e = sym (formula_read i l).one ∙ ap (λ (g : Formula). (shape g).left) e

  pub right_of : (i : ℕ) (f : Formula) → i < length rs → formula_of rs i ≡ f → formula_of rs (at rs i).b ≡ (shape f).right
  right_of i f l e = sym (formula_read i l).two ∙ ap (λ (g : Formula). (shape g).right) e

  -- ── what a conjunction of the list holds is in the list ──
  -- P passes from a conjunction to its parts: then to all that it holds
  module _ (P : ℕ → Type 0) (down : (i : ℕ) → i < length rs → (at rs i).kind ≡ 4 → P i → P (at rs i).a × P (at rs i).b) where
    itself : (f : Formula) (i : ℕ) → i < length rs → formula_of rs i ≡ f → P i → (g : Formula) → g ∈ (f ∷ [])
        → (j : ℕ) × (j < length rs) × (formula_of rs j ≡ g) × P j
    itself f i l e p g m = elim (in_cons m) [ inl z ↦ (i, l, e ∙ sym z, p) | inr n ↦ elim n [ ] ]

    pub conjunct_numbered : (f : Formula) (i : ℕ) → i < length rs → formula_of rs i ≡ f → P i → (g : Formula) → g ∈ conjuncts f
        → (j : ℕ) × (j < length rs) × (formula_of rs j ≡ g) × P j
    conjunct_numbered bot i l e p g m = itself bot i l e p g m
    conjunct_numbered top i l e p g m = itself top i l e p g m
    conjunct_numbered (lit s v) i l e p g m = itself (lit s v) i l e p g m
    conjunct_numbered (conj x y) i l e p g m =
        let k = kind_of_lem i (conj x y) l e in
        let b = parts_before i 3 l k in
        let q = down i l k p in
        elim (in_cons m) [
          | inl z ↦ (i, l, e ∙ sym z, p)
          | inr n ↦ elim (in_append (conjuncts x) (conjuncts y) g n) [
            | inl u ↦ conjunct_numbered x (at rs i).a (omega (arith, b.0)) (left_of i (conj x y) l e) q.0 g u
            | inr v ↦ conjunct_numbered y (at rs i).b (omega (arith, b.1)) (right_of i (conj x y) l e) q.1 g v
          ]
        ]
    conjunct_numbered (disj x y) i l e p g m = itself (disj x y) i l e p g m
    conjunct_numbered (next n x) i l e p g m = itself (next n x) i l e p g m
    conjunct_numbered (always n k x) i l e p g m = itself (always n k x) i l e p g m
    conjunct_numbered (eventually n k x) i l e p g m = itself (eventually n k x) i l e p g m

  pub held_numbered : (S : List Formula) → Listed rs S → (g : Formula) → g ∈ held S → (j : ℕ) × (j < length rs) × (formula_of rs j ≡ g)
  held_numbered S listed g m =
      let r = held_member S g m in
      let n = numbered r.0 (listed r.0 r.1) in
      let w = conjunct_numbered (λ k. Unit {0}) (λ i l k p. (tt, tt)) r.0 n.0 n.1 n.2 tt g r.2 in
      (w.0, w.1, w.2)
