-- The trees of a list in form: each is built of those of its parts, and different entries are different trees.
use Rattle.std.proofs.Common.{◌≡◌, ℕ, ◌<◌, ◌≤◌, true, false, List, [], map, length, sym, refl, ap, ◌∙◌, arith}
use Rattle.std.proofs.lemmas.List.{length-map}
use Rattle.temporal.specs.Formula.{Formula, bot, top, lit, conj, disj, next, always, eventually, shape, kind, other}
use Rattle.tableau.specs.Card.{Entry, Card, build}
use Rattle.tableau.proofs.Trees.{length_trees, GoodList, first_kind, trees_good}
use Rattle.tableau.proofs.Different.{Read, different_trees}
use Rattle.tableau.proofs.Different.{tree_read as card_read}
use Rattle.records.specs.declared.FormulaRecord.{FormulaRecord}
use Rattle.records.specs.Raw.{entry_of}
use Rattle.records.specs.Table.{entry_at, formulas_of, formula_of}
use Rattle.rested.specs.Listing.{InForm}

-- ── a formula is built of its shape ──
-- by the card's `build`; the crate of formulas has the like of its own
rebuilt : (f : Formula)
    → build (shape f).operator (shape f).variable (shape f).lower (shape f).upper (shape f).left (shape f).right ≡ f
rebuilt bot = refl
rebuilt top = refl
rebuilt (lit true v) = refl
rebuilt (lit false v) = refl
rebuilt (conj f g) = refl
rebuilt (disj f g) = refl
rebuilt (next n f) = refl
rebuilt (always n m f) = refl
rebuilt (eventually n m f) = refl

rebuild : (i : ℕ) (e : Entry) (x y t : Formula) → Read i e x y t → t ≡ build e.kind e.variable e.n e.m x y
rebuild i e x y t r = sym (rebuilt t) ∙ (λ j. build (r.kind j) (r.variable j) (r.n j) (r.m j) (r.one j) (r.two j))

-- a card with these formulas and nothing else
abbrev card_with : List FormulaRecord → Card
card_with rs = record { kind = 2; formulas = map entry_of rs; labels = []; nodes = []; moves = [] }

module _ (rs : List FormulaRecord) (ok : InForm rs) where
  long : length (map entry_of rs) ≡ length rs
  long = length-map rs entry_of

  good : GoodList ok.spec (card_with rs)
  good = record {
    two_formulas = omega (arith, long, ok.table.two);
    formulas = λ i l. ok.table.formed i (omega (arith, long));
    different = λ i l. ok.table.different i (omega (arith, long));
  }

  pub trees_long : length (formulas_of rs) ≡ length rs
  trees_long = omega (arith, long, length_trees [] (map entry_of rs))

  -- each entry is read off its tree
  pub tree_read : (i : ℕ) → i < length rs → let f = entry_at rs i in Read i f (formula_of rs f.a) (formula_of rs f.b) (formula_of rs i)
  tree_read i l = card_read ok.spec (card_with rs) good i (omega (arith, long))

  -- an entry's tree is built of those of its parts
  pub tree_built : (i : ℕ) → i < length rs → let f = entry_at rs i in
      formula_of rs i ≡ build f.kind f.variable f.n f.m (formula_of rs f.a) (formula_of rs f.b)
  tree_built i l =
      let f = entry_at rs i in
      rebuild i f (formula_of rs f.a) (formula_of rs f.b) (formula_of rs i) (tree_read i l)

  -- entry 0 is false, entry 1 is true, no other is a constant
  first_tree : (i : ℕ) → i < 2 → let f = entry_at rs i in
      formula_of rs i ≡ build i f.variable f.n f.m (formula_of rs f.a) (formula_of rs f.b)
  first_tree i l =
      let f = entry_at rs i in
      tree_built i (omega (arith, ok.table.two))
      ∙ ap (λ k. build k f.variable f.n f.m (formula_of rs f.a) (formula_of rs f.b)) (first_kind ok.spec (card_with rs) good i l)

  pub tree_bot : formula_of rs 0 ≡ bot
  tree_bot = first_tree 0 (omega arith)

  pub tree_top : formula_of rs 1 ≡ top
  tree_top = first_tree 1 (omega arith)

  pub tree_plain : (i : ℕ) → i < length rs → 2 ≤ i → kind (formula_of rs i) ≡ other
  tree_plain i l = (trees_good ok.spec (card_with rs) good i (omega (arith, long))).1

  -- different entries are different trees
  pub trees_differ : (i j : ℕ) → i < length rs → j < length rs → formula_of rs i ≡ formula_of rs j → i ≡ j
  trees_differ i j l h = different_trees ok.spec (card_with rs) good i j (omega (arith, long)) (omega (arith, long))
