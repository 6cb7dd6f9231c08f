-- In an acceptable card different entries are different formulas.
use Rattle.std.proofs.Common.{◌≡◌, ℕ, zero, suc, ◌+◌, ◌<◌, ◌≤◌, true, ◌&&◌, ◌||◌, eqb, leb, ◌⊎◌, List, [], ◌∷◌, ◌++◌, length, get_or, sym, refl, ap, ◌∙◌, subst, inl, inr, arith, length-append}
use mathlib.Core.Bool.{false≢true}
use native.Mathlib.Decide.{ℕ_discrete, dec_lt}
use Rattle.temporal.specs.Formula.{Formula, bot, shape}
use Rattle.temporal.specs.Game.{Spec}
use Rattle.temporal.proofs.Tells.{and_tells, eq_tells, le_tells, self_tells}
use Rattle.tableau.specs.Card.{Entry, Card, no_entry, formula_at, build, tree_of, trees_on, trees, tree_at}
use Rattle.tableau.specs.Form.{variable_formed, part_formed, literal_formed, pair_formed, next_formed, range_formed}
use Rattle.tableau.specs.Form.{formula_formed}
use Rattle.tableau.proofs.Trees.{get_or_left, get_or_end, pick, part_tells, constant_tells, GoodList, first_kind}

-- ── the tree of an entry, from those of its parts ──
abbrev made : (ℕ → Formula) → Entry → Formula
made t f = build f.kind f.variable f.n f.m (t f.a) (t f.b)

early : (fs : List Entry) (ts : List Formula) (k : ℕ) → k < length ts → get_or (trees_on ts fs) k bot ≡ get_or ts k bot
early [] ts k l = refl
early (f ∷ fs) ts k l =
    let x = made (λ k. get_or ts k bot) f in
    early fs (ts ++ (x ∷ [])) k (omega (arith, length-append ts (x ∷ []))) ∙ get_or_left ts (x ∷ []) k bot l

tree_on : (fs : List Entry) (ts : List Formula) (k i : ℕ) → k < length fs → length ts + k ≡ i → (get_or fs k no_entry).a < i
    → (get_or fs k no_entry).b < i
    → get_or (trees_on ts fs) i bot ≡ made (λ j. get_or (trees_on ts fs) j bot) (get_or fs k no_entry)
tree_on [] ts k i l e p q = absurd (omega arith)
tree_on (f ∷ fs) ts zero i l e p q =
    let x = made (λ k. get_or ts k bot) f in
    let u = early fs (ts ++ (x ∷ [])) i (omega (arith, length-append ts (x ∷ []))) ∙ get_or_end ts x i bot (omega arith) in
    u ∙ (λ j. build f.kind f.variable f.n f.m (sym (early (f ∷ fs) ts f.a (omega arith)) j)
    (sym (early (f ∷ fs) ts f.b (omega arith)) j))
tree_on (f ∷ fs) ts (suc k) i l e p q =
    let x = made (λ k. get_or ts k bot) f in
    tree_on fs (ts ++ (x ∷ [])) k i (omega arith) (omega (arith, length-append ts (x ∷ []))) p q

-- the tree of an entry whose parts stand before it
pub tree_step : (c : Card) (i : ℕ) → i < length c.formulas → (formula_at c i).a < i → (formula_at c i).b < i
    → tree_at c i ≡ tree_of (trees c) (formula_at c i)
tree_step c i l p q = tree_on c.formulas [] i i l (omega arith) p q

-- ── a formed entry can be read off its tree ──
pub record Read (i : ℕ) (f : Entry) (x y t : Formula) : Type 0 where
  pub kind : (shape t).operator ≡ f.kind
  pub variable : (shape t).variable ≡ f.variable
  pub n : (shape t).lower ≡ f.n
  pub m : (shape t).upper ≡ f.m
  pub one : (shape t).left ≡ x
  pub two : (shape t).right ≡ y
  pub a : (f.a ≡ 0) ⊎ (f.a < i)
  pub b : (f.b ≡ 0) ⊎ (f.b < i)

module _ (spec : Spec) (i : ℕ) (f : Entry) (x y : Formula) (zero_a : f.a ≡ 0 → x ≡ bot) (zero_b : f.b ≡ 0 → y ≡ bot) where
  abbrev R : Formula → Type 0
  R t = Read i f x y t

  read : formula_formed spec i f ≡ true → R (build f.kind f.variable f.n f.m x y)
  read h =
      pick R f.kind 0 (λ e b. let r = (constant_tells f).0 b in
      record {
        kind = sym e;
        variable = sym r.0;
        n = sym r.1.1.1.0;
        m = sym r.1.1.1.1;
        one = sym (zero_a r.1.0);
        two = sym (zero_b r.1.1.0);
        a = inl r.1.0;
        b = inl r.1.1.0;
      })
      (pick R f.kind 1 (λ e b. let r = (constant_tells f).0 b in
      record {
        kind = sym e;
        variable = sym r.0;
        n = sym r.1.1.1.0;
        m = sym r.1.1.1.1;
        one = sym (zero_a r.1.0);
        two = sym (zero_b r.1.1.0);
        a = inl r.1.0;
        b = inl r.1.1.0;
      })
      (pick R f.kind 2 (λ e b. let r = literal b in
      record {
        kind = sym e;
        variable = refl;
        n = sym r.1.1.0;
        m = sym r.1.1.1;
        one = sym (zero_a r.0);
        two = sym
            (zero_b r.1.0);
        a = inl r.0;
        b = inl r.1.0;
      })
      (pick R f.kind 3 (λ e b. let r = literal b in
      record {
        kind = sym e;
        variable = refl;
        n = sym r.1.1.0;
        m = sym r.1.1.1;
        one = sym (zero_a r.0);
        two = sym
            (zero_b r.1.0);
        a = inl r.0;
        b = inl r.1.0;
      })
      (pick R f.kind 4 (λ e b. let r = pair b in
      record {
        kind = sym e;
        variable = sym r.1.0;
        n = sym r.1.1.0;
        m = sym r.1.1.1;
        one = refl;
        two = refl;
        a = inr
            r.0.0.1;
        b = inr r.0.1.1;
      })
      (pick R f.kind 5 (λ e b. let r = pair b in
      record {
        kind = sym e;
        variable = sym r.1.0;
        n = sym r.1.1.0;
        m = sym r.1.1.1;
        one = refl;
        two = refl;
        a = inr
            r.0.0.1;
        b = inr r.0.1.1;
      })
      (pick R f.kind 6 (λ e b. let r = nexts b in
      record {
        kind = sym e;
        variable = sym r.1.0;
        n = refl;
        m = sym r.1.1.1;
        one = refl;
        two = sym (zero_b r.1.1.0);
        a = inr r.0.1.1;
        b = inl r.1.1.0;
      })
      (pick R f.kind 7 (λ e b. let r = range b in
      record {
        kind = sym e;
        variable = sym r.1.0;
        n = refl;
        m = refl;
        one = refl;
        two = sym (zero_b r.1.1);
        a = inr
            r.0.1.1;
        b = inl r.1.1;
      })
      (pick R f.kind 8 (λ e b. let r = range b in
      record {
        kind = sym e;
        variable = sym r.1.0;
        n = refl;
        m = refl;
        one = refl;
        two = sym (zero_b r.1.1);
        a = inr
            r.0.1.1;
        b = inl r.1.1;
      })
      (λ b. absurd (false≢true b)))))))))) ((and_tells (leb 2 i || eqb f.kind i) _ (self_tells _) (self_tells _)).0 h).1
    where
      literal : literal_formed spec f ≡ true → (f.a ≡ 0) × ((f.b ≡ 0) × ((f.n ≡ 0) × (f.m ≡ 0)))
      literal b =
          ((and_tells (variable_formed spec f.variable) _ (self_tells _)
          (and_tells (eqb f.a 0) _ (eq_tells _ _)
          (and_tells (eqb f.b 0) _ (eq_tells _ _) (and_tells (eqb f.n 0) _ (eq_tells _ _) (eq_tells _ _))))).0 b).1

      pair : pair_formed i f ≡ true → (((2 ≤ f.a) × (f.a < i)) × ((2 ≤ f.b) × (f.b < i)))
          × ((f.variable ≡ 0) × ((f.n ≡ 0) × (f.m ≡ 0)))
      pair b =
          (and_tells (part_formed i f.a && part_formed i f.b) _
          (and_tells (part_formed i f.a) _ (part_tells i f.a) (part_tells i f.b))
          (and_tells (eqb f.variable 0) _ (eq_tells _ _) (and_tells (eqb f.n 0) _ (eq_tells _ _) (eq_tells _ _)))).0 b

      nexts : next_formed i f ≡ true → (((1 ≤ f.n) × (f.n ≤ 4095)) × ((2 ≤ f.a) × (f.a < i)))
          × ((f.variable ≡ 0) × ((f.b ≡ 0) × (f.m ≡ 0)))
      nexts b =
          (and_tells ((leb 1 f.n && leb f.n 4095) && part_formed i f.a) _
          (and_tells (leb 1 f.n && leb f.n 4095) _ (and_tells (leb 1 f.n) _ (le_tells _ _) (le_tells _ _))
          (part_tells i f.a))
          (and_tells (eqb f.variable 0) _ (eq_tells _ _) (and_tells (eqb f.b 0) _ (eq_tells _ _) (eq_tells _ _)))).0 b

      range : range_formed i f ≡ true → (((f.n ≤ f.m) × (f.m ≤ 4095)) × ((2 ≤ f.a) × (f.a < i))) × ((f.variable ≡ 0) × (f.b ≡ 0))
      range b =
          (and_tells ((leb f.n f.m && leb f.m 4095) && part_formed i f.a) _
          (and_tells (leb f.n f.m && leb f.m 4095) _ (and_tells (leb f.n f.m) _ (le_tells _ _) (le_tells _ _))
          (part_tells i f.a))
          (and_tells (eqb f.variable 0) _ (eq_tells _ _) (eq_tells _ _))).0 b

zero_tree : (fs : List Entry) → 1 ≤ length fs → (get_or fs 0 no_entry).kind ≡ 0 → get_or (trees_on [] fs) 0 bot ≡ bot
zero_tree [] l e = refl
zero_tree (f ∷ fs) l e = early fs (made (λ k. bot) f ∷ []) 0 (omega arith) ∙ ap (λ k. build k f.variable f.n f.m bot bot) e

module _ (spec : Spec) (c : Card) (ok : GoodList spec c) where
  tree_zero : tree_at c 0 ≡ bot
  tree_zero = zero_tree c.formulas (omega (arith, ok.two_formulas)) (first_kind spec c ok 0 (omega arith))

  -- each formed entry is read off its tree
  pub tree_read : (i : ℕ) → i < length c.formulas
      → Read i (formula_at c i) (tree_at c (formula_at c i).a) (tree_at c (formula_at c i).b) (tree_at c i)
  tree_read i l = subst (Read i (formula_at c i) (tree_at c (formula_at c i).a) (tree_at c (formula_at c i).b)) (sym (step i l r)) r
    where
      f : Entry
      f = formula_at c i

      r : Read i (formula_at c i) (tree_at c (formula_at c i).a) (tree_at c (formula_at c i).b) (made (tree_at c) (formula_at c i))
      r = read spec i (formula_at c i) (tree_at c (formula_at c i).a) (tree_at c (formula_at c i).b)
          (λ e. ap (tree_at c) e ∙ tree_zero) (λ e. ap (tree_at c) e ∙ tree_zero) (ok.formulas i l)

      step : (i : ℕ) → i < length c.formulas
          → Read i (formula_at c i) (tree_at c (formula_at c i).a) (tree_at c (formula_at c i).b) (made (tree_at c) (formula_at c i))
          → tree_at c i ≡ made (tree_at c) (formula_at c i)
      step zero l r =
          tree_zero ∙ ap (λ k. build k (formula_at c 0).variable (formula_at c 0).n (formula_at c 0).m (tree_at c (formula_at c 0).a)
          (tree_at c (formula_at c 0).b)) (sym (first_kind spec c ok 0 (omega arith)))
      step (suc k) l r =
          tree_step c (suc k) l (elim r.a [ inl e ↦ omega arith | inr m ↦ m ]) (elim r.b [ inl e ↦ omega arith | inr m ↦ m ])

  one_entry : (n i j : ℕ) → i < n → j < n → n ≤ length c.formulas → tree_at c i ≡ tree_at c j → i ≡ j
  one_entry zero i j p q l e = absurd (omega arith)
  one_entry (suc n) i j p q l e = go (ℕ_discrete i j) (one_entry n)
    where
      go : Dec (i ≡ j) → ((a b : ℕ) → a < n → b < n → n ≤ length c.formulas → tree_at c a ≡ tree_at c b → a ≡ b) → i ≡ j
      go (yes d) ih = d
      go (no d) ih =
          let x = tree_read i (omega arith) in
          let y = tree_read j (omega arith) in
          let o : n ≤ length c.formulas = omega arith in
          let a : (formula_at c i).a ≡ (formula_at c j).a = ih (formula_at c i).a (formula_at c j).a (bound i p x).0 (bound j q y).0 o
          (sym x.one ∙ ap (λ (t : Formula). (shape t).left) e ∙ y.one) in
          let b : (formula_at c i).b ≡ (formula_at c j).b = ih (formula_at c i).b (formula_at c j).b (bound i p x).1 (bound j q y).1 o
          (sym x.two ∙ ap (λ (t : Formula). (shape t).right) e ∙ y.two) in
          let k : (formula_at c i).kind ≡ (formula_at c j).kind = sym x.kind ∙ ap (λ (t : Formula). (shape t).operator) e ∙ y.kind in
          let v : (formula_at c i).variable ≡ (formula_at c j).variable = sym x.variable ∙ ap (λ (t : Formula). (shape t).variable) e
          ∙ y.variable in
          let w : (formula_at c i).n ≡ (formula_at c j).n = sym x.n ∙ ap (λ (t : Formula). (shape t).lower) e ∙ y.n in
          let z : (formula_at c i).m ≡ (formula_at c j).m = sym x.m ∙ ap (λ (t : Formula). (shape t).upper) e ∙ y.m in
          absurd (apart (dec_lt i j) (λ h. record { kind = k h; variable = v h; a = a h; b = b h; n = w h; m = z h }))
        where
          some : 0 < n
          some = omega arith

          under : (h k : ℕ) → h < suc n → (k ≡ 0) ⊎ (k < h) → k < n
          under h k g (inl z) = omega (arith, some)
          under h k g (inr m) = omega arith

          bound : (h : ℕ) {t u w : Formula} → h < suc n → Read h (formula_at c h) t u w → ((formula_at c h).a < n) × ((formula_at c h).b < n)
          bound h g r = (under h (formula_at c h).a g r.a, under h (formula_at c h).b g r.b)

          apart : Dec (i < j) → formula_at c i ≡ formula_at c j → ⊥
          apart (yes m) r = ok.different j (omega arith) i m r
          apart (no m) r = ok.different i (omega arith) j (omega arith) (sym r)

  -- different entries, different formulas
  pub different_trees : (i j : ℕ) → i < length c.formulas → j < length c.formulas → tree_at c i ≡ tree_at c j → i ≡ j
  different_trees i j p q e = one_entry (length c.formulas) i j p q (omega arith) e
