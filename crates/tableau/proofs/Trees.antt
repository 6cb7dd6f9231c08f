-- The trees of an acceptable card's formulas are in normal form.
use Rattle.std.proofs.Common.{◌≡◌, ℕ, zero, suc, ◌+◌, ◌<◌, ◌≤◌, Bool, true, false, cond, ◌&&◌, ◌||◌, eqb, ltb, leb, List, [], ◌∷◌, ◌++◌, length, get_or, sym, refl, ◌∙◌, subst, inl, inr, arith, length-append, eqb-true}
use mathlib.Core.Bool.{false≢true}
use native.Mathlib.Decide.{dec_lt}
use Rattle.temporal.specs.Formula.{Formula, bot, other, kind, Numbered, Fine}
use Rattle.temporal.specs.Game.{Spec}
use Rattle.temporal.proofs.Tells.{Tells, and_tells, or_tells, eq_tells, lt_tells, le_tells, self_tells}
use Rattle.tableau.specs.Card.{Entry, Card, formula_at, by_kind, build, tree_of, trees_on, tree_at}
use Rattle.tableau.specs.Form.{variable_formed, part_formed, constant_formed, literal_formed, pair_formed, next_formed, range_formed}
use Rattle.tableau.specs.Form.{formula_formed}
use Rattle.tableau.specs.Acceptable.{IsNew, Acceptable}

-- ── lists ──
pub get_or_left : {A : Type 0} (xs ys : List A) (k : ℕ) (d : A) → k < length xs → get_or (xs ++ ys) k d ≡ get_or xs k d
get_or_left [] ys k d l = absurd (omega arith)
get_or_left (x ∷ xs) ys zero d l = refl
get_or_left (x ∷ xs) ys (suc k) d l = get_or_left xs ys k d (omega arith)

pub get_or_end : {A : Type 0} (xs : List A) (y : A) (k : ℕ) (d : A) → k ≡ length xs → get_or (xs ++ (y ∷ [])) k d ≡ y
get_or_end [] y zero d e = refl
get_or_end [] y (suc k) d e = absurd (omega arith)
get_or_end (x ∷ xs) y zero d e = absurd (omega arith)
get_or_end (x ∷ xs) y (suc k) d e = get_or_end xs y k d (omega arith)

pub length_trees : (ts : List Formula) (fs : List Entry) → length (trees_on ts fs) ≡ length ts + length fs
length_trees ts [] = omega arith
length_trees ts (f ∷ fs) =
    let x = tree_of ts f in
    omega (arith, length_trees (ts ++ (x ∷ [])) fs, length-append ts (x ∷ []))

-- ── what the form says ──
pub pick : (P : Formula → Type 0) (k j : ℕ) {b c : Bool} {f g : Formula} → (k ≡ j → b ≡ true → P f) → (c ≡ true → P g)
    → cond (eqb k j) b c ≡ true → P (cond (eqb k j) f g)
pick P k j {b} {c} {f} {g} x y h = go (eqb k j) refl h
  where
    go : (t : Bool) → eqb k j ≡ t → cond t b c ≡ true → P (cond t f g)
    go true e h = x (eqb-true k j e) h
    go false e h = y h

pub variable_tells : (spec : Spec) (v : ℕ) → Tells (variable_formed spec v) (Numbered spec.environment spec.system v)
variable_tells spec v =
    or_tells (ltb v 16 && ltb v spec.environment) _ (and_tells (ltb v 16) _ (lt_tells _ _) (lt_tells _ _))
    (and_tells (leb 16 v) _ (le_tells _ _) (lt_tells _ _))

pub part_tells : (i a : ℕ) → Tells (part_formed i a) ((2 ≤ a) × (a < i))
part_tells i a = and_tells (leb 2 a) _ (le_tells _ _) (lt_tells _ _)

-- in normal form, and no constant from entry 2 on
abbrev Good : Spec → ℕ → Formula → Type 0
Good spec i f = Fine spec.environment spec.system f × (2 ≤ i → kind f ≡ other)

module _ (spec : Spec) (i : ℕ) (f : Entry) (x y : Formula) where
  abbrev Whole : Formula → Type 0
  Whole g = Good spec i g

  abbrev Sound : ℕ → Formula → Type 0
  Sound a g = 2 ≤ a → a < i → (kind g ≡ other) × Fine spec.environment spec.system g

  built : formula_formed spec i f ≡ true → (2 ≤ i → 2 ≤ f.kind) → Sound f.a x → Sound f.b y
      → Whole (build f.kind f.variable f.n f.m x y)
  built h k px py =
      pick Whole f.kind 0 (λ e _. (tt, λ l. absurd (omega (arith, k l))))
      (pick Whole f.kind 1 (λ e _. (tt, λ l. absurd (omega (arith, k l))))
      (pick Whole f.kind 2 (λ e b. (literal b, λ l. refl))
      (pick Whole f.kind 3 (λ e b. (literal b, λ l. refl))
      (pick Whole f.kind 4 (λ e b. (pair b, λ l. refl))
      (pick Whole f.kind 5 (λ e b. (pair b, λ l. refl))
      (pick Whole f.kind 6 (λ e b. (nexts b, λ l. refl))
      (pick Whole f.kind 7 (λ e b. (range b, λ l. refl))
      (pick Whole f.kind 8 (λ e b. (range b, λ l. refl)) (λ b. absurd (false≢true b)))))))))) fields
    where
      fields : by_kind f.kind (constant_formed f) (constant_formed f) (literal_formed spec f) (literal_formed spec f) (pair_formed i f)
          (pair_formed i f) (next_formed i f) (range_formed i f) (range_formed i f) false ≡ true
      fields = ((and_tells (leb 2 i || eqb f.kind i) _ (self_tells _) (self_tells _)).0 h).1

      literal : literal_formed spec f ≡ true → Numbered spec.environment spec.system f.variable
      literal b = ((and_tells (variable_formed spec f.variable) _ (variable_tells spec f.variable) (self_tells _)).0 b).0

      pair : pair_formed i f ≡ true → ((kind x ≡ other) × Fine spec.environment spec.system x)
          × ((kind y ≡ other) × Fine spec.environment spec.system y)
      pair b =
          let r = ((and_tells (part_formed i f.a && part_formed i f.b) _
          (and_tells (part_formed i f.a) _ (part_tells i f.a) (part_tells i f.b)) (self_tells _)).0 b).0 in
          (px r.0.0 r.0.1, py r.1.0 r.1.1)

      nexts : next_formed i f ≡ true → ((1 ≤ f.n) × (f.n ≤ 4095)) × ((kind x ≡ other) × Fine spec.environment spec.system x)
      nexts b =
          let r = ((and_tells ((leb 1 f.n && leb f.n 4095) && part_formed i f.a) _
          (and_tells (leb 1 f.n && leb f.n 4095) _ (and_tells (leb 1 f.n) _ (le_tells _ _) (le_tells _ _))
          (part_tells i f.a)) (self_tells _)).0 b).0 in
          (r.0, px r.1.0 r.1.1)

      range : range_formed i f ≡ true → ((f.n ≤ f.m) × (f.m ≤ 4095)) × ((kind x ≡ other) × Fine spec.environment spec.system x)
      range b =
          let r = ((and_tells ((leb f.n f.m && leb f.m 4095) && part_formed i f.a) _
          (and_tells (leb f.n f.m && leb f.m 4095) _ (and_tells (leb f.n f.m) _ (le_tells _ _) (le_tells _ _))
          (part_tells i f.a)) (self_tells _)).0 b).0 in
          (r.0, px r.1.0 r.1.1)

-- ── the fold ──
abbrev zeros : ℕ → Entry
zeros k = record { kind = k; variable = 0; a = 0; b = 0; n = 0; m = 0 }

abbrev Entries : Spec → ℕ → List Entry → Type 0
Entries spec i fs = (j : ℕ) → j < length fs → (formula_formed spec (i + j) (get_or fs j (zeros 0)) ≡ true)
    × (2 ≤ i + j → 2 ≤ (get_or fs j (zeros 0)).kind)

abbrev AllGood : Spec → List Formula → Type 0
AllGood spec ts = (k : ℕ) → k < length ts → Good spec k (get_or ts k bot)

grown : (spec : Spec) (ts : List Formula) (x : Formula) → AllGood spec ts → Good spec (length ts) x → AllGood spec (ts ++ (x ∷ []))
grown spec ts x g h k l = go (dec_lt k (length ts))
  where
    go : Dec (k < length ts) → Good spec k (get_or (ts ++ (x ∷ [])) k bot)
    go (yes m) = subst (Good spec k) (sym (get_or_left ts (x ∷ []) k bot m)) (g k m)
    go (no m) =
        let e : k ≡ length ts = omega (arith, length-append ts (x ∷ [])) in
        subst (Good spec k) (sym (get_or_end ts x k bot e)) (subst (λ (j : ℕ). Good spec j x) (sym e) h)

all_good : (spec : Spec) (fs : List Entry) (ts : List Formula) → AllGood spec ts → Entries spec (length ts) fs
    → AllGood spec (trees_on ts fs)
all_good spec [] ts g h = g
all_good spec (f ∷ fs) ts g h =
    let x = tree_of ts f in
    let z : length ts + 0 ≡ length ts = omega arith in
    let o = h 0 (omega arith) in
    let a : formula_formed spec (length ts) f ≡ true = subst (λ (i : ℕ). formula_formed spec i f ≡ true) z o.0 in
    let w : Good spec (length ts) x = built spec (length ts) f (get_or ts f.a bot) (get_or ts f.b bot) a (λ l. o.1 (omega arith))
    (λ p q. ((g f.a q).1 p, (g f.a q).0)) (λ p q. ((g f.b q).1 p, (g f.b q).0)) in
    let n : length (ts ++ (x ∷ [])) ≡ suc (length ts) = omega (arith, length-append ts (x ∷ [])) in
    all_good spec fs (ts ++ (x ∷ [])) (grown spec ts x g w)
    (λ j l. let e : length ts + suc j ≡ length (ts ++ (x ∷ [])) + j = omega arith in
    let r = h (suc j) (omega arith) in
    (subst (λ (i : ℕ). formula_formed spec i (get_or fs j (zeros 0)) ≡ true) e r.0, λ q. r.1 (omega arith)))

-- ── in an acceptable card ──
pub constant_tells : (f : Entry) → Tells (constant_formed f) ((f.variable ≡ 0) × ((f.a ≡ 0) × ((f.b ≡ 0) × ((f.n ≡ 0) × (f.m ≡ 0)))))
constant_tells f =
    and_tells (eqb f.variable 0) _ (eq_tells _ _) (and_tells (eqb f.a 0) _ (eq_tells _ _) (and_tells (eqb f.b 0) _ (eq_tells _ _)
    (and_tells (eqb f.n 0) _ (eq_tells _ _) (eq_tells _ _))))

low : (spec : Spec) (i : ℕ) (f : Entry) (k : ℕ) → k < 2
    → by_kind k (constant_formed f) (constant_formed f) (literal_formed spec f) (literal_formed spec f) (pair_formed i f) (pair_formed i f)
    (next_formed i f) (range_formed i f) (range_formed i f) false ≡ true
    → constant_formed f ≡ true
low spec i f zero l h = h
low spec i f (suc zero) l h = h
low spec i f (suc (suc k)) l h = absurd (omega arith)

-- what is used of it: the formula list has its form, and no entry stands twice
pub record GoodList (spec : Spec) (c : Card) : Type 0 where
  pub two_formulas : 2 ≤ length c.formulas
  pub formulas : (i : ℕ) → i < length c.formulas → formula_formed spec i (formula_at c i) ≡ true
  pub different : (i : ℕ) → i < length c.formulas → IsNew c i

pub good_list : (spec : Spec) (c : Card) → Acceptable spec c → GoodList spec c
good_list spec c ok = record { two_formulas = ok.two_formulas; formulas = ok.formulas; different = ok.different }

module _ (spec : Spec) (c : Card) (ok : GoodList spec c) where
  -- an entry of kind 0 or 1 has 0 in all other fields
  pub constant : (i k : ℕ) → i < length c.formulas → (formula_at c i).kind ≡ k → k < 2 → formula_at c i ≡ zeros k
  constant i k l e b =
      let f = formula_at c i in
      let w = ((and_tells (leb 2 i || eqb f.kind i) _ (or_tells (leb 2 i) _ (le_tells _ _) (eq_tells _ _)) (self_tells _)).0
      (ok.formulas i l)).1 in
      let r = (constant_tells f).0 (low spec i f f.kind (omega arith) w) in
      λ j. record { kind = e j; variable = r.0 j; a = r.1.0 j; b = r.1.1.0 j; n = r.1.1.1.0 j; m = r.1.1.1.1 j }

  pub first_kind : (i : ℕ) → i < 2 → (formula_at c i).kind ≡ i
  first_kind i l =
      let f = formula_at c i in
      let w = ((and_tells (leb 2 i || eqb f.kind i) _ (or_tells (leb 2 i) _ (le_tells _ _) (eq_tells _ _)) (self_tells _)).0
      (ok.formulas i (omega (arith, ok.two_formulas)))).0 in
      elim w [ inl m ↦ absurd (omega arith) | inr e ↦ e ]

  later_kind : (i : ℕ) → i < length c.formulas → 2 ≤ i → 2 ≤ (formula_at c i).kind
  later_kind i l b = go (dec_lt (formula_at c i).kind 2)
    where
      go : Dec ((formula_at c i).kind < 2) → 2 ≤ (formula_at c i).kind
      go (no n) = omega arith
      go (yes m) =
          let j = (formula_at c i).kind in
          absurd (ok.different i l j (omega arith)
          (constant j j (omega (arith, ok.two_formulas)) (first_kind j m) m ∙ sym (constant i j l refl m)))

  pub trees_good : (k : ℕ) → k < length c.formulas → Good spec k (tree_at c k)
  trees_good k l =
      all_good spec c.formulas [] (λ k l. absurd (omega arith))
      (λ j l. let e : j ≡ 0 + j = omega arith in
      (subst (λ (i : ℕ). formula_formed spec i (formula_at c j) ≡ true) e (ok.formulas j l), λ q. later_kind j l (omega arith)))
      k (omega (arith, length_trees [] c.formulas))
