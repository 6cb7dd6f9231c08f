-- A record whose parts have their numbers is listed exactly where the entry's formula is.
use Rattle.std.proofs.Common.{◌≡◌, ℕ, zero, suc, ◌+◌, ◌<◌, true, false, ltb, ◌≢◌, List, [], ◌∷◌, map, length, get_or, set, Some, Option, sym, ap, refl, ◌∙◌, subst, inl, arith, below_more}
use Rattle.std.specs.List.{slice_get}
use Rattle.std.proofs.lemmas.List.{get_or-set_same, get_or-set_other}
use Rattle.std.proofs.lemmas.Option.{slice_get-get_or}
use Rattle.std.proofs.lemmas.Bool.{and_parts, and_from, and_left, and_right, ltb-true}
use Rattle.temporal.specs.Formula.{Formula as Tree, bot, conj, disj, next, always, eventually}
use Rattle.temporal.specs.Parts.{member}
use Rattle.formulas.specs.declared.Formula.{Formula}
use Rattle.formulas.specs.declared.Formula.TheVariants as entry
use Rattle.formulas.specs.Trees.{grow, trees, parts_below, ordered}
use Rattle.formulas.proofs.Trees.{tree_built, ordered_at}
use Rattle.index.specs.Keyed.{Found}
use Rattle.index.specs.declared.Slot.{Slot}
use Rattle.records.specs.declared.FormulaRecord.{FormulaRecord}
use Rattle.records.specs.Kinds.{recorded}
use Rattle.records.specs.Table.{formulas_of, formula_of}
use Rattle.rested.specs.declared.key.FormulaKey.{FormulaKey}
use Rattle.rested.specs.Listing.{InForm, Ready, key_of}
use Rattle.rested.specs.Rests.{has_all, Placed}
use Rattle.rested.specs.Steps.{Listed}
use Rattle.rested.proofs.Found.{ListedAt, found_placed, conj_placed, disj_placed, next_placed, always_placed, eventually_placed}
use Rattle.rested.proofs.Trees.{trees_long, tree_bot}
use Rattle.located.specs.Numbers.{renumbered, NumberedBelow}

module _ (rs : List FormulaRecord) (ok : InForm rs) where
  -- constants and literals have no parts
  bot_is : bot ≡ formula_of rs 0
  bot_is = sym (tree_bot rs ok)

  -- ts are the formulas of the entries; those before place i have their numbers
  module _ (ts : List Tree) (numbers : List ℕ) (i : ℕ)
      (below : (k : ℕ) → k < i → Placed (formulas_of rs) (get_or ts k bot) (Some (get_or numbers k 0))) (o : Option ℕ) where
    in_list : (k : ℕ) → ltb k i ≡ true → get_or numbers k 0 < length rs
    in_list k h = omega (arith, (below k (ltb-true k i h)).0, trees_long rs ok)

    part_is : (k : ℕ) → ltb k i ≡ true → formula_of rs (get_or numbers k 0) ≡ get_or ts k bot
    part_is k h = (below k (ltb-true k i h)).1

    abbrev Here : Tree → Type 0
    Here f = Placed (formulas_of rs) f o

    pub entry_placed : (e : Formula) → parts_below i e ≡ true → ListedAt rs ok (renumbered numbers e) o → Here (grow ts e)
    entry_placed entry.False h l =
        found_placed rs ok (recorded entry.False) o
        (record { kind = refl; variable = refl; n = refl; m = refl; one = bot_is; two = bot_is; a = inl refl; b = inl refl }) l
    entry_placed entry.True h l =
        found_placed rs ok (recorded entry.True) o
        (record { kind = refl; variable = refl; n = refl; m = refl; one = bot_is; two = bot_is; a = inl refl; b = inl refl }) l
    entry_placed (entry.Variable v) h l =
        found_placed rs ok (recorded (entry.Variable v)) o
        (record { kind = refl; variable = refl; n = refl; m = refl; one = bot_is; two = bot_is; a = inl refl; b = inl refl }) l
    entry_placed (entry.Negated v) h l =
        found_placed rs ok (recorded (entry.Negated v)) o
        (record { kind = refl; variable = refl; n = refl; m = refl; one = bot_is; two = bot_is; a = inl refl; b = inl refl }) l
    entry_placed (entry.And a b) h l =
        let p = and_parts (ltb a i) (ltb b i) h in
        let x = get_or numbers a 0 in
        let y = get_or numbers b 0 in
        subst Here (λ j. conj (part_is a p.0 j) (part_is b p.1 j)) (conj_placed rs ok x y (in_list a p.0) (in_list b p.1) o l)
    entry_placed (entry.Or a b) h l =
        let p = and_parts (ltb a i) (ltb b i) h in
        let x = get_or numbers a 0 in
        let y = get_or numbers b 0 in
        subst Here (λ j. disj (part_is a p.0 j) (part_is b p.1 j)) (disj_placed rs ok x y (in_list a p.0) (in_list b p.1) o l)
    entry_placed (entry.Next n a) h l =
        subst Here (λ j. next n (part_is a h j)) (next_placed rs ok (get_or numbers a 0) n 0 (in_list a h) o l)
    entry_placed (entry.Always n m a) h l =
        subst Here (λ j. always n m (part_is a h j)) (always_placed rs ok (get_or numbers a 0) n m (in_list a h) o l)
    entry_placed (entry.Eventually n m a) h l =
        subst Here (λ j. eventually n m (part_is a h j)) (eventually_placed rs ok (get_or numbers a 0) n m (in_list a h) o l)

-- a list has all formulas that it has one by one, and not all if it lacks one
pub has_each : (ts fs : List Tree) → ((k : ℕ) → k < length fs → member (get_or fs k bot) ts ≡ true) → has_all ts fs ≡ true
has_each ts [] h = refl
has_each ts (f ∷ fs) h =
    and_from (member f ts) (has_all ts fs) (h 0 (omega arith)) (has_each ts fs (λ k l. h (suc k) (omega arith)))

pub lacks_one : (ts fs : List Tree) (k : ℕ) → k < length fs → member (get_or fs k bot) ts ≡ false → has_all ts fs ≡ false
lacks_one ts [] k l h = absurd (omega arith)
lacks_one ts (f ∷ fs) zero l h = and_left (member f ts) (has_all ts fs) h
lacks_one ts (f ∷ fs) (suc k) l h = and_right (member f ts) (has_all ts fs) (lacks_one ts fs k (omega arith) h)

-- ── the entry at a place ──
-- e is entry i, x the entry with its parts by their numbers, and f the record of x
pub numbered_at : (es : List Formula) (slots : List (Slot FormulaKey)) (numbers : List ℕ) (i : ℕ) (e x : Formula) (f : FormulaRecord) (o : Option ℕ)
    → i < length es → e ≡ get_or es i e → x ≡ renumbered numbers e → f ≡ recorded x → Listed slots f o
    → (rs : List FormulaRecord) → Ready rs slots → ordered es ≡ true → NumberedBelow i es rs numbers
    → Placed (formulas_of rs) (get_or (trees es) i bot) o
numbered_at es slots numbers i e x f o l at is entered found rs ready in_order below =
    let here : slice_get es i ≡ Some e = slice_get-get_or es i e l ∙ ap Some (sym at) in
    subst (λ (t : Tree). Placed (formulas_of rs) t o) (sym (tree_built es i e in_order here))
    (entry_placed rs ready.listing (trees es) numbers i below o e (ordered_at es i e in_order here)
    (subst (λ (g : FormulaRecord). Found (map key_of rs) (key_of g) o) (entered ∙ ap recorded is) (found rs ready)))

-- one more formula has its number
pub numbered_more : (es : List Formula) (rs : List FormulaRecord) (numbers : List ℕ) (i n : ℕ) → i < length numbers
    → NumberedBelow i es rs numbers → Placed (formulas_of rs) (get_or (trees es) i bot) (Some n) → NumberedBelow (i + 1) es rs (set numbers i n)
numbered_more es rs numbers i n l below here =
    let P : ℕ → ℕ → Type 0 = λ k m. Placed (formulas_of rs) (get_or (trees es) k bot) (Some m) in
    below_more (λ k. P k (get_or (set numbers i n) k 0)) i
    (λ k h. let ne : k ≢ i = omega arith in subst (P k) (sym (get_or-set_other numbers i k n 0 ne)) (below k h))
    (subst (P i) (sym (get_or-set_same numbers i n 0 l)) here)
