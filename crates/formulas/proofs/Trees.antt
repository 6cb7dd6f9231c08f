-- Entries and their trees: in a list without doubles, equal trees are of equal entries.
use Rattle.std.proofs.Common.{◌≡◌, ℕ, zero, suc, ◌+◌, ◌<◌, ◌≤◌, Bool, true, false, cond, ◌&&◌, ltb, List, [], ◌∷◌, ◌++◌, length, get_or, Some, sym, refl, ap, ◌∙◌, subst, arith}
use Rattle.std.specs.List.{slice_get}
use Rattle.std.proofs.lemmas.Bool.{and_parts, and_from, ltb-true, lt-ltb}
use Rattle.std.proofs.lemmas.Option.{slice_get-get_or, slice_get_within}
use Rattle.temporal.specs.Formula.{Formula as Tree, bot, conj, disj, next, always, eventually, same}
use Rattle.temporal.specs.Parts.{◌∈◌, Once}
use Rattle.temporal.proofs.Lists.{at_member, place, cast}
use Rattle.temporal.proofs.Same.{same_sound, same_refl}
use Rattle.formulas.specs.declared.Formula.{Formula}
use Rattle.formulas.specs.declared.Formula.TheVariants as entry
use Rattle.formulas.specs.Trees.{grow, trees, parts_below, ordered_from, ordered, place_of, entry_of}
use Rattle.index.specs.Keyed.{NotIn}
use Rattle.formulas.proofs.Folds.{Alike, built_at, fold_append, fold_length}

alike : Alike grow bot parts_below
alike ts us entry.False i b h = refl
alike ts us entry.True i b h = refl
alike ts us (entry.Variable v) i b h = refl
alike ts us (entry.Negated v) i b h = refl
alike ts us (entry.And x y) i b h =
    let p = and_parts (ltb x i) (ltb y i) b in λ j. conj (h x (ltb-true x i p.0) j) (h y (ltb-true y i p.1) j)
alike ts us (entry.Or x y) i b h =
    let p = and_parts (ltb x i) (ltb y i) b in λ j. disj (h x (ltb-true x i p.0) j) (h y (ltb-true y i p.1) j)
alike ts us (entry.Next n x) i b h = ap (next n) (h x (ltb-true x i b))
alike ts us (entry.Always n m x) i b h = ap (always n m) (h x (ltb-true x i b))
alike ts us (entry.Eventually n m x) i b h = ap (eventually n m) (h x (ltb-true x i b))

lift : (a i k : ℕ) → i ≤ k → ltb a i ≡ true → ltb a k ≡ true
lift a i k l h = let p = ltb-true a i h in lt-ltb a k (omega arith)

lift_both : (a b i k : ℕ) → i ≤ k → (ltb a i && ltb b i) ≡ true → (ltb a k && ltb b k) ≡ true
lift_both a b i k l h = let p = and_parts (ltb a i) (ltb b i) h in and_from (ltb a k) (ltb b k) (lift a i k l p.0) (lift b i k l p.1)

pub below_more : (i k : ℕ) (e : Formula) → i ≤ k → parts_below i e ≡ true → parts_below k e ≡ true
below_more i k entry.False l h = refl
below_more i k entry.True l h = refl
below_more i k (entry.Variable v) l h = refl
below_more i k (entry.Negated v) l h = refl
below_more i k (entry.And x y) l h = lift_both x y i k l h
below_more i k (entry.Or x y) l h = lift_both x y i k l h
below_more i k (entry.Next n x) l h = lift x i k l h
below_more i k (entry.Always n m x) l h = lift x i k l h
below_more i k (entry.Eventually n m x) l h = lift x i k l h

-- ── order ──
ordered_from_at : (i : ℕ) (es : List Formula) (j : ℕ) (e : Formula) → ordered_from i es ≡ true → slice_get es j ≡ Some e
    → parts_below (i + j) e ≡ true
ordered_from_at i [] j e o n = let z : ◌≡◌ {A = ℕ} 0 1 = cc in absurd (omega arith)
ordered_from_at i (x ∷ es) zero e o n =
    let s : x ≡ e = cc in
    let k : i + 0 ≡ i = omega arith in
    rw k (subst (λ (y : Formula). parts_below i y ≡ true) s (and_parts (parts_below i x) (ordered_from (suc i) es) o).0)
ordered_from_at i (x ∷ es) (suc j) e o n =
    let k : i + suc j ≡ suc i + j = omega arith in
    rw k (ordered_from_at (suc i) es j e (and_parts (parts_below i x) (ordered_from (suc i) es) o).1 n)

pub ordered_at : (es : List Formula) (j : ℕ) (e : Formula) → ordered es ≡ true → slice_get es j ≡ Some e → parts_below j e ≡ true
ordered_at es j e o n =
    let k : 0 + j ≡ j = omega arith in subst (λ (i : ℕ). parts_below i e ≡ true) k (ordered_from_at 0 es j e o n)

ordered_from_push : (i k : ℕ) (es : List Formula) (e : Formula) → i + length es ≡ k → ordered_from i es ≡ true → parts_below k e ≡ true
    → ordered_from i (es ++ e ∷ []) ≡ true
ordered_from_push i k [] e l o b =
    let s : k ≡ i = omega arith in and_from (parts_below i e) true (subst (λ (j : ℕ). parts_below j e ≡ true) s b) refl
ordered_from_push i k (x ∷ es) e l o b =
    let p = and_parts (parts_below i x) (ordered_from (suc i) es) o in
    and_from (parts_below i x) (ordered_from (suc i) (es ++ e ∷ [])) p.0 (ordered_from_push (suc i) k es e (omega arith) p.1 b)

pub ordered_push : (es : List Formula) (e : Formula) → ordered es ≡ true → parts_below (length es) e ≡ true → ordered (es ++ e ∷ []) ≡ true
ordered_push es e o b = ordered_from_push 0 (length es) es e (omega arith) o b

-- ── trees ──
pub trees_length : (es : List Formula) → length (trees es) ≡ length es
trees_length es = fold_length grow [] es ∙ omega arith

pub trees_push : (es : List Formula) (e : Formula) → trees (es ++ e ∷ []) ≡ trees es ++ grow (trees es) e ∷ []
trees_push es e = fold_append grow [] es (e ∷ [])

-- each tree is built of the whole list of trees
pub tree_built : (es : List Formula) (i : ℕ) (e : Formula) → ordered es ≡ true → slice_get es i ≡ Some e → get_or (trees es) i bot ≡ grow (trees es) e
tree_built es i e o n = built_at grow bot parts_below alike es i e n (ordered_at es i e o n)

pub tree_at_lem : (es : List Formula) (i : ℕ) (e : Formula) → ordered es ≡ true → slice_get es i ≡ Some e
    → slice_get (trees es) i ≡ Some (grow (trees es) e)
tree_at_lem es i e o n =
    let l : i < length (trees es) = omega (arith, trees_length es, slice_get_within es i e n) in
    slice_get-get_or (trees es) i bot l ∙ ap Some (tree_built es i e o n)

-- ── the entry of a tree ──
pub placed : (ys : List Tree) (a : ℕ) → Once ys → a < length ys → place_of (get_or ys a bot) ys ≡ a
placed [] a o h = absurd (omega arith)
placed (y ∷ ys) zero o h = ap (λ b. cond b 0 (suc (place_of y ys))) (same_refl y)
placed (y ∷ ys) (suc a) o h = go (same (get_or ys a bot) y) refl (placed ys a o.1 (omega arith))
  where
    go : (b : Bool) → same (get_or ys a bot) y ≡ b → place_of (get_or ys a bot) ys ≡ a → cond b 0 (suc (place_of (get_or ys a bot) ys)) ≡ suc a
    go true e p = absurd (o.0 (cast (same_sound (get_or ys a bot) y e) (at_member ys a bot (omega arith))))
    go false e p = ap suc p

pub entry_back : (ys : List Tree) (e : Formula) → Once ys → parts_below (length ys) e ≡ true → entry_of ys (grow ys e) ≡ e
entry_back ys entry.False o b = refl
entry_back ys entry.True o b = refl
entry_back ys (entry.Variable v) o b = refl
entry_back ys (entry.Negated v) o b = refl
entry_back ys (entry.And x y) o b =
    let p = and_parts (ltb x (length ys)) (ltb y (length ys)) b in
    λ j. entry.And (placed ys x o (ltb-true x (length ys) p.0) j) (placed ys y o (ltb-true y (length ys) p.1) j)
entry_back ys (entry.Or x y) o b =
    let p = and_parts (ltb x (length ys)) (ltb y (length ys)) b in
    λ j. entry.Or (placed ys x o (ltb-true x (length ys) p.0) j) (placed ys y o (ltb-true y (length ys) p.1) j)
entry_back ys (entry.Next n x) o b = ap (entry.Next n) (placed ys x o (ltb-true x (length ys) b))
entry_back ys (entry.Always n m x) o b = ap (entry.Always n m) (placed ys x o (ltb-true x (length ys) b))
entry_back ys (entry.Eventually n m x) o b = ap (entry.Eventually n m) (placed ys x o (ltb-true x (length ys) b))

pub same_entry_lem : (ys : List Tree) (d e : Formula) → Once ys → parts_below (length ys) d ≡ true → parts_below (length ys) e ≡ true
    → grow ys d ≡ grow ys e → d ≡ e
same_entry_lem ys d e o p q h = sym (entry_back ys d o p) ∙ ap (entry_of ys) h ∙ entry_back ys e o q

-- an entry that is not in the list has a tree that is not in its trees
pub tree_absent : (es : List Formula) (e : Formula) → ordered es ≡ true → Once (trees es) → parts_below (length es) e ≡ true → NotIn e es
    → grow (trees es) e ∈ trees es → ⊥
tree_absent es e o u b absent m =
    let ys = trees es in
    let r = place bot (trees es) (grow (trees es) e) m in
    let j = r.0 in
    let long = trees_length es in
    let l : r.0 < length es = omega (arith, trees_length es, r.1) in
    let d = get_or es r.0 entry.False in
    let here : slice_get es r.0 ≡ Some d = slice_get-get_or es r.0 entry.False l in
    let at : parts_below r.0 d ≡ true = ordered_at es r.0 d o here in
    let tree : get_or (trees es) r.0 bot ≡ grow (trees es) d = built_at grow bot parts_below alike es r.0 d here at in
    let below_d : parts_below (length (trees es)) d ≡ true =
    below_more r.0 (length (trees es)) d (omega (arith, trees_length es, r.1)) at in
    let below_e : parts_below (length (trees es)) e ≡ true = subst (λ (n : ℕ). parts_below n e ≡ true) (sym (trees_length es)) b in
    let equal : d ≡ e = same_entry_lem (trees es) d e u below_d below_e (sym tree ∙ r.2) in
    absent r.0 (here ∙ ap Some equal)
