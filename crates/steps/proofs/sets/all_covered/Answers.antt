use Rattle.std.proofs.Common.{◌≡◌, ℕ, ◌<◌, Bool, true, false, not, ◌||◌, List, length, get_or, refl, sym, subst, true≢false, rules, arith}
use Rattle.std.specs.Bool.{MatchBool}
use Rattle.std.specs.List.{AllWithin, HoldsAt, range_with_len}
use Rattle.std.proofs.lemmas.List.FromFn.{length-range_with_len, get_or-range_with_len}
use Rattle.std.proofs.lemmas.Iterator.{cases_from_all, YieldsList-from_range}
use Rattle.temporal.specs.Formula.{Formula}
use Rattle.temporal.specs.Game.{Spec}
use Rattle.tableau.specs.Lists.{all}
use Rattle.tableau.specs.Cover.{covers}
use Rattle.records.specs.declared.FormulaRecord.{FormulaRecord}
use Rattle.records.specs.Table.{Table, Listed}
use Rattle.covered.specs.Marks.{marked}
use Rattle.covered.specs.Meaning.{Members, Covers}
use Rattle.steps.proofs.Sifts.{all_covered, not_all_covered}
use Rattle.steps.proofs.sets.all_covered.Goals as goal

implied : (a b : Bool) → (not a || b) ≡ true → a ≡ true → b ≡ true
implied true b h e = h
implied false b h e = absurd (true≢false (sym e))

refuted : (a b : Bool) → (not a || b) ≡ false → (a ≡ true) × (b ≡ false)
refuted true b h = (refl, h)
refuted false b h = absurd (true≢false h)

-- the test of each place in turn
each_or_one : (n : ℕ) (ms cs : List Bool) (r : Bool) → MatchBool r
    (AllWithin (λ i. (not (marked ms i) || marked cs i) ≡ true) (range_with_len 0 n) 0 (length (range_with_len 0 n)))
    ((k : ℕ) × (k < length (range_with_len 0 n)) × HoldsAt (λ i. (not (marked ms i) || marked cs i) ≡ false) (range_with_len 0 n) k)
    → MatchBool r ((i : ℕ) → i < n → marked ms i ≡ true → marked cs i ≡ true)
    ((i : ℕ) × (i < n) × (marked ms i ≡ true) × (marked cs i ≡ false))
each_or_one n ms cs true h = λ i l m.
    let long = length-range_with_len 0 n in
    let at = get_or-range_with_len 0 n i 0 l in
    let e : get_or (range_with_len 0 n) i 0 ≡ i = omega (arith, at) in
    implied (marked ms i) (marked cs i)
    (subst (λ (j : ℕ). (not (marked ms j) || marked cs j) ≡ true) e (h i 0 (omega arith) (omega (arith, long)))) m
each_or_one n ms cs false (k, l, here) =
    let long = length-range_with_len 0 n in
    let below : k < n = omega (arith, long) in
    let at = get_or-range_with_len 0 n k 0 below in
    let e : get_or (range_with_len 0 n) k 0 ≡ k = omega (arith, at) in
    let t = refuted (marked ms k) (marked cs k) (subst (λ (j : ℕ). (not (marked ms j) || marked cs j) ≡ false) e (here 0)) in
    (k, below, t.0, t.1)

-- the answer by what the test of each place said
answered : (spec : Spec) (rs : List FormulaRecord) (t : Table spec rs) (S L : List Formula) (listed : Listed rs S)
    (ms cs : List Bool) (members : Members rs S ms) (covering : Covers rs L cs) (n : ℕ) (r : Bool) → n ≡ length rs
    → MatchBool r ((i : ℕ) → i < n → marked ms i ≡ true → marked cs i ≡ true)
    ((i : ℕ) × (i < n) × (marked ms i ≡ true) × (marked cs i ≡ false))
    → r ≡ all (covers L) S
answered spec rs t S L listed ms cs members covering n true e h =
    sym (all_covered spec rs t S listed ms members L cs covering (λ i l m. h i (omega (arith, e)) m))
answered spec rs t S L listed ms cs members covering n false e (i, l, m, u) =
    sym (not_all_covered spec rs t S listed ms members L cs covering i (omega (arith, e)) m u)

pub returns : goal.returns
returns c spec rs S L n t listed members covering =
    let ms = c.args.marks.now in
    let cs = c.args.covered.now in
    answered spec rs t S L listed ms cs members covering c.min.result c.all.result (omega (arith, t.few, n, c.min.ensures))
    (each_or_one c.min.result ms cs c.all.result
    (cases_from_all _ _ c.all.result (λ (i : ℕ). (not (marked ms i) || marked cs i) ≡ true) (λ (i : ℕ). (not (marked ms i) || marked cs i) ≡ false)
    c.all.ensures.ran (YieldsList-from_range 0 c.min.result c.min.result refl (omega arith)) (λ x q k. search rules) (λ x q k. search rules)))
