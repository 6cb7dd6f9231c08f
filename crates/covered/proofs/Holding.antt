-- The pass downwards marks what the set holds.
use Rattle.std.proofs.Common.{◌≡◌, ℕ, ◌<◌, ◌≤◌, Bool, true, false, List, [], ◌∷◌, length, sym, refl, ap, ◌∙◌, subst, inl, inr, arith}
use Rattle.temporal.specs.Formula.{Formula, bot, top, lit, conj, disj, next, always, eventually, shape}
use Rattle.temporal.specs.Parts.{◌∈◌, later, member}
use Rattle.temporal.specs.Game.{Spec}
use Rattle.temporal.proofs.Lists.{in_append, in_left, in_right, in_cons, cast}
use Rattle.temporal.proofs.Same.{member_tells}
use Rattle.temporal.proofs.Truth.{both_ways}
use Rattle.tableau.specs.Cover.{conjuncts, held}
use Rattle.tableau.proofs.Cover.{own_conjunct, conjunct_held, held_member, member_held}
use Rattle.records.specs.declared.FormulaRecord.{FormulaRecord}
use Rattle.records.specs.Table.{Table, Listed, formula_of}
use Rattle.covered.specs.Marks.{marked, held_marks}
use Rattle.covered.specs.Meaning.{Members}
use Rattle.covered.proofs.Spread.{at, held_keep, held_only, held_closed}
use Rattle.covered.proofs.Formulas.{conj_at, parts_before, numbered, different_formulas, conjunct_numbered}

-- ── what is held has the parts of its conjunctions ──
-- no conjunction is the one member of a list that has another operator
other : (f g h : Formula) (k : ℕ) → (shape h).operator ≡ k → (k ≡ 4 → ⊥) → conj f g ∈ (h ∷ []) → ⊥
other f g h k e n m = elim (in_cons m) [ inl z ↦ n (sym e ∙ ap (λ (x : Formula). (shape x).operator) (sym z)) | inr o ↦ elim o [ ] ]

conj_parts : (f g h : Formula) → conj f g ∈ conjuncts h → (f ∈ conjuncts h) × (g ∈ conjuncts h)
conj_parts f g bot m = absurd (other f g bot 0 refl (λ e. omega arith) m)
conj_parts f g top m = absurd (other f g top 1 refl (λ e. omega arith) m)
conj_parts f g (lit true i) m = absurd (other f g (lit true i) 2 refl (λ e. omega arith) m)
conj_parts f g (lit false i) m = absurd (other f g (lit false i) 3 refl (λ e. omega arith) m)
conj_parts f g (conj x y) m =
    elim (in_cons m) [
      | inl z ↦ (
        later (in_left (conjuncts x) (conjuncts y) f (cast (ap (λ (h : Formula). (shape h).left) (sym z)) (own_conjunct x))),
        later (in_right (conjuncts x) (conjuncts y) g (cast (ap (λ (h : Formula). (shape h).right) (sym z)) (own_conjunct y))),
      )
      | inr n ↦ elim (in_append (conjuncts x) (conjuncts y) (conj f g) n) [
        | inl u ↦ let r = conj_parts f g x u in
            (later (in_left (conjuncts x) (conjuncts y) f r.0), later (in_left (conjuncts x) (conjuncts y) g r.1))
        | inr v ↦ let r = conj_parts f g y v in
            (later (in_right (conjuncts x) (conjuncts y) f r.0), later (in_right (conjuncts x) (conjuncts y) g r.1))
      ]
    ]
conj_parts f g (disj x y) m = absurd (other f g (disj x y) 5 refl (λ e. omega arith) m)
conj_parts f g (next n x) m = absurd (other f g (next n x) 6 refl (λ e. omega arith) m)
conj_parts f g (always n k x) m = absurd (other f g (always n k x) 7 refl (λ e. omega arith) m)
conj_parts f g (eventually n k x) m = absurd (other f g (eventually n k x) 8 refl (λ e. omega arith) m)

parts_held : (S : List Formula) (f g : Formula) → conj f g ∈ held S → (f ∈ held S) × (g ∈ held S)
parts_held S f g m =
    let r = held_member S (conj f g) m in
    let p = conj_parts f g r.0 r.2 in
    (conjunct_held S r.0 f r.1 p.0, conjunct_held S r.0 g r.1 p.1)

-- ── the law ──
module _ (spec : Spec) (rs : List FormulaRecord) (t : Table spec rs) (S : List Formula) (listed : Listed rs S)
    (ms : List Bool) (enough : length rs ≤ length ms) (members : Members rs S ms) where
  Holds : ℕ → Type 0
  Holds j = j < length rs → formula_of rs j ∈ held S

  down : (i : ℕ) → i < length rs → (at rs i).kind ≡ 4 → Holds i → Holds (at rs i).a × Holds (at rs i).b
  unfolding Holds
  down i l k h = let p = parts_held S _ _ (cast (conj_at spec rs t i l k) (h l)) in ((λ q. p.0), (λ q. p.1))

  base : (j : ℕ) → marked ms j ≡ true → Holds j
  unfolding Holds
  base j m l = member_held S (formula_of rs j) ((member_tells (formula_of rs j) S).0 (sym (members j l) ∙ m))

  sound : (j : ℕ) → j < length rs → marked (held_marks rs ms) j ≡ true → formula_of rs j ∈ held S
  unfolding Holds
  sound j l m = held_only rs Holds down ms base j m l

  closed : (i : ℕ) → i < length rs → (at rs i).kind ≡ 4 → marked (held_marks rs ms) i ≡ true
      → (marked (held_marks rs ms) (at rs i).a ≡ true) × (marked (held_marks rs ms) (at rs i).b ≡ true)
  closed = held_closed rs (λ i l k. parts_before spec rs t i 3 l k) ms enough

  complete : (j : ℕ) → j < length rs → formula_of rs j ∈ held S → marked (held_marks rs ms) j ≡ true
  complete j l m =
      let r = held_member S (formula_of rs j) m in
      let n = numbered spec rs t r.0 (listed r.0 r.1) in
      let i = n.0 in
      let o : marked ms i ≡ true = members i n.1 ∙ (member_tells (formula_of rs i) S).1 (cast (sym n.2) r.1) in
      let w = conjunct_numbered spec rs t (λ k. marked (held_marks rs ms) k ≡ true) closed r.0 i n.1 n.2 (held_keep rs ms i o)
      (formula_of rs j) r.2 in
      subst (λ (k : ℕ). marked (held_marks rs ms) k ≡ true) (different_formulas spec rs t w.0 j w.1 l w.2) w.3

  pub marks_held : Members rs (held S) (held_marks rs ms)
  marks_held j l =
      both_ways (marked (held_marks rs ms) j) (member (formula_of rs j) (held S))
      (λ m. (member_tells (formula_of rs j) (held S)).1 (sound j l m)) (λ m. complete j l ((member_tells (formula_of rs j) (held S)).0 m))
