-- One more entry in the list, and one more number in the memory.
use Rattle.std.proofs.Common.{◌≡◌, ℕ, zero, suc, ◌+◌, ◌-◌, ◌<◌, ◌≤◌, Bool, true, false, cond, ◌⊎◌, List, [], ◌∷◌, ◌++◌, length, get_or, drop, set, replicate, Some, None, Option, sym, refl, ap, ◌∙◌, subst, inl, inr, ⊎_elim, arith}
use Rattle.std.specs.List.{slice_get}
use Rattle.std.proofs.lemmas.Bool.{cases_eq, cases_lt}
use Rattle.std.proofs.lemmas.List.{take_more_set, length-take-le, length_push, length-set, drop-set-lt, drop-drop, drop-replicate, get_or-set_same, get_or-set_other, set_past}
use Rattle.temporal.specs.Formula.{Formula as Tree}
use Rattle.temporal.specs.Parts.{◌∈◌, first, later, member, put, Once}
use Rattle.temporal.proofs.Tells.{Tells}
use Rattle.temporal.proofs.Lists.{cast}
use Rattle.temporal.proofs.Same.{member_tells}
use Rattle.temporal.proofs.Parts.{put_adds}
use Rattle.formulas.specs.declared.Formula.{Formula}
use Rattle.formulas.specs.declared.Formula.TheVariants as entry
use Rattle.formulas.specs.Entries.{entry_code}
use Rattle.formulas.specs.Trees.{grow, trees, ordered, parts_below}
use Rattle.formulas.proofs.Trees.{tree_at_lem, tree_absent, trees_push, trees_length, ordered_push}
use Rattle.index.specs.declared.Slot.{Slot}
use Rattle.index.specs.Keyed.{Indexed, NotIn}
use Rattle.normal.specs.declared.builder.Builder.{Builder}
use Rattle.normal.specs.Operands.{place_of}
use Rattle.normal.specs.Building.{entries_of, listed, Sound, Added}

pub nth_in : {X : Type 0} (xs : List X) (i : ℕ) (x : X) → slice_get xs i ≡ Some x → x ∈ xs
nth_in [] i x e = let z : ◌≡◌ {A = ℕ} 0 1 = cc in absurd (omega arith)
nth_in {X} (y ∷ xs) zero x e = let s : y ≡ x = cc in subst (λ (z : X). z ∈ (y ∷ xs)) s first
nth_in (y ∷ xs) (suc i) x e = later (nth_in xs i x e)

nth_push : {X : Type 0} (xs : List X) (x : X) → slice_get (xs ++ x ∷ []) (length xs) ≡ Some x
nth_push [] x = refl
nth_push (y ∷ xs) x = nth_push xs x

-- what is there is not put in again, and what is not comes at the end
put_there : (ys : List Tree) (f : Tree) → f ∈ ys → put ys f ≡ ys
put_there ys f m = (put_adds ys f).again (λ x e. cast (sym e) m)

put_new : (ys : List Tree) (f : Tree) → (f ∈ ys → ⊥) → put ys f ≡ ys ++ f ∷ []
put_new ys f n = go (member f ys) (member_tells f ys)
  where
    go : (b : Bool) → Tells b (f ∈ ys) → cond b ys (ys ++ f ∷ []) ≡ ys ++ f ∷ []
    go true t = absurd (n (t.0 refl))
    go false t = refl

module _ (slots : List (Slot Formula)) (b : Builder) (s : Sound slots b) where
  pub entries_length : length (entries_of b) ≡ b.count
  entries_length = length-take-le b.count b.entries (omega (arith, s.few, s.long))

  pub listed_length : length (listed b) ≡ b.count
  unfolding listed
  listed_length = trees_length (entries_of b) ∙ entries_length

  module _ (e : Formula) where
    pub added_old : (i : ℕ) → slice_get (entries_of b) i ≡ Some e → Added slots b e b i
    unfolding listed
    added_old i n =
        let ys = trees (entries_of b) in
        let f = grow (trees (entries_of b)) e in
        let h = tree_at_lem (entries_of b) i e s.ordered n in
        record {
          sound = s;
          list = sym (put_there ys f (nth_in ys i f h));
          here = h;
          memory = λ t j. refl;
        }

    module _ (below : parts_below b.count e ≡ true) (absent : NotIn e (entries_of b)) where
      below_length : parts_below (length (entries_of b)) e ≡ true
      below_length = subst (λ (n : ℕ). parts_below n e ≡ true) (sym entries_length) below

      new : put (listed b) (grow (listed b) e) ≡ listed b ++ grow (listed b) e ∷ []
      unfolding listed
      new =
          put_new (trees (entries_of b)) (grow (trees (entries_of b)) e)
          (tree_absent (entries_of b) e s.ordered s.once below_length absent)

      pub added_full : b.count ≡ 256 → 256 < length (put (listed b) (grow (listed b) e))
      added_full h =
          let l : length (put (listed b) (grow (listed b) e)) ≡ length (listed b ++ grow (listed b) e ∷ []) = ap length new in
          omega (arith, l, length_push (listed b) (grow (listed b) e), listed_length, h)

      abbrev pub after : Builder
      after = record { entries = set b.entries b.count e; count = b.count + 1; numbers = b.numbers }

      module _ (low : b.count < 256) where
        entries_after : entries_of after ≡ entries_of b ++ e ∷ []
        entries_after = take_more_set b.entries b.count e (omega (arith, s.long, low))

        listed_after : listed after ≡ listed b ++ grow (listed b) e ∷ []
        unfolding listed
        listed_after = ap trees entries_after ∙ trees_push (entries_of b) e

        list_after : listed after ≡ put (listed b) (grow (listed b) e)
        list_after = listed_after ∙ sym new

        rest_after : drop (b.count + 1) (set b.entries b.count e) ≡ replicate (256 - (b.count + 1)) entry.False
        rest_after =
            drop-set-lt (b.count + 1) b.entries b.count e (omega arith)
            ∙ sym (drop-drop 1 b.count b.entries)
            ∙ ap (drop 1) s.rest
            ∙ drop-replicate 1 (256 - b.count) entry.False
            ∙ ap (λ (n : ℕ). replicate n entry.False) (omega arith)

        pub added_new : (slots' : List (Slot Formula)) → length slots' ≡ length slots → Indexed entry_code slots' (entries_of b ++ e ∷ [])
            → Added slots' b e after b.count
        added_new slots' l x = record {
          sound = record {
            few = omega (arith, low);
            long = length-set b.entries b.count e ∙ s.long;
            ordered = subst (λ (es : List Formula). ordered es ≡ true) (sym entries_after)
                (ordered_push (entries_of b) e s.ordered below_length);
            once = subst Once (sym list_after) ((put_adds (listed b) (grow (listed b) e)).once s.once);
            indexed = subst (Indexed entry_code slots') (sym entries_after) x;
            room = omega (arith, s.room, l);
            rest = rest_after;
          };
          list = list_after;
          here = ap (λ (ys : List Tree). slice_get ys b.count) listed_after
              ∙ ap (slice_get (listed b ++ grow (listed b) e ∷ [])) (sym listed_length)
              ∙ nth_push (listed b) (grow (listed b) e);
          memory = λ t j. refl;
        }

-- ── memory ──
set_some : (xs : List (Option ℕ)) (at k i j : ℕ) → get_or (set xs at (Some k)) i None ≡ Some j
    → ((i ≡ at) × (j ≡ k)) ⊎ (get_or xs i None ≡ Some j)
set_some xs at k i j h =
    ⊎_elim (λ (e : i ≡ at). here e) (λ (n : i ≡ at → ⊥). inr (sym (get_or-set_other xs at i (Some k) None n) ∙ h)) (cases_eq i at)
  where
    here : i ≡ at → ((i ≡ at) × (j ≡ k)) ⊎ (get_or xs i None ≡ Some j)
    here e = ⊎_elim
        (λ (l : at < length xs).
        let g : get_or (set xs at (Some k)) i None ≡ Some k =
        ap (λ (n : ℕ). get_or (set xs at (Some k)) n None) e ∙ get_or-set_same xs at (Some k) None l in
        let same : j ≡ k = cc in
        inl (e, same))
        (λ (l : length xs ≤ at). inr (ap (λ (ys : List (Option ℕ)). get_or ys i None) (sym (set_past xs at (Some k) l)) ∙ h))
        (cases_lt at (length xs))

-- operands at one place are the same
same_place : (s t : Bool) (i j : ℕ) → place_of s i ≡ place_of t j → (s ≡ t) × (i ≡ j)
same_place true true i j e = (refl, omega arith)
same_place true false i j e = absurd (omega arith)
same_place false true i j e = absurd (omega arith)
same_place false false i j e = (refl, omega arith)

-- with k at a place of the memory
abbrev pub noted : Builder → ℕ → ℕ → Builder
noted b at k = record { entries = b.entries; count = b.count; numbers = set b.numbers at (Some k) }
