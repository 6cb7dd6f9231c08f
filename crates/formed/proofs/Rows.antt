-- A loop over all places of a list: what is left of their conditions gives the answer.
use Rattle.std.proofs.Common.{◌≡◌, ℕ, ◌+◌, ◌<◌, ◌≤◌, true, false, List, ◌++◌, map, Ok, Err, Result, sym, ap, ◌∙◌, zero-add}
use Rattle.temporal.specs.Game.{Spec}
use Rattle.tableau.specs.Lists.{span}
use Rattle.tableau.specs.Card.{Card}
use Rattle.tableau.specs.Conditions.{Condition, kept, Fault, fault}
use Rattle.tableau.specs.Judge.{judged_by}
use Rattle.faults.specs.declared.card.CardFault.{CardFault}
use Rattle.judged.specs.Judged.{fault_of, judgment}
use Rattle.judged.proofs.Walks.{walked, walk_pass, walk_fail, walk_end, group_pass, group_fail}

-- the judge's answer on the conditions of n places from place k on
abbrev pub judged_from : (ℕ → Condition) → ℕ → ℕ → Spec → Card → Result (Unit {0}) Fault
judged_from g n k spec c = walked (kept spec c) fault g n 0 k

-- what is left from place k on gives the answer
abbrev pub Left : (ℕ → Condition) → ℕ → ℕ → Spec → Card → Type 0
Left g n k spec c = judged_from g n k spec c ≡ judged_by spec c (map g (span n 0))

module _ (g : ℕ → Condition) (n : ℕ) (spec : Spec) (c : Card) where
  module _ (k : ℕ) (left : Left g n k spec c) where
    pub left_pass : k < n → kept spec c (g k) ≡ true → Left g n (k + 1) spec c
    left_pass l e = sym (walk_pass (kept spec c) fault g n 0 k l (ap (λ j. kept spec c (g j)) (zero-add k) ∙ e)) ∙ left

    -- refused by x, which is the fault of place k
    pub left_fail : k < n → kept spec c (g k) ≡ false → (x y : CardFault) → x ≡ y → fault_of y ≡ fault (g k)
        → Err (fault_of x) ≡ judged_by spec c (map g (span n 0))
    left_fail l e x y p q =
        ap (λ (z : CardFault). Err (fault_of z)) p ∙ ap Err q ∙ ap (λ j. Err (fault (g j))) (sym (zero-add k))
        ∙ sym (walk_fail (kept spec c) fault g n 0 k l (ap (λ j. kept spec c (g j)) (zero-add k) ∙ e)) ∙ left

    pub left_end : n ≤ k → Ok tt ≡ judged_by spec c (map g (span n 0))
    left_end l = sym (walk_end (kept spec c) fault g n 0 k l) ∙ left

-- the conditions of a list, by another way to count its entries
pub counted : (g : ℕ → Condition) (spec : Spec) (c : Card) (n m : ℕ) → n ≡ m → (r : Result (Unit {0}) Fault)
    → r ≡ judged_by spec c (map g (span m 0)) → r ≡ judged_by spec c (map g (span n 0))
counted g spec c n m e r h = h ∙ ap (λ k. judged_by spec c (map g (span k 0))) (sym e)

-- ── groups of conditions, one after the other ──
module _ (spec : Spec) (c : Card) (xs ys : List Condition) where
  pub then_next : (r : Result (Unit {0}) Fault) → Ok tt ≡ judged_by spec c xs → r ≡ judged_by spec c ys → r ≡ judged_by spec c (xs ++ ys)
  then_next r e h = h ∙ sym (group_pass (kept spec c) fault xs ys (sym e))

  pub then_stop : (f : Fault) → Err f ≡ judged_by spec c xs → Err f ≡ judged_by spec c (xs ++ ys)
  then_stop f h = sym (group_fail (kept spec c) fault xs ys f (sym h))

-- what a refusal that is passed on says
pub refused : (r : Result (Unit {0}) CardFault) (x e : CardFault) → r ≡ Err x → x ≡ e → judgment r ≡ Err (fault_of e)
refused r x e p q = ap judgment (p ∙ ap Err q)
