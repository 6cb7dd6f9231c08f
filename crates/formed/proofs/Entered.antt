-- A formula is new exactly if the index of the formulas before it does not have it.
use Rattle.std.proofs.Common.{◌≡◌, ℕ, ◌+◌, ◌<◌, ◌≤◌, Bool, true, false, List, map, length, get_or, take, is_some, Some, None, Option, sym, ap, ◌∙◌, subst, arith}
use mathlib.Core.Bool.{false≢true}
use Rattle.std.proofs.lemmas.List.{length-take-le, length-map, get_or-take, take-map, map_more}
use Rattle.temporal.specs.Game.{Spec}
use Rattle.tableau.specs.Card.{Entry, Card, no_entry, formula_at}
use Rattle.tableau.specs.Conditions.{new_formula, kept}
use Rattle.tableau.proofs.Tests.{refuted}
use Rattle.tableau.proofs.Kept.{kept_tells}
use Rattle.index.specs.Keyed.{Found, Indexed, Extends}
use Rattle.index.specs.declared.Slot.{Slot}
use Rattle.records.specs.declared.FormulaRecord.{FormulaRecord}
use Rattle.records.specs.Raw.{entry_of}
use Rattle.records.specs.Table.{entry_at}
use Rattle.rested.specs.declared.key.FormulaKey.{FormulaKey}
use Rattle.rested.specs.Listing.{key_of, key_code}
use Rattle.rested.proofs.Memo.{entry_at_lem}
use Rattle.rested.proofs.Found.{key_at, at_key}

-- an entry among the first i
taken_entry : (rs : List FormulaRecord) (i j : ℕ) → j < i → entry_at (take i rs) j ≡ entry_at rs j
taken_entry rs i j l =
    ap (λ (es : List Entry). get_or es j no_entry) (sym (take-map entry_of i rs)) ∙ get_or-take i (map entry_of rs) j no_entry l

module _ (rs : List FormulaRecord) (i : ℕ) (l : i < length rs) where
  -- record i, as it is read
  abbrev pub record_at : FormulaRecord
  record_at = get_or rs i (record { kind = 0; variable = 0; a = 0; b = 0; n = 0; m = 0 })

  module _ (spec : Spec) (c : Card) (e : c.formulas ≡ map entry_of rs) where
    entry_is : (j : ℕ) → formula_at c j ≡ entry_at rs j
    entry_is j = ap (λ (es : List Entry). get_or es j no_entry) e

    pub new_missing : (o : Option ℕ) → Found (map key_of (take i rs)) (key_of record_at) o → is_some o ≡ false → kept spec c (new_formula i) ≡ true
    new_missing (Some j) h s = absurd (false≢true (sym s))
    new_missing None h s =
        (kept_tells spec c (new_formula i)).1 (λ j b p.
        h j (at_key (take i rs) j record_at (omega (arith, length-take-le i rs (omega arith)))
        (taken_entry rs i j b ∙ sym (entry_is j) ∙ p ∙ entry_is i ∙ entry_at_lem rs i)))

    pub old_found : (o : Option ℕ) → Found (map key_of (take i rs)) (key_of record_at) o → is_some o ≡ true → kept spec c (new_formula i) ≡ false
    old_found None h s = absurd (false≢true s)
    old_found (Some j) h s =
        let p = key_at (take i rs) j (key_of record_at) h in
        let b : j < i = omega (arith, p.0, length-take-le i rs (omega arith)) in
        refuted (kept spec c (new_formula i)) (kept_tells spec c (new_formula i)) (λ n.
        n j b (entry_is j ∙ sym (taken_entry rs i j b) ∙ p.1 ∙ sym (entry_at_lem rs i) ∙ sym (entry_is i)))

  -- one more record entered
  pub entered_more : (slots slots' : List (Slot FormulaKey)) (r : Bool) → i < 1024 → 2048 ≤ length slots
      → Indexed key_code slots (map key_of (take i rs)) → Extends key_code slots (key_of record_at) i r slots'
      → Indexed key_code slots' (map key_of (take (i + 1) rs))
  entered_more slots slots' r few room h x =
      let n : length (map key_of (take i rs)) ≡ i = length-map (take i rs) key_of ∙ length-take-le i rs (omega arith) in
      subst (λ (ks : List FormulaKey). Indexed key_code slots' ks) (sym (map_more key_of rs i _ l))
      (x (map key_of (take i rs)) h (sym n) (omega arith) (omega arith)).1
