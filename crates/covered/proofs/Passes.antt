-- One turn of each pass over the records.
use Rattle.std.proofs.Common.{true, false, cond, ◌≡◌, ℕ, suc, ◌+◌, ◌<◌, Bool, List, [], ◌∷◌, length, get_or, drop, sym, ap, refl, ◌∙◌, add-one, arith}
use Rattle.std.specs.List.{push}
use Rattle.std.proofs.lemmas.List.{drop_more}
use Rattle.records.specs.declared.FormulaRecord.{FormulaRecord}
use Rattle.covered.specs.Marks.{mark_if, covers_range, follows, spread, held_from, range_from, range_if, ranges_from, joined_from}

-- d is any default
module _ (rs : List FormulaRecord) (i : ℕ) (d : FormulaRecord) (l : i < length rs) where
  abbrev r : FormulaRecord
  r = get_or rs i d

  abbrev rest : List FormulaRecord
  rest = drop (i + 1) rs

  pub range_turn : (h : FormulaRecord) (ms : List Bool)
      → range_from h (drop i rs) i ms ≡ range_from h (drop (i + 1) rs) (i + 1) (mark_if (covers_range h (get_or rs i d)) ms i)
  range_turn h ms =
      ap (λ (xs : List FormulaRecord). range_from h xs i ms) (drop_more rs i d l)
      ∙ ap (λ (k : ℕ). range_from h rest k (mark_if (covers_range h r) ms i)) (sym (add-one i))

  pub ranges_turn : (all : List FormulaRecord) (hs ms : List Bool)
      → ranges_from all hs (drop i rs) i ms ≡ ranges_from all hs (drop (i + 1) rs) (i + 1) (range_if all hs i (get_or rs i d) ms)
  ranges_turn all hs ms =
      ap (λ (xs : List FormulaRecord). ranges_from all hs xs i ms) (drop_more rs i d l)
      ∙ ap (λ (k : ℕ). ranges_from all hs rest k (range_if all hs i r ms)) (sym (add-one i))

  pub joined_turn : (everything : Bool) (ms : List Bool)
      → joined_from everything (drop i rs) i ms ≡ joined_from everything (drop (i + 1) rs) (i + 1)
      (mark_if (follows everything (get_or rs i d) ms) ms i)
  joined_turn everything ms =
      ap (λ (xs : List FormulaRecord). joined_from everything xs i ms) (drop_more rs i d l)
      ∙ ap (λ (k : ℕ). joined_from everything rest k (mark_if (follows everything r ms) ms i)) (sym (add-one i))

  pub held_turn : (ms : List Bool) → held_from (drop i rs) i ms ≡ spread i (get_or rs i d) (held_from (drop (i + 1) rs) (i + 1) ms)
  held_turn ms =
      ap (λ (xs : List FormulaRecord). held_from xs i ms) (drop_more rs i d l)
      ∙ ap (λ (k : ℕ). spread i r (held_from rest k ms)) (sym (add-one i))

-- what a read past the end would give
abbrev pub no_record : FormulaRecord
no_record = record { kind = 0; variable = 0; a = 0; b = 0; n = 0; m = 0 }

-- the last of the records that are left, and none left
pub held_last : (xs : List FormulaRecord) (x : FormulaRecord) (i j : ℕ) (ms : List Bool) → j ≡ i + length xs
    → held_from (push xs x) i ms ≡ held_from xs i (spread j x ms)
held_last [] x i j ms e = let z : i ≡ j = omega arith in ap (λ (k : ℕ). spread k x ms) z
held_last (y ∷ xs) x i j ms e = ap (spread i y) (held_last xs x (suc i) j ms (omega arith))

pub held_none : (xs : List FormulaRecord) (i : ℕ) (ms : List Bool) → length xs ≡ 0 → held_from xs i ms ≡ ms
held_none [] i ms e = refl
held_none (x ∷ xs) i ms e = absurd (omega arith)

-- what an `if` leaves: x where its test t holds, otherwise y
pub took : {A : Type 0} (t : Bool) (x y z : A) → t ≡ true → z ≡ x → z ≡ cond t x y
took t x y z h w = w ∙ ap (λ (b : Bool). cond b x y) (sym h)

pub passed : {A : Type 0} (t : Bool) (x y z : A) → t ≡ false → z ≡ y → z ≡ cond t x y
passed t x y z h w = w ∙ ap (λ (b : Bool). cond b x y) (sym h)
