-- What the steps of the pass answer, wherever the slots index a list in form.
use Rattle.std.specs.Prelude.{◌≡◌, ℕ, ◌<◌, ◌≤◌, List, map, length, Some, None, Option, slice_index_or}
use Rattle.temporal.specs.Formula.{Formula, Reading, next}
use Rattle.index.specs.Keyed.{Found}
use Rattle.index.specs.declared.Slot.{Slot}
use Rattle.records.specs.declared.FormulaRecord.{FormulaRecord}
use Rattle.records.specs.Raw.{entry_of}
use Rattle.rested.specs.declared.key.FormulaKey.{FormulaKey}
use Rattle.records.specs.Table.{formulas_of, formula_of, entry_at}
use Rattle.rested.specs.Listing.{Ready, key_of}
use Rattle.rested.specs.Rests.{Placed, Rested}

-- an answer says where a list that the slots index has the record, or that it lacks it
abbrev pub Listed : List (Slot FormulaKey) → FormulaRecord → Option ℕ → Type 0
Listed slots f r = (rs : List FormulaRecord) → Ready rs slots → Found (map key_of rs) (key_of f) r

-- the place of entries x and y joined
abbrev pub Joined : (Formula → Formula → Formula) → List (Slot FormulaKey) → ℕ → ℕ → Option ℕ → Type 0
Joined join slots x y r =
    (rs : List FormulaRecord) → Ready rs slots → x < length rs → y < length rs → Placed (formulas_of rs) (join (formula_of rs x) (formula_of rs y)) r

-- the same of two answers; none where one is none
abbrev pub JoinedBoth : (Formula → Formula → Formula) → List (Slot FormulaKey) → Option ℕ → Option ℕ → Option ℕ → Type 0
JoinedBoth join slots None y r = r ≡ None
JoinedBoth join slots (Some x) None r = r ≡ None
JoinedBoth join slots (Some x) (Some y) r = Joined join slots x y r

-- the rest of X[n] of entry a
abbrev pub RestOfNext : List (Slot FormulaKey) → ℕ → ℕ → Option ℕ → Type 0
RestOfNext slots a n r =
    (rs : List FormulaRecord) (R : Reading) → Ready rs slots → a < length rs → 1 ≤ n → Rested R (formulas_of rs) (next n (formula_of rs a)) r

-- the rest of G[n,m] or F[n,m] of entry a, from the rest of its body
abbrev pub RestOfRange : (ℕ → ℕ → Formula → Formula) → List (Slot FormulaKey) → Option ℕ → ℕ → ℕ → ℕ → Option ℕ → Type 0
RestOfRange operator slots body a n m r =
    (rs : List FormulaRecord) (R : Reading) → Ready rs slots → a < length rs → n ≤ m
    → Rested R (formulas_of rs) (formula_of rs a) body → Rested R (formulas_of rs) (operator n m (formula_of rs a)) r

-- the rest of entry i, from the rests of the entries before it
abbrev pub RestOfEntry : Reading → List (Slot FormulaKey) → List (Option ℕ) → FormulaRecord → Option ℕ → Type 0
RestOfEntry R slots memo f r =
    (rs : List FormulaRecord) (i : ℕ) → Ready rs slots → i < length rs → entry_at rs i ≡ entry_of f
    → ((k : ℕ) → k < i → Rested R (formulas_of rs) (formula_of rs k) (slice_index_or memo k None))
    → Rested R (formulas_of rs) (formula_of rs i) r
