-- What the rest of a formula is to a list of formulas.
use Rattle.std.specs.Prelude.{◌≡◌, ℕ, ◌<◌, Bool, true, false, List, length, Some, None, Option, slice_index_or}
use Rattle.temporal.specs.Formula.{Formula, bot, Reading, rest}
use Rattle.temporal.specs.Parts.{member}
use Rattle.tableau.specs.Lists.{all}
use Rattle.tableau.specs.Met.{met}
use Rattle.records.specs.declared.FormulaRecord.{FormulaRecord}
use Rattle.records.specs.Table.{formulas_of, formula_of}
use Rattle.rested.specs.Listing.{InForm}

-- the list ts has all the formulas fs
abbrev pub has_all : List Formula → List Formula → Bool
has_all ts fs = all (λ f. member f ts) fs

-- an answer says where the list has a formula: at place k, or nowhere
abbrev pub Placed : List Formula → Formula → Option ℕ → Type 0
Placed ts f None = member f ts ≡ false
Placed ts f (Some k) = (k < length ts) × (slice_index_or ts k bot ≡ f)

-- an answer says where the list has the rest of f by the reading R: at place k, and every formula met on the way is in the list;
-- or one of these formulas is not
abbrev pub Rested : Reading → List Formula → Formula → Option ℕ → Type 0
Rested R ts f None = has_all ts (met R f) ≡ false
Rested R ts f (Some k) = (has_all ts (met R f) ≡ true) × (k < length ts) × (slice_index_or ts k bot ≡ rest R f)

-- the answers say so of each entry of a list of records
abbrev pub AllRested : Reading → List FormulaRecord → List (Option ℕ) → Type 0
AllRested R rs answers = (i : ℕ) → i < length rs → Rested R (formulas_of rs) (formula_of rs i) (slice_index_or answers i None)

-- the law that there is one such answer only, where the list is that of records in form
abbrev pub OneAnswer : Type 0
OneAnswer =
    (rs : List FormulaRecord) → InForm rs → (R : Reading) (f : Formula) (o p : Option ℕ)
    → Rested R (formulas_of rs) f o → Rested R (formulas_of rs) f p → o ≡ p
