-- A memo that is filled from its start.
use Rattle.std.proofs.Common.{◌≡◌, ℕ, zero, suc, ◌+◌, ◌<◌, ◌≤◌, ◌≢◌, List, [], ◌∷◌, length, get_or, set, replicate, None, Option, sym, refl, ◌∙◌, subst, arith, below_more}
use Rattle.std.proofs.lemmas.List.{get_or-set_same, get_or-set_other}
use Rattle.records.specs.declared.FormulaRecord.{FormulaRecord}
use Rattle.records.specs.Raw.{entry_of}
use Rattle.records.specs.Table.{entry_at}

abbrev nothing : Option ℕ
nothing = None

pub all_none : (n k : ℕ) → get_or (replicate n nothing) k None ≡ None
all_none zero k = refl
all_none (suc n) zero = refl
all_none (suc n) (suc k) = all_none n k

-- one more place is filled
pub filled_more : (P : ℕ → Option ℕ → Type 0) (xs : List (Option ℕ)) (i : ℕ) (v : Option ℕ) → i < length xs
    → ((k : ℕ) → k < i → P k (get_or xs k None)) → P i v → (k : ℕ) → k < i + 1 → P k (get_or (set xs i v) k None)
filled_more P xs i v l below here =
    below_more (λ k. P k (get_or (set xs i v) k None)) i
    (λ k h. let ne : k ≢ i = omega arith in subst (P k) (sym (get_or-set_other xs i k v None ne)) (below k h))
    (subst (P i) (sym (get_or-set_same xs i v None l)) here)

-- and those behind it stay empty
pub empty_more : (xs : List (Option ℕ)) (i : ℕ) (v : Option ℕ) → ((k : ℕ) → i ≤ k → get_or xs k None ≡ None)
    → (k : ℕ) → i + 1 ≤ k → get_or (set xs i v) k None ≡ None
empty_more xs i v e k h = let ne : k ≢ i = omega arith in get_or-set_other xs i k v None ne ∙ e k (omega arith)

-- an entry is that of the record at its place
pub entry_at_lem : (rs : List FormulaRecord) (i : ℕ)
    → entry_at rs i ≡ entry_of (get_or rs i (record { kind = 0; variable = 0; a = 0; b = 0; n = 0; m = 0 }))
entry_at_lem [] i = refl
entry_at_lem (r ∷ rs) zero = refl
entry_at_lem (r ∷ rs) (suc i) = entry_at_lem rs i
