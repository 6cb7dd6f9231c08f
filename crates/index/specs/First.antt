-- The first slot of a list at which a test gives true.
use Rattle.std.specs.Prelude.{◌≡◌, ℕ, ◌<◌, Bool, true, false, List, length, Some, None, Option, slice_get}
use Rattle.index.specs.declared.Slot.{Slot}

-- Gives s b says that the test may give b at the slot s: it gives false at the first d slots
abbrev pub NoneBefore : {K : Type 0} → (Slot K → Bool → Type 0) → List (Slot K) → ℕ → Type 0
NoneBefore {K} Gives slots d = (e : ℕ) (s : Slot K) → e < d → slice_get slots e ≡ Some s → Gives s false

-- it gives true at the slot of place p
abbrev pub TrueAt : {K : Type 0} → (Slot K → Bool → Type 0) → List (Slot K) → ℕ → Type 0
TrueAt {K} Gives slots p = (s : Slot K) × (slice_get slots p ≡ Some s) × Gives s true

-- the first place at which it gives true, or none, where it gives false at each slot
abbrev pub FirstAt : {K : Type 0} → (Slot K → Bool → Type 0) → List (Slot K) → Option ℕ → Type 0
FirstAt Gives slots None = NoneBefore Gives slots (length slots)
FirstAt Gives slots (Some p) = (p < length slots) × TrueAt Gives slots p × NoneBefore Gives slots p
