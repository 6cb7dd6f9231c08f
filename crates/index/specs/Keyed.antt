-- What an index over slots holds, what a look-up answers, and what an insertion does.
use Rattle.std.specs.Prelude.{◌≡◌, ℕ, ◌+◌, ◌-◌, ◌%◌, ◌<◌, Bool, true, false, cond, ◌⊎◌, List, [], ◌∷◌, ◌++◌, length, Some, None, Option, is_some, IsSome, IsSomeAnd, IfSome, ◌≢◌, nat_lt, slice_get, slice_set, count_by}
use Rattle.std.proofs.Math.Decide.{dec_lt}
use Rattle.index.specs.declared.Slot.{Slot}

-- The places. Among n places, the d-th from home h, where the first follows the last (d is at most n).
abbrev pub place : ℕ → ℕ → ℕ → ℕ
place n h d = cond (nat_lt (h + d) n) (h + d) (h + d - n)

-- the home of a key among n places
abbrev pub home : {K : Type 0} → (K → ℕ) → ℕ → K → ℕ
home code n k = code k % n

-- The slots. A slot that holds no key.
abbrev pub free_slot : {K : Type 0} → Slot K
free_slot = record { held = None }

-- where the number is below 65,535, a slot that holds the key with it, and else a free one
abbrev pub slot_under : {K : Type 0} → K → (m : ℕ) → Dec (m < 65535) → Slot K
slot_under k m (yes small) = record { held = Some (record { key = k; number = m; numbered = small }) }
slot_under k m (no large) = free_slot

-- A slot that holds this key with this number. No key has the number 65,535: under it the slot is free.
abbrev pub slot_of : {K : Type 0} → K → ℕ → Slot K
slot_of k m = slot_under k m (dec_lt m 65535)

-- a slot that holds a key
abbrev pub Held : {K : Type 0} → Slot K → Type 0
Held s = IsSome s.held

-- a slot that holds another key than k
abbrev pub HoldsOther : {K : Type 0} → K → Slot K → Type 0
HoldsOther k s = IsSomeAnd s.held (λ x. x.key ≢ k)

-- a slot that is free or holds k
abbrev pub FreeOrHolds : {K : Type 0} → K → Slot K → Type 0
FreeOrHolds k s = IfSome s.held (λ x. x.key ≡ k)

-- how many slots hold a key
abbrev pub filled : {K : Type 0} → List (Slot K) → ℕ
filled slots = count_by (λ s. is_some s.held) slots

-- the slots at the first d places from home h, among n, have P
abbrev pub Along : {K : Type 0} → (Slot K → Type 0) → ℕ → List (Slot K) → ℕ → ℕ → Type 0
Along {K} P n slots h d = (e : ℕ) (s : Slot K) → e < d → slice_get slots (place n h e) ≡ Some s → P s

-- the first d places from home h, among n, hold keys
abbrev pub AllHeld : {K : Type 0} → ℕ → List (Slot K) → ℕ → ℕ → Type 0
AllHeld n slots h d = Along Held n slots h d

-- the first d places from home h hold other keys than k
abbrev pub Passed : {K : Type 0} → List (Slot K) → ℕ → K → ℕ → Type 0
Passed slots h k d = Along (HoldsOther k) (length slots) slots h d

-- The model. The key numbered i is reached from its home, over slots that hold keys.
pub record Reached {K : Type 0} (code : K → ℕ) (n : ℕ) (slots : List (Slot K)) (i : ℕ) (k : K) : Type 0 where
  pub far : ℕ
  pub numbered : i < 65535
  pub near : far < n
  pub here : slice_get slots (place n (home code n k) far) ≡ Some (slot_of k i)
  pub way : AllHeld n slots (home code n k) far

-- The slots index the list of keys ks:
--   few      each number fits 16 bits, with one to spare
--   count    as many slots hold a key as there are keys
--   sound    a slot that holds a key has the number of that key in the list
--   reach    each key of the list is reached from its home
pub record Indexed {K : Type 0} (code : K → ℕ) (slots : List (Slot K)) (ks : List K) : Type 0 where
  pub few : length ks < 65535
  pub count : filled slots ≡ length ks
  pub sound : (j i : ℕ) (k : K) → i < 65535 → slice_get slots j ≡ Some (slot_of k i) → slice_get ks i ≡ Some k
  pub reach : (i : ℕ) (k : K) → slice_get ks i ≡ Some k → Reached code (length slots) slots i k

-- no key of the list is k
abbrev pub NotIn : {K : Type 0} → K → List K → Type 0
NotIn k ks = (i : ℕ) → slice_get ks i ≢ Some k

-- what an answer says of the list: k has the number i, or k is not in the list
abbrev pub Found : {K : Type 0} → List K → K → Option ℕ → Type 0
Found ks k None = NotIn k ks
Found ks k (Some i) = slice_get ks i ≡ Some k

-- The look-up. A hit: after `far` places that hold other keys stands a slot that holds k with the number i, which is not 65,535.
pub record Hit {K : Type 0} (code : K → ℕ) (slots : List (Slot K)) (k : K) (i : ℕ) : Type 0 where
  pub far : ℕ
  pub numbered : i < 65535
  pub near : far < length slots
  pub way : Passed slots (home code (length slots) k) k far
  pub here : slice_get slots (place (length slots) (home code (length slots) k) far) ≡ Some (slot_of k i)

-- the d-th place from home h is free
abbrev pub FreeAt : {K : Type 0} → List (Slot K) → ℕ → ℕ → Type 0
FreeAt slots h d = slice_get slots (place (length slots) h d) ≡ Some free_slot

-- A miss: after `far` places that hold other keys all slots were tried, or a free one stands there.
pub record Miss {K : Type 0} (code : K → ℕ) (slots : List (Slot K)) (k : K) : Type 0 where
  pub far : ℕ
  pub way : Passed slots (home code (length slots) k) k far
  pub stop : (far ≡ length slots) ⊎ FreeAt slots (home code (length slots) k) far

-- what a look-up answers, whatever the slots hold
abbrev pub Looked : {K : Type 0} → (K → ℕ) → List (Slot K) → K → Option ℕ → Type 0
Looked code slots k None = Miss code slots k
Looked code slots k (Some i) = Hit code slots k i

-- the law that a look-up has one answer only
abbrev pub OneLookup : {K : Type 0} → (K → ℕ) → Type 0
OneLookup {K} code = (slots : List (Slot K)) (k : K) (a b : Option ℕ) → Looked code slots k a → Looked code slots k b → a ≡ b

-- The insertion. p is the first free place from the home of k.
pub record VacantAt {K : Type 0} (code : K → ℕ) (slots : List (Slot K)) (k : K) (p : ℕ) : Type 0 where
  pub far : ℕ
  pub near : far < length slots
  pub is : p ≡ place (length slots) (home code (length slots) k) far
  pub here : slice_get slots p ≡ Some free_slot
  pub way : AllHeld (length slots) slots (home code (length slots) k) far

-- What an insertion of k under the number m answers and leaves, whatever the slots hold: true, and the first free place from the
-- home of k holds k with m (under 65,535 it stays free); or false, where every slot holds a key, and nothing is changed.
abbrev pub Inserted : {K : Type 0} → (K → ℕ) → List (Slot K) → K → ℕ → Bool → List (Slot K) → Type 0
Inserted code slots k m true after = (p : ℕ) × VacantAt code slots k p × (after ≡ slice_set slots p (slot_of k m))
Inserted code slots k m false after = (filled slots ≡ length slots) × (after ≡ slots)

-- What it says of the lists of keys: where the slots index ks, m is the next number and there is room for one more key, the answer
-- is true, and the slots then index ks with k after it.
abbrev pub Extends : {K : Type 0} → (K → ℕ) → List (Slot K) → K → ℕ → Bool → List (Slot K) → Type 0
Extends {K} code slots k m r after =
    (ks : List K)
    → Indexed code slots ks
    → m ≡ length ks
    → m + 1 < 65535
    → m < length slots
    → (r ≡ true) × Indexed code after (ks ++ k ∷ [])

-- Where every slot holds a key, the answer is false, and nothing is changed.
abbrev pub Refuses : {K : Type 0} → List (Slot K) → Bool → List (Slot K) → Type 0
Refuses slots r after = filled slots ≡ length slots → (r ≡ false) × (after ≡ slots)

-- the law that an insertion has one outcome only
abbrev pub OneInsertion : {K : Type 0} → (K → ℕ) → Type 0
OneInsertion {K} code =
    (slots : List (Slot K)) (k : K) (m : ℕ) (a b : Bool) (after other : List (Slot K))
    → Inserted code slots k m a after
    → Inserted code slots k m b other
    → (a ≡ b) × (after ≡ other)

-- The walk of both. Gives s b says that a test may give b at the slot s: p is the first place from the home of k at which it gives true.
pub record StopsAt {K : Type 0} (code : K → ℕ) (Gives : Slot K → Bool → Type 0) (slots : List (Slot K)) (k : K) (p : ℕ) : Type 0 where
  pub far : ℕ
  pub slot : Slot K
  pub near : far < length slots
  pub is : p ≡ place (length slots) (home code (length slots) k) far
  pub here : slice_get slots p ≡ Some slot
  pub stops : Gives slot true
  pub way : Along (λ s. Gives s false) (length slots) slots (home code (length slots) k) far

-- the test gives false at each slot
pub record StopsNowhere {K : Type 0} (code : K → ℕ) (Gives : Slot K → Bool → Type 0) (slots : List (Slot K)) (k : K) : Type 0 where
  pub way : Along (λ s. Gives s false) (length slots) slots (home code (length slots) k) (length slots)

-- where the walk stops, if it does
abbrev pub Probed : {K : Type 0} → (K → ℕ) → (Slot K → Bool → Type 0) → List (Slot K) → K → Option ℕ → Type 0
Probed code Gives slots k None = StopsNowhere code Gives slots k
Probed code Gives slots k (Some p) = (p < length slots) × StopsAt code Gives slots k p
