-- The laws, as statements.
use Rattle.std.specs.Prelude.{◌≡◌, ◌↔◌, Bool, true, false, not, List, [], ◌∷◌, ◌++◌, ℕ, suc, ◌+◌, ◌^◌, ◌≤◌, ◌<◌}
use Rattle.temporal.specs.Formula.{Formula, top, Reading, ◌⊆◌, from, every, some, holds, reach, rest, Fine, same}
use Rattle.temporal.specs.Written.{Written, Valuation, Says, exactly, normal, Ordered, WrittenFine}
use Rattle.temporal.specs.Parts.{◌∈◌, member, enter, parts_of, Once, Closed, Entered}
use Rattle.temporal.specs.Game.{Spec, Permitted, WellFormed, Step, Run, reading, padded, readings, Complete, Broken, InRange, Lost}
use Rattle.temporal.specs.Game.{inputs, replies, Replied, Asked, SystemWins, EnvironmentWins}

-- ── truth ──
-- a formula holds at t exactly if its rest by the reading at t holds a step later, for every sequence of readings
abbrev pub RestExact : Type 0
RestExact = (σ : ℕ → Reading) (t : ℕ) (f : Formula) → holds (from t σ) f ≡ holds (from (suc t) σ) (rest (σ t) f)

-- what holds still holds where more literals count as true
abbrev pub TruthMonotone : Type 0
TruthMonotone =
    (σ τ : ℕ → Reading) (t : ℕ) (f : Formula) → ((k : ℕ) → σ k ⊆ τ k) → holds (from t σ) f ≡ true → holds (from t τ) f ≡ true

-- truth at t looks at the steps t to t plus the reach alone
abbrev pub TruthLocal : Type 0
TruthLocal =
    (σ τ : ℕ → Reading) (t : ℕ) (f : Formula) → ((k : ℕ) → t ≤ k → k ≤ t + reach f → σ k ≡ τ k) → holds (from t σ) f ≡ holds (from t τ) f

-- a step counts exactly one of v and -v as true
abbrev pub StepExact : Type 0
StepExact = (x : Step) (i : ℕ) → reading x false i ≡ not (reading x true i)

-- `every` and `some` are what they are called
abbrev pub RangeTruth : Type 0
RangeTruth = (P : ℕ → Bool) (n m : ℕ)
    → ((every P n m ≡ true) ↔ ((k : ℕ) → n ≤ k → k ≤ m → P k ≡ true))
    × ((some P n m ≡ true) ↔ ((k : ℕ) × (n ≤ k) × (k ≤ m) × (P k ≡ true)))

-- so is `from`
abbrev pub FromAt : Type 0
FromAt = (n : ℕ) (σ : ℕ → Reading) (k : ℕ) → from n σ k ≡ σ (n + k)

-- so is `same`
abbrev pub SameComputes : Type 0
SameComputes = (f g : Formula) → (same f g ≡ true) ↔ (f ≡ g)

-- ── normal form ──
-- the normal form holds exactly where the formula says so, that of the negation exactly where it does not
abbrev pub NormalFormSaysTheSame : Type 0
NormalFormSaysTheSame = (σ : ℕ → Valuation) (t : ℕ) (w : Written) → Ordered w
    → ((holds (from t (λ k. exactly (σ k))) (normal true w) ≡ true) ↔ Says σ t w)
    × ((holds (from t (λ k. exactly (σ k))) (normal false w) ≡ true) ↔ (Says σ t w → ⊥))

-- what a text may write has a normal form in which no constant is a part, and its bounds are in order
abbrev pub NormalFormFine : Type 0
NormalFormFine = (ne ns : ℕ) (w : Written) → WrittenFine ne ns w → Ordered w × ((b : Bool) → Fine ne ns (normal b w))

-- ── parts ──
abbrev pub MemberComputes : Type 0
MemberComputes = (f : Formula) (ys : List Formula) → (member f ys ≡ true) ↔ (f ∈ ys)

abbrev pub PartsListedOnce : Type 0
PartsListedOnce = (ys : List Formula) (f : Formula) → Entered ys f

-- entering adds at the end alone
abbrev pub EnterExtends : Type 0
EnterExtends = (ys : List Formula) (f : Formula) → (zs : List Formula) × (enter ys f ≡ ys ++ zs)

-- a list closed under parts stays so, and is not changed by what it has
abbrev pub EnterClosed : Type 0
EnterClosed = (ys : List Formula) (f : Formula) → Closed ys → Closed (enter ys f) × (member f ys ≡ true → enter ys f ≡ ys)

-- the parts of two formulas are listed once each, with the parts of each formula listed
abbrev pub AllParts : Type 0
AllParts = (α ψ : Formula) → Once (parts_of α ψ) × Closed (parts_of α ψ) × (α ∈ parts_of α ψ) × (ψ ∈ parts_of α ψ)

-- ── runs ──
-- whether a complete instance is true does not depend on what comes after the run
abbrev pub AnyPadding : Type 0
AnyPadding = (p q : Step) (r : Run) (f : Formula) (t : ℕ) → Complete r f t → holds (from t (padded p r)) f ≡ holds (from t (padded q r)) f

-- nor on how the run goes on
abbrev pub CompleteStays : Type 0
CompleteStays = (r on : Run) (f : Formula) (t : ℕ) → Complete r f t
    → Complete (r ++ on) f t × (holds (from t (readings (r ++ on))) f ≡ holds (from t (readings r)) f)

abbrev pub BrokenStays : Type 0
BrokenStays = (spec : Spec) (r on : Run) → Broken spec r → Broken spec (r ++ on)

abbrev pub LostStays : Type 0
LostStays = (spec : Spec) (r on : Run) → InRange spec on → Lost spec r → Lost spec (r ++ on)

-- ── rules and winners ──
-- each reply is the rule's for all inputs up to it
abbrev pub RepliedMeans : Type 0
RepliedMeans = (rule : List ℕ → ℕ) (r : Run) → Replied rule r
    ↔ ((past : Run) (x : Step) (on : Run) → past ++ (x ∷ on) ≡ r → x.sys ≡ rule (inputs past ++ (x.env ∷ [])))

-- each input is the rule's for all replies before it
abbrev pub AskedMeans : Type 0
AskedMeans = (rule : List ℕ → ℕ) (r : Run) → Asked rule r
    ↔ ((past : Run) (x : Step) (on : Run) → past ++ (x ∷ on) ≡ r → x.env ≡ rule (replies past))

-- both players' winning is impossible
abbrev pub NeverBoth : Type 0
NeverBoth = (spec : Spec) → SystemWins spec → EnvironmentWins spec → ⊥

-- where the third part is true, every input within the variables is permitted, and formulas in normal form are all that is asked
abbrev pub BaseWellformed : Type 0
BaseWellformed = (spec : Spec) → spec.third ≡ top
    → ((e : ℕ) → e < 2 ^ spec.environment → Permitted spec e)
    × (Fine spec.environment spec.system spec.initial → Fine spec.environment spec.system spec.safety → WellFormed spec)
