-- Specifications, runs, and who wins.
use Rattle.std.specs.Prelude.{◌≡◌, ◌⊎◌, Bool, true, false, cond, List, [], ◌∷◌, ◌++◌, map, ℕ, ◌+◌, ◌-◌, ◌/◌, ◌%◌, ◌^◌, ◌<◌, max, length, get_or, eqb, ltb}
use Rattle.std.specs.Bool.{beq}
use Rattle.temporal.specs.Formula.{Formula, Reading, from, holds, reach, Fine}

-- ── steps ──
-- a step gives each variable a value: the environment's variable i is bit i of `env`, the system's is bit i of `sys`
pub record Step : Type 0 where
  pub env : ℕ
  pub sys : ℕ

-- a run is a finite list of steps
abbrev pub Run : Type 0
Run = List Step

abbrev pub bit : ℕ → ℕ → Bool
bit n i = eqb (n / 2 ^ i % 2) 1

-- the value of variable i where the environment's variables are the bits of e and the system's those of s
abbrev pub value : ℕ → ℕ → ℕ → Bool
value e s i = cond (ltb i 16) (bit e i) (bit s (i - 16))

-- a step as a reading: it counts exactly one of v and -v as true, for each variable v
abbrev pub reading : Step → Reading
reading x s i = beq (value x.env x.sys i) s

-- a run as a sequence of readings, followed by the step p for ever
abbrev pub padded : Step → Run → ℕ → Reading
padded p r t = reading (get_or r t p)

abbrev pub blank : Step
blank = record { env = 0; sys = 0 }

abbrev pub readings : Run → ℕ → Reading
readings r = padded blank r

-- ── specifications ──
pub record Spec : Type 0 where
  pub environment : ℕ  -- how many environment variables
  pub system : ℕ  -- how many system variables
  pub initial : Formula  -- holds at the first step
  pub safety : Formula  -- holds at every step
  pub third : Formula  -- the constraint on the environment's inputs

-- the constraint holds where the environment gives the input e; the system's variables are false in it
abbrev pub allowed : Spec → ℕ → Bool
allowed spec e = holds (λ k. reading (record { env = e; sys = 0 })) spec.third

-- the inputs that count: within the variables, and allowed
abbrev pub Permitted : Spec → ℕ → Type 0
Permitted spec e = (e < 2 ^ spec.environment) × (allowed spec e ≡ true)

-- the replies that count: within the variables
abbrev pub Reply : Spec → ℕ → Type 0
Reply spec s = s < 2 ^ spec.system

-- both formulas are in normal form, and some input is permitted
pub record WellFormed (spec : Spec) : Type 0 where
  pub initial : Fine spec.environment spec.system spec.initial
  pub safety : Fine spec.environment spec.system spec.safety
  pub input : ℕ
  pub permitted : Permitted spec input

-- ── broken and lost runs ──
-- an instance is the initial formula at step 0, or the safety formula at any step
abbrev pub Instance : Spec → Formula → ℕ → Type 0
Instance spec f t = ((f ≡ spec.initial) × (t ≡ 0)) ⊎ (f ≡ spec.safety)

-- it is complete in a run that has the step t plus its reach
abbrev pub Complete : Run → Formula → ℕ → Type 0
Complete r f t = t + reach f < length r

-- a complete instance is false
abbrev pub Broken : Spec → Run → Type 0
Broken spec r = (f : Formula) × (t : ℕ) × Instance spec f t × Complete r f t × (holds (from t (readings r)) f ≡ false)

-- the steps of a run are permitted inputs and replies in range
abbrev pub InRange : Spec → Run → Type 0
InRange spec [] = Unit {0}
InRange spec (x ∷ r) = Permitted spec x.env × Reply spec x.sys × InRange spec r

-- for some k every continuation by k steps is broken
abbrev pub Lost : Spec → Run → Type 0
Lost spec r = (k : ℕ) × ((on : Run) → length on ≡ k → InRange spec on → Broken spec (r ++ on))

-- ── rules and winners ──
abbrev pub inputs : Run → List ℕ
inputs r = map (λ x. x.env) r

abbrev pub replies : Run → List ℕ
replies r = map (λ x. x.sys) r

-- each reply of the run is the rule's for the inputs so far, the newest last;
-- after a step the rule goes on with that step's input remembered
abbrev pub Replied : (List ℕ → ℕ) → Run → Type 0
Replied rule [] = Unit {0}
Replied rule (x ∷ r) = (x.sys ≡ rule (x.env ∷ [])) × Replied (λ is. rule (x.env ∷ is)) r

-- each input of the run is the rule's for the earlier replies
abbrev pub Asked : (List ℕ → ℕ) → Run → Type 0
Asked rule [] = Unit {0}
Asked rule (x ∷ r) = (x.env ≡ rule []) × Asked (λ ss. rule (x.sys ∷ ss)) r

-- a reply rule that never leads to a lost run
pub record SystemWins (spec : Spec) : Type 0 where
  pub rule : List ℕ → ℕ
  pub replies : (is : List ℕ) → Reply spec (rule is)
  pub never : (r : Run) → InRange spec r → Replied rule r → Lost spec r → ⊥

-- an input rule and a number of steps such that every run of so many steps played by the rule is lost
pub record EnvironmentWins (spec : Spec) : Type 0 where
  pub rule : List ℕ → ℕ
  pub permitted : (ss : List ℕ) → Permitted spec (rule ss)
  pub steps : ℕ
  pub lost : (r : Run) → InRange spec r → length r ≡ steps → Asked rule r → Lost spec r

-- the larger reach of the two formulas
abbrev pub spec_reach : Spec → ℕ
spec_reach spec = max (reach spec.initial) (reach spec.safety)
