-- Formulas of bounded time in normal form, their truth over sequences of readings, and what is left of a formula after a step.
use Rattle.std.specs.Prelude.{◌≡◌, ◌⊎◌, Bool, true, false, ◌&&◌, ◌||◌, ℕ, zero, suc, ◌+◌, ◌≤◌, ◌<◌, max, eqb}

-- `lit true i` is variable i, `lit false i` its negation. Environment variables are 0 to 15, system variables 16 to 31.
-- `next n f` is X[n] f, `always n m f` is G[n,m] f, `eventually n m f` is F[n,m] f.
pub data Formula : Type 0 where
  bot : Formula
  top : Formula
  lit : Bool → ℕ → Formula
  conj : Formula → Formula → Formula
  disj : Formula → Formula → Formula
  next : ℕ → Formula → Formula
  always : ℕ → ℕ → Formula → Formula
  eventually : ℕ → ℕ → Formula → Formula

-- ── truth ──
-- a reading is the set of literals that count as true
abbrev pub Reading : Type 0
Reading = Bool → ℕ → Bool

-- each literal that R counts as true Q counts as true
infix 40 ◌⊆◌
abbrev pub ◌⊆◌ : Reading → Reading → Type 0
R ⊆ Q = (s : Bool) (i : ℕ) → R s i ≡ true → Q s i ≡ true

-- the sequence from its step n on
abbrev pub from : {A : Type 0} → ℕ → (ℕ → A) → (ℕ → A)
from zero σ = σ
from (suc n) σ = from n (λ k. σ (suc k))

-- P at every number from n to m
abbrev pub every : (ℕ → Bool) → ℕ → ℕ → Bool
every P zero zero = P 0
every P zero (suc m) = P 0 && every (λ k. P (suc k)) zero m
every P (suc n) zero = true
every P (suc n) (suc m) = every (λ k. P (suc k)) n m

-- P at some number from n to m
abbrev pub some : (ℕ → Bool) → ℕ → ℕ → Bool
some P zero zero = P 0
some P zero (suc m) = P 0 || some (λ k. P (suc k)) zero m
some P (suc n) zero = false
some P (suc n) (suc m) = some (λ k. P (suc k)) n m

-- truth at the first step of a sequence of readings; truth at its step t is `holds (from t σ) f`
abbrev pub holds : (ℕ → Reading) → Formula → Bool
holds σ bot = false
holds σ top = true
holds σ (lit s i) = σ 0 s i
holds σ (conj f g) = holds σ f && holds σ g
holds σ (disj f g) = holds σ f || holds σ g
holds σ (next n f) = holds (from n σ) f
holds σ (always n m f) = every (λ k. holds (from k σ) f) n m
holds σ (eventually n m f) = some (λ k. holds (from k σ) f) n m

-- how many steps after the first one truth looks at
abbrev pub reach : Formula → ℕ
reach bot = 0
reach top = 0
reach (lit s i) = 0
reach (conj f g) = max (reach f) (reach g)
reach (disj f g) = max (reach f) (reach g)
reach (next n f) = n + reach f
reach (always n m f) = m + reach f
reach (eventually n m f) = m + reach f

-- ── simplifying constructors ──
-- is a formula a constant, and which one?
pub data Kind : Type 0 where
  is_bot : Kind
  is_top : Kind
  other : Kind

abbrev pub kind : Formula → Kind
kind bot = is_bot
kind top = is_top
kind (lit s i) = other
kind (conj f g) = other
kind (disj f g) = other
kind (next n f) = other
kind (always n m f) = other
kind (eventually n m f) = other

abbrev pub conjoin_by : Kind → Kind → Formula → Formula → Formula
conjoin_by is_bot k f g = bot
conjoin_by is_top k f g = g
conjoin_by other is_bot f g = bot
conjoin_by other is_top f g = f
conjoin_by other other f g = conj f g

abbrev pub disjoin_by : Kind → Kind → Formula → Formula → Formula
disjoin_by is_bot k f g = g
disjoin_by is_top k f g = top
disjoin_by other is_bot f g = f
disjoin_by other is_top f g = top
disjoin_by other other f g = disj f g

-- a conjunction in which false gives false and true leaves the other part
abbrev pub conjoin : Formula → Formula → Formula
conjoin f g = conjoin_by (kind f) (kind g) f g

-- a disjunction in which true gives true and false leaves the other part
abbrev pub disjoin : Formula → Formula → Formula
disjoin f g = disjoin_by (kind f) (kind g) f g

-- a constant is left as it is, anything else becomes w
abbrev pub unless_constant : Kind → Formula → Formula
unless_constant is_bot w = bot
unless_constant is_top w = top
unless_constant other w = w

-- X, G and F, of a constant that constant
abbrev pub next_of : ℕ → Formula → Formula
next_of n f = unless_constant (kind f) (next n f)

abbrev pub always_of : ℕ → ℕ → Formula → Formula
always_of n m f = unless_constant (kind f) (always n m f)

abbrev pub eventually_of : ℕ → ℕ → Formula → Formula
eventually_of n m f = unless_constant (kind f) (eventually n m f)

abbrev pub constant : Bool → Formula
constant true = top
constant false = bot

-- ── what is left of a formula after a step ──
-- the rest by the reading R; X[0], and G and F with n > m, are given a rest too, so that the rest is exact for every formula
abbrev pub rest : Reading → Formula → Formula
rest R bot = bot
rest R top = top
rest R (lit s i) = constant (R s i)
rest R (conj f g) = conjoin (rest R f) (rest R g)
rest R (disj f g) = disjoin (rest R f) (rest R g)
rest R (next zero f) = rest R f
rest R (next (suc zero) f) = f
rest R (next (suc (suc n)) f) = next (suc n) f
rest R (always zero zero f) = rest R f
rest R (always zero (suc m) f) = conjoin (rest R f) (always zero m f)
rest R (always (suc n) zero f) = top
rest R (always (suc n) (suc m) f) = always n m f
rest R (eventually zero zero f) = rest R f
rest R (eventually zero (suc m) f) = disjoin (rest R f) (eventually zero m f)
rest R (eventually (suc n) zero f) = bot
rest R (eventually (suc n) (suc m) f) = eventually n m f

-- ── normal form ──
-- variable i is one of ne environment or ns system variables
abbrev pub Numbered : ℕ → ℕ → ℕ → Type 0
Numbered ne ns i = ((i < 16) × (i < ne)) ⊎ ((16 ≤ i) × (i < 16 + ns))

-- no constant is a part, bounds are in order and at most 4,095, variables are in range
abbrev pub Fine : ℕ → ℕ → Formula → Type 0
Fine ne ns bot = Unit {0}
Fine ne ns top = Unit {0}
Fine ne ns (lit s i) = Numbered ne ns i
Fine ne ns (conj f g) = ((kind f ≡ other) × Fine ne ns f) × ((kind g ≡ other) × Fine ne ns g)
Fine ne ns (disj f g) = ((kind f ≡ other) × Fine ne ns f) × ((kind g ≡ other) × Fine ne ns g)
Fine ne ns (next n f) = ((1 ≤ n) × (n ≤ 4095)) × ((kind f ≡ other) × Fine ne ns f)
Fine ne ns (always n m f) = ((n ≤ m) × (m ≤ 4095)) × ((kind f ≡ other) × Fine ne ns f)
Fine ne ns (eventually n m f) = ((n ≤ m) × (m ≤ 4095)) × ((kind f ≡ other) × Fine ne ns f)

-- ── equality, as a test ──
-- what a formula is built of: its operator (0 false, 1 true, 2 a variable, 3 a negated variable, 4 and, 5 or, 6 X, 7 G, 8 F),
-- its variable, its bounds and its parts; what an operator does not have is 0 or false
pub record Shape : Type 0 where
  pub operator : ℕ
  pub variable : ℕ
  pub lower : ℕ
  pub upper : ℕ
  pub left : Formula
  pub right : Formula

abbrev pub shape : Formula → Shape
shape bot = record { operator = 0; variable = 0; lower = 0; upper = 0; left = bot; right = bot }
shape top = record { operator = 1; variable = 0; lower = 0; upper = 0; left = bot; right = bot }
shape (lit true i) = record { operator = 2; variable = i; lower = 0; upper = 0; left = bot; right = bot }
shape (lit false i) = record { operator = 3; variable = i; lower = 0; upper = 0; left = bot; right = bot }
shape (conj f g) = record { operator = 4; variable = 0; lower = 0; upper = 0; left = f; right = g }
shape (disj f g) = record { operator = 5; variable = 0; lower = 0; upper = 0; left = f; right = g }
shape (next n f) = record { operator = 6; variable = 0; lower = n; upper = 0; left = f; right = bot }
shape (always n m f) = record { operator = 7; variable = 0; lower = n; upper = m; left = f; right = bot }
shape (eventually n m f) = record { operator = 8; variable = 0; lower = n; upper = m; left = f; right = bot }

-- the same operator, variable and bounds
abbrev pub same_operator : Formula → Formula → Bool
same_operator f g =
    eqb (shape f).operator (shape g).operator
    && (eqb (shape f).variable (shape g).variable && (eqb (shape f).lower (shape g).lower && eqb (shape f).upper (shape g).upper))

abbrev pub same : Formula → Formula → Bool
same bot g = same_operator bot g
same top g = same_operator top g
same (lit s i) g = same_operator (lit s i) g
same (conj f h) g = same_operator (conj f h) g && (same f (shape g).left && same h (shape g).right)
same (disj f h) g = same_operator (disj f h) g && (same f (shape g).left && same h (shape g).right)
same (next n f) g = same_operator (next n f) g && same f (shape g).left
same (always n m f) g = same_operator (always n m f) g && same f (shape g).left
same (eventually n m f) g = same_operator (eventually n m f) g && same f (shape g).left
