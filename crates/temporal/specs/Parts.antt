-- The list of a formula's parts: parts before wholes, each once.
use Rattle.std.specs.Prelude.{◌≡◌, ◌⊎◌, Bool, false, cond, ◌||◌, List, [], ◌∷◌, ◌++◌}
use Rattle.temporal.specs.Formula.{Formula, bot, top, lit, conj, disj, next, always, eventually, same}

infix 40 ◌∈◌
pub data ◌∈◌ {A : Type 0} (a : A) : List A → Type 0 where
  first : {xs : List A} → a ∈ (a ∷ xs)
  later : {x : A} {xs : List A} → a ∈ xs → a ∈ (x ∷ xs)

-- does the list have the formula f?
abbrev pub member : Formula → List Formula → Bool
member f [] = false
member f (g ∷ gs) = same f g || member f gs

-- the list with f at its end, or the list itself if it has f already
abbrev pub put : List Formula → Formula → List Formula
put ys f = cond (member f ys) ys (ys ++ (f ∷ []))

-- the list with f and all its parts, parts before wholes; nothing is put in twice
abbrev pub enter : List Formula → Formula → List Formula
enter ys bot = put ys bot
enter ys top = put ys top
enter ys (lit s i) = put ys (lit s i)
enter ys (conj f g) = put (enter (enter ys f) g) (conj f g)
enter ys (disj f g) = put (enter (enter ys f) g) (disj f g)
enter ys (next n f) = put (enter ys f) (next n f)
enter ys (always n m f) = put (enter ys f) (always n m f)
enter ys (eventually n m f) = put (enter ys f) (eventually n m f)

-- the two constants, α with its parts, ψ with its parts
abbrev pub parts_of : Formula → Formula → List Formula
parts_of α ψ = enter (enter (bot ∷ (top ∷ [])) α) ψ

-- p is f, or a part of f however deep
abbrev pub IsPart : Formula → Formula → Type 0
IsPart p bot = p ≡ bot
IsPart p top = p ≡ top
IsPart p (lit s i) = p ≡ lit s i
IsPart p (conj f g) = (p ≡ conj f g) ⊎ (IsPart p f ⊎ IsPart p g)
IsPart p (disj f g) = (p ≡ disj f g) ⊎ (IsPart p f ⊎ IsPart p g)
IsPart p (next n f) = (p ≡ next n f) ⊎ IsPart p f
IsPart p (always n m f) = (p ≡ always n m f) ⊎ IsPart p f
IsPart p (eventually n m f) = (p ≡ eventually n m f) ⊎ IsPart p f

-- no formula stands twice
abbrev pub Once : List Formula → Type 0
Once [] = Unit {0}
Once (y ∷ ys) = (y ∈ ys → ⊥) × Once ys

-- with each of its formulas the list has the parts of it
abbrev pub Closed : List Formula → Type 0
Closed ys = (f : Formula) → f ∈ ys → (p : Formula) → IsPart p f → p ∈ ys

-- entering f keeps what the list had, adds f with all its parts and nothing else, puts nothing in twice,
-- and changes nothing if all the parts are there
pub record Entered (ys : List Formula) (f : Formula) : Type 0 where
  pub once : Once ys → Once (enter ys f)
  pub old : (x : Formula) → x ∈ ys → x ∈ enter ys f
  pub all : (x : Formula) → IsPart x f → x ∈ enter ys f
  pub only : (x : Formula) → x ∈ enter ys f → (x ∈ ys) ⊎ IsPart x f
  pub again : ((x : Formula) → IsPart x f → x ∈ ys) → enter ys f ≡ ys
