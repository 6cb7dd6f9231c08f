-- The formulas that a list of entries stands for, each built of earlier ones.
use Rattle.std.specs.Prelude.{ℕ, suc, Bool, true, false, cond, ◌&&◌, List, [], ◌∷◌, ◌++◌, fold, nat_lt, slice_index_or}
use Rattle.temporal.specs.Formula.{Formula as Tree, bot, top, lit, conj, disj, next, always, eventually, same}
use Rattle.formulas.specs.declared.Formula.{Formula}
use Rattle.formulas.specs.declared.Formula.TheVariants as entry

-- what an entry stands for, given what the entries before it stand for
abbrev pub grow : List Tree → Formula → Tree
grow ts entry.False = bot
grow ts entry.True = top
grow ts (entry.Variable v) = lit true v
grow ts (entry.Negated v) = lit false v
grow ts (entry.And a b) = conj (slice_index_or ts a bot) (slice_index_or ts b bot)
grow ts (entry.Or a b) = disj (slice_index_or ts a bot) (slice_index_or ts b bot)
grow ts (entry.Next n a) = next n (slice_index_or ts a bot)
grow ts (entry.Always n m a) = always n m (slice_index_or ts a bot)
grow ts (entry.Eventually n m a) = eventually n m (slice_index_or ts a bot)

abbrev pub trees : List Formula → List Tree
trees es = fold (λ ts e. ts ++ grow ts e ∷ []) [] es

-- the parts of an entry stand before place i
abbrev pub parts_below : ℕ → Formula → Bool
parts_below i entry.False = true
parts_below i entry.True = true
parts_below i (entry.Variable v) = true
parts_below i (entry.Negated v) = true
parts_below i (entry.And a b) = nat_lt a i && nat_lt b i
parts_below i (entry.Or a b) = nat_lt a i && nat_lt b i
parts_below i (entry.Next n a) = nat_lt a i
parts_below i (entry.Always n m a) = nat_lt a i
parts_below i (entry.Eventually n m a) = nat_lt a i

-- parts before wholes, in a list whose first entry has the place i
abbrev pub ordered_from : ℕ → List Formula → Bool
ordered_from i [] = true
ordered_from i (x ∷ xs) = parts_below i x && ordered_from (suc i) xs

abbrev pub ordered : List Formula → Bool
ordered es = ordered_from 0 es

-- the number of a formula in a list
abbrev pub place_of : Tree → List Tree → ℕ
place_of f [] = 0
place_of f (g ∷ gs) = cond (same f g) 0 (suc (place_of f gs))

-- the entry of a formula, its parts by their numbers in the list
abbrev pub entry_of : List Tree → Tree → Formula
entry_of fs bot = entry.False
entry_of fs top = entry.True
entry_of fs (lit true i) = entry.Variable i
entry_of fs (lit false i) = entry.Negated i
entry_of fs (conj f g) = entry.And (place_of f fs) (place_of g fs)
entry_of fs (disj f g) = entry.Or (place_of f fs) (place_of g fs)
entry_of fs (next n f) = entry.Next n (place_of f fs)
entry_of fs (always n m f) = entry.Always n m (place_of f fs)
entry_of fs (eventually n m f) = entry.Eventually n m (place_of f fs)
