-- How sample cards are written, and the specifications that they are for.
use Rattle.std.specs.Prelude.{◌≡◌, ℕ, true, false, List, [], ◌∷◌, ◌++◌, map, Ok, Err, Result}
use Rattle.temporal.specs.Formula.{Formula, bot, top, lit, conj, disj, next, always}
use Rattle.temporal.specs.Game.{Spec}
use Rattle.tableau.specs.Lists.{span}
use Rattle.tableau.specs.Moves.{Target, Move}
use Rattle.tableau.specs.Card.{Entry, Node, Card}
use Rattle.tableau.specs.Conditions.{Fault, fault_at}
use Rattle.tableau.specs.Judge.{Verdict, judge}

-- ── how samples are written ──
-- a specification, a card, and what the judge has to say
pub record Sample : Type 0 where
  pub spec : Spec
  pub card : Card
  pub outcome : Result (Verdict × ℕ) Fault

-- the judge says of each card of a list what the list says
abbrev pub AsListed : List Sample → Type 0
AsListed xs = map (λ x. judge x.spec x.card) xs ≡ map (λ x. x.outcome) xs

abbrev pub sample : Spec → Result (Verdict × ℕ) Fault → ℕ → List Entry → List ℕ → List Node → List Move → Sample
sample spec outcome k fs ls ns ms =
    record { spec = spec; card = record { kind = k; formulas = fs; labels = ls; nodes = ns; moves = ms }; outcome = outcome }

abbrev pub accepted : Verdict → ℕ → Result (Verdict × ℕ) Fault
accepted v d = Ok (v, d)

-- number, list and place
abbrev pub refused : ℕ → ℕ → ℕ → Result (Verdict × ℕ) Fault
refused number list place = Err (fault_at number list place)

-- kind, variable, parts a and b, bounds n and m
abbrev pub entry : ℕ → ℕ → ℕ → ℕ → ℕ → ℕ → Entry
entry k v a b n m = record { kind = k; variable = v; a = a; b = b; n = n; m = m }

abbrev pub false_entry : Entry
false_entry = entry 0 0 0 0 0 0

abbrev pub true_entry : Entry
true_entry = entry 1 0 0 0 0 0

abbrev pub var_entry : ℕ → Entry
var_entry v = entry 2 v 0 0 0 0

abbrev pub not_entry : ℕ → Entry
not_entry v = entry 3 v 0 0 0 0

abbrev pub and_entry : ℕ → ℕ → Entry
and_entry a b = entry 4 0 a b 0 0

abbrev pub or_entry : ℕ → ℕ → Entry
or_entry a b = entry 5 0 a b 0 0

abbrev pub next_entry : ℕ → ℕ → Entry
next_entry n a = entry 6 0 a 0 n 0

abbrev pub always_entry : ℕ → ℕ → ℕ → Entry
always_entry n m a = entry 7 0 a 0 n m

abbrev pub eventually_entry : ℕ → ℕ → ℕ → Entry
eventually_entry n m a = entry 8 0 a 0 n m

-- first label, label count, first move, move count
abbrev pub node_entry : ℕ → ℕ → ℕ → ℕ → Node
node_entry a b c d = record { first_label = a; label_count = b; first_move = c; move_count = d }

-- input mask and values, reply mask and values, target
abbrev pub move : ℕ → ℕ → ℕ → ℕ → Target → Move
move a b c d g = record { env_mask = a; env_values = b; sys_mask = c; sys_values = d; target = g }

-- the same entry so many times
abbrev pub many : {A : Type 0} → A → ℕ → List A
many x n = map (λ _. x) (span n 0)

-- ── the specifications ──
-- p is the environment's variable, s the system's
abbrev pub p : Formula
p = lit true 0

abbrev pub s : Formula
s = lit true 16

-- one variable of each kind, an initial and a safety formula; every input is permitted
abbrev pub starting : Formula → Formula → Spec
starting f g = record { environment = 1; system = 1; initial = f; safety = g; third = top }

-- the initial formula is true
abbrev pub safety : Formula → Spec
safety g = starting top g

-- only inputs that make f true are permitted
abbrev pub only : Formula → Formula → Spec
only f g = record { environment = 1; system = 1; initial = top; safety = g; third = f }

-- no variables, and a safety formula that is never kept
abbrev pub never : Spec
never = record { environment = 0; system = 0; initial = top; safety = bot; third = top }

-- s <-> p
abbrev pub copied : Formula
copied = disj (conj s p) (conj (lit false 16) (lit false 0))

-- s <-> X p
abbrev pub delayed : Formula
delayed = disj (conj s (next 1 p)) (conj (lit false 16) (next 1 (lit false 0)))

-- X s <-> X p
abbrev pub copied_next : Formula
copied_next = disj (conj (next 1 s) (next 1 p)) (conj (next 1 (lit false 16)) (next 1 (lit false 0)))

-- p -> G[0,99] s
abbrev pub kept : Formula
kept = disj (lit false 0) (always 0 99 s)

-- ── their formula lists ──
abbrev pub constants : List Entry
constants = false_entry ∷ true_entry ∷ []

-- 2 s, 3 -s, 4 p, 5 -p
abbrev pub literals : List Entry
literals = false_entry ∷ true_entry ∷ var_entry 16 ∷ not_entry 16 ∷ var_entry 0 ∷ not_entry 0 ∷ []

abbrev pub copy_formulas : List Entry
copy_formulas = literals ++ (and_entry 2 4 ∷ and_entry 3 5 ∷ or_entry 6 7 ∷ [])

abbrev pub delayed_formulas : List Entry
delayed_formulas = literals ++ (next_entry 1 4 ∷ next_entry 1 5 ∷ and_entry 2 6 ∷ and_entry 3 7 ∷ or_entry 8 9 ∷ [])

-- 13 s & p, 15 (s & p) | (-s & -p)
abbrev pub copied_next_formulas : List Entry
copied_next_formulas =
    literals ++ (next_entry 1 2 ∷ next_entry 1 4 ∷ next_entry 1 3 ∷ next_entry 1 5 ∷ and_entry 6 7 ∷ and_entry 8 9 ∷ or_entry 10 11
    ∷ and_entry 2 4 ∷ and_entry 3 5 ∷ or_entry 13 14 ∷ [])

-- 6 G[0,98] s, 7 G[0,97] s
abbrev pub kept_formulas : List Entry
kept_formulas =
    false_entry ∷ true_entry ∷ var_entry 16 ∷ not_entry 0 ∷ always_entry 0 99 2 ∷ or_entry 3 4 ∷ always_entry 0 98 2 ∷ always_entry 0 97 2 ∷ []
