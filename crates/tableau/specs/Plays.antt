-- Plays along a card: which runs its moves allow, its replies, and its inputs. Here `moves` gives the moves of each node.
use Rattle.std.specs.Prelude.{◌≡◌, ℕ, true, List, [], ◌∷◌}
use Rattle.temporal.specs.Parts.{◌∈◌}
use Rattle.temporal.specs.Game.{Run}
use Rattle.tableau.specs.Moves.{Target, end, node, Move, fits_env, fits_sys, first_move, first_fit}

-- a run leads from one place to another, each step by a move that input and reply fit
abbrev pub Leads : (ℕ → List Move) → Target → Run → Target → Type 0
Leads moves p [] g = p ≡ g
Leads moves end (x ∷ r) g = ⊥
Leads moves (node n) (x ∷ r) g =
    (m : Move) × (m ∈ moves n) × (fits_env x.env m ≡ true) × (fits_sys x.sys m ≡ true) × Leads moves m.target r g

-- the reply of an open card at a place, to the input e and then the inputs is: the values of the first move that fits,
-- free variables false, and from that move's target on
abbrev pub reply_at : (ℕ → List Move) → Target → ℕ → List ℕ → ℕ
reply_at moves end e is = 0
reply_at moves (node n) e [] = (first_fit (fits_env e) (moves n)).sys_values
reply_at moves (node n) e (i ∷ is) = reply_at moves (first_fit (fits_env e) (moves n)).target i is

-- an open card as a reply rule
abbrev pub reply_rule : (ℕ → List Move) → List ℕ → ℕ
reply_rule moves [] = 0
reply_rule moves (e ∷ is) = reply_at moves (node 0) e is

-- the input of a closed card at a place, after the replies ss: the values of the first move, free variables false; each
-- reply goes on at the target of the first move that it fits. At the end it is the input d
abbrev pub input_at : (ℕ → List Move) → ℕ → Target → List ℕ → ℕ
input_at moves d end ss = d
input_at moves d (node n) [] = (first_move (moves n)).env_values
input_at moves d (node n) (s ∷ ss) = input_at moves d (first_fit (fits_sys s) (moves n)).target ss

-- a closed card as an input rule
abbrev pub input_rule : (ℕ → List Move) → ℕ → List ℕ → ℕ
input_rule moves d = input_at moves d (node 0)
