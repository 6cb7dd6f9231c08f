-- What sets of formulas cover, and what is met where rests are taken: samples, computed.
use Rattle.std.specs.Prelude.{◌≡◌, Bool, true, false, List, [], ◌∷◌, map}
use Rattle.temporal.specs.Formula.{Formula, bot, top, conj, disj, next, always, eventually}
use Rattle.tableau.specs.Moves.{Move, end, cautious, generous}
use Rattle.tableau.specs.Cover.{covers}
use Rattle.tableau.specs.Met.{met}
use Rattle.tableau.specs.Samples.{move, p, s}

-- ── coverings ──
-- a set, a formula, and whether the set covers it
pub record Covering : Type 0 where
  pub set : List Formula
  pub formula : Formula
  pub covered : Bool

abbrev pub covering : List Formula → Formula → Bool → Covering
covering S f b = record { set = S; formula = f; covered = b }

abbrev pub coverings : List Covering
coverings =
    -- true, false, members, and parts of conjunctions
    covering [] top true ∷ covering [] s false ∷ covering (bot ∷ []) s true ∷ covering (conj s bot ∷ []) p true
    ∷ covering (p ∷ s ∷ []) s true ∷ covering (conj (conj s p) (next 1 s) ∷ []) p true ∷ covering (disj s p ∷ []) s false
    ∷ covering (next 1 s ∷ []) s false
    -- conjunctions and disjunctions part by part
    ∷ covering (s ∷ p ∷ []) (conj s p) true ∷ covering (s ∷ []) (conj s p) false ∷ covering (s ∷ []) (disj p s) true
    ∷ covering (s ∷ []) (disj s p) true ∷ covering (next 1 p ∷ []) (disj s p) false ∷ covering (disj s p ∷ []) (disj s p) true
    -- X by itself alone
    ∷ covering (next 1 s ∷ []) (next 1 s) true ∷ covering (next 1 s ∷ []) (next 2 s) false
    ∷ covering (next 1 (conj s p) ∷ []) (next 1 s) false
    -- G by a wider G of the same body, not by an F, and it covers neither its body nor an F
    ∷ covering (always 0 5 s ∷ []) (always 1 3 s) true ∷ covering (always 0 5 s ∷ []) (always 0 5 s) true
    ∷ covering (always 0 3 s ∷ []) (always 0 5 s) false ∷ covering (always 1 5 s ∷ []) (always 0 5 s) false
    ∷ covering (always 0 5 s ∷ []) (always 0 3 p) false ∷ covering (always 0 5 s ∷ []) s false
    ∷ covering (always 0 5 s ∷ []) (eventually 0 5 s) false ∷ covering (eventually 0 0 s ∷ []) (always 0 0 s) false
    -- F by an inner F of the same body
    ∷ covering (eventually 1 2 s ∷ []) (eventually 0 3 s) true ∷ covering (eventually 0 3 s ∷ []) (eventually 0 3 s) true
    ∷ covering (eventually 0 5 s ∷ []) (eventually 0 3 s) false ∷ covering (eventually 0 3 s ∷ []) (eventually 1 3 s) false
    ∷ covering (eventually 1 2 p ∷ []) (eventually 0 3 s) false ∷ covering (s ∷ []) (eventually 0 3 s) false ∷ []

abbrev pub CoveringsAsListed : Type 0
CoveringsAsListed = map (λ x. covers x.set x.formula) coverings ≡ map (λ x. x.covered) coverings

-- ── what is met ──
-- s is fixed true, p is free
abbrev pub s_fixed : Move
s_fixed = move 0 0 1 1 end

-- the first formula of each list is the rest of the whole
abbrev pub met_lists : List (List Formula)
met_lists =
    met (cautious s_fixed) (conj p (next 2 s)) ∷ met (generous s_fixed) (conj p (next 2 s)) ∷ met (cautious s_fixed) (disj s (next 2 s))
    ∷ met (cautious s_fixed) (always 0 2 s) ∷ met (cautious s_fixed) (always 0 2 p) ∷ met (cautious s_fixed) (always 1 2 (next 2 s))
    ∷ met (cautious s_fixed) (eventually 0 2 s) ∷ met (generous s_fixed) (eventually 0 2 (conj p (next 2 s)))
    ∷ met (cautious s_fixed) (eventually 2 2 (next 2 s)) ∷ met (cautious s_fixed) (next 1 (next 2 s))
    ∷ met (cautious s_fixed) (always 0 0 (next 2 s)) ∷ met (cautious s_fixed) (eventually 0 0 (next 2 s)) ∷ []

abbrev pub MetAsListed : Type 0
MetAsListed = met_lists ≡
    (bot ∷ bot ∷ next 1 s ∷ []) ∷ (next 1 s ∷ top ∷ next 1 s ∷ []) ∷ (top ∷ top ∷ next 1 s ∷ [])
    ∷ (always 0 1 s ∷ always 0 1 s ∷ top ∷ []) ∷ (bot ∷ always 0 1 p ∷ bot ∷ []) ∷ (always 0 1 (next 2 s) ∷ [])
    ∷ (top ∷ eventually 0 1 s ∷ top ∷ [])
    ∷ (disj (next 1 s) (eventually 0 1 (conj p (next 2 s))) ∷ eventually 0 1 (conj p (next 2 s)) ∷ next 1 s ∷ top ∷ next 1 s ∷ [])
    ∷ (eventually 1 1 (next 2 s) ∷ []) ∷ (next 2 s ∷ []) ∷ (next 1 s ∷ []) ∷ (next 1 s ∷ []) ∷ []
