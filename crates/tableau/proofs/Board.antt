-- The board of the game: finitely many positions, as lists of formulas.
use Rattle.std.proofs.Common.{◌≡◌, ℕ, suc, ◌<◌, List, [], ◌∷◌, length, get_or, sym, subst, arith}
use Rattle.temporal.specs.Formula.{Formula, bot, Reading, rest, Fine}
use Rattle.temporal.specs.Parts.{◌∈◌, first, later}
use Rattle.temporal.specs.Game.{Spec, reading}
use Rattle.temporal.proofs.Lists.{at_member, place, map_in, cast}
use Rattle.tableau.specs.Forces.{left_after}
use Rattle.tableau.proofs.Positions.{Sub, sub_in, sublists, sublists_sub, sift, sift_listed, sift_in, in_sift}

-- a finite list of formulas in normal form that has the initial and the safety formula and false, and all rests of its members
pub record Universe (spec : Spec) (U : List Formula) : Type 0 where
  pub fine : (h : Formula) → h ∈ U → Fine spec.environment spec.system h
  pub has_initial : spec.initial ∈ U
  pub has_safety : spec.safety ∈ U
  pub has_bot : bot ∈ U
  pub closed : (R : Reading) (h : Formula) → h ∈ U → rest R h ∈ U

-- positions in the order of U, the initial formula alone first; `nxt e s i` is, as a set, what input e and reply s leave of position i
pub record Board (spec : Spec) (U : List Formula) : Type 0 where
  pub sets : List (List Formula)
  pub some : 0 < length sets
  pub fine : (h : Formula) → h ∈ U → Fine spec.environment spec.system h
  pub has_bot : bot ∈ U
  pub rising : (i : ℕ) → i < length sets → Sub (get_or sets i []) U
  pub root_in : (h : Formula) → h ∈ get_or sets 0 [] → h ∈ (spec.initial ∷ [])
  pub in_root : spec.initial ∈ get_or sets 0 []
  pub nxt : ℕ → ℕ → ℕ → ℕ
  pub nxt_below : (e s i : ℕ) → nxt e s i < length sets
  pub from_onto : (e s i : ℕ) (h : Formula) → h ∈ get_or sets (nxt e s i) [] → h ∈ left_after spec e s (get_or sets i [])
  pub to_onto : (e s i : ℕ) → i < length sets → (h : Formula) → h ∈ left_after spec e s (get_or sets i []) → h ∈ get_or sets (nxt e s i) []

module _ (spec : Spec) (U : List Formula) (uni : Universe spec U) where
  positions : List (List Formula)
  positions = sift (spec.initial ∷ []) U ∷ sublists U

  pos_sub : (S : List Formula) → S ∈ positions → Sub S U
  unfolding positions
  pos_sub S first = sublists_sub U S (sift_listed (spec.initial ∷ []) U)
  pos_sub S (later m) = sublists_sub U S m

  pos_in : (i : ℕ) → i < length positions → Sub (get_or positions i []) U
  pos_in i l = pos_sub (get_or positions i []) (at_member positions i [] l)

  -- the position with the members of S
  where_is : (S : List Formula) → (i : ℕ) × (i < length (sublists U)) × (get_or (sublists U) i [] ≡ sift S U)
  where_is S = place [] (sublists U) (sift S U) (sift_listed S U)

  left_in : (e s i : ℕ) → i < length positions → (h : Formula) → h ∈ left_after spec e s (get_or positions i []) → h ∈ U
  left_in e s i l h m =
      let r = map_in (rest (reading (record { env = e; sys = s }))) (spec.safety ∷ get_or positions i []) h m in
      cast (sym r.2) (uni.closed (reading (record { env = e; sys = s })) r.0 (old r.0 r.1))
    where
      old : (g : Formula) → g ∈ (spec.safety ∷ get_or positions i []) → g ∈ U
      old g first = uni.has_safety
      old g (later m) = sub_in (pos_in i l) g m

  pub board : Board spec U
  unfolding positions
  board = record {
    sets = positions;
    some = omega arith;
    fine = uni.fine;
    has_bot = uni.has_bot;
    rising = pos_in;
    root_in = sift_in (spec.initial ∷ []) U;
    in_root = in_sift (spec.initial ∷ []) U spec.initial uni.has_initial first;
    nxt = λ e s i. suc (where_is (left_after spec e s (get_or positions i []))).0;
    nxt_below = λ e s i. omega (arith, (where_is (left_after spec e s (get_or positions i []))).1);
    from_onto = λ e s i h m. let S = left_after spec e s (get_or positions i []) in
        sift_in S U h (subst (λ (L : List Formula). h ∈ L) (where_is S).2 m);
    to_onto = λ e s i l h m. let S = left_after spec e s (get_or positions i []) in
        subst (λ (L : List Formula). h ∈ L) (sym (where_is S).2) (in_sift S U h (left_in e s i l h m) m);
  }
