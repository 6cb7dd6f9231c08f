-- A play along an acceptable closed card has at most as many turns as the card is deep, and is lost at the end;
-- the card's inputs win for the environment.
use Rattle.std.proofs.Common.{◌≡◌, ℕ, zero, suc, ◌+◌, ◌<◌, ◌≤◌, max, Bool, true, false, ◌⊎◌, List, [], ◌∷◌, ◌++◌, length, sym, refl, ap, ◌∙◌, subst, inl, inr, append_assoc, append-nil, arith, length-append, pow_pos, eq-eqb}
use mathlib.Core.Bool.{false≢true}
use lib.ListN.{get_or-append}
use Rattle.temporal.specs.Formula.{Formula, bot, Reading, ◌⊆◌, from, holds, reach, rest}
use Rattle.temporal.specs.Parts.{◌∈◌, first, later}
use Rattle.temporal.specs.Game.{Spec, Permitted, Run, reading, readings, blank, Broken, InRange, Lost, Asked}
use Rattle.temporal.specs.Game.{EnvironmentWins, spec_reach}
use Rattle.temporal.proofs.Truth.{rest_exact, more_true}
use Rattle.temporal.proofs.Lists.{map_in, one_member, sorted}
use Rattle.tableau.specs.Lists.{count}
use Rattle.tableau.specs.Moves.{Target, end, node, Move, fits_env, fits_sys, generous, first_move, first_fit}
use Rattle.tableau.specs.Judge.{target_depth, deepest, depth_in}
use Rattle.tableau.specs.Plays.{Leads, input_at, input_rule}
use Rattle.tableau.proofs.Cover.{held_true, covers_true}
use Rattle.tableau.proofs.Fits.{reading_generous, first_fits, first_all}
use Rattle.tableau.proofs.Open.{◌◂◌}
use Rattle.tableau.proofs.Tableau.{Tableau, moves_in, ClosedStep, rests_by, ClosedTableau}

-- one step forward, by any reading that misses nothing
pub forward : (σ : ℕ → Reading) (R : Reading) → σ 0 ⊆ R → (f : Formula) → holds σ f ≡ true → holds (from 1 σ) (rest R f) ≡ true
forward σ R wide f h = sym (rest_exact (R ◂ from 1 σ) f) ∙ more_true σ (R ◂ from 1 σ) f wider h
  where
    wider : (k : ℕ) → k ≤ reach f → σ k ⊆ (R ◂ from 1 σ) k
    wider zero a = wide
    wider (suc k) a = λ s i x. x

pub front_in : (p : Move → Bool) (ms : List Move) → count p ms ≡ 1 → first_move ms ∈ ms
front_in p [] h = absurd (omega arith)
front_in p (m ∷ ms) h = first

module _ (spec : Spec) (T : Tableau) (ok : ClosedTableau spec T) where
  -- along a play to the end, the safety formula and the label cannot all be true
  clash : (r : Run) (n : ℕ) → n < T.size → Leads (moves_in T) (node n) r end
      → (σ : ℕ → Reading) → ((t : ℕ) → t < length r → σ t ≡ readings r t)
      → ((t : ℕ) → t < length r → holds (from t σ) spec.safety ≡ true)
      → ((h : Formula) → h ∈ (T.at n).label → holds σ h ≡ true) → ⊥
  clash [] n l u σ same safe all = let z : ◌≡◌ {A = ℕ} 0 1 = cc in omega arith
  clash (x ∷ r) n l u σ same safe all =
      onward m.target ((ok.nodes n l).step m u.1) u.4
      (λ k l v all. clash r k l v (from 1 σ) (λ t a. same (suc t) (omega arith)) (λ t a. safe (suc t) (omega arith)) all)
    where
      m : Move
      m = u.0

      S : List Formula
      S = rests_by spec (T.at n) m

      now : (h : Formula) → h ∈ (spec.safety ∷ (T.at n).label) → holds σ h ≡ true
      now h first = safe 0 (omega arith)
      now h (later i) = all h i

      wide : σ 0 ⊆ generous m
      wide = subst (λ (R : Reading). R ⊆ generous m) (sym (same 0 (omega arith))) (reading_generous m x u.2 u.3)

      then : (h : Formula) → h ∈ S → holds (from 1 σ) h ≡ true
      then h i =
          let q = map_in (rest (generous m)) (spec.safety ∷ (T.at n).label) h i in
          rw q.2 (forward σ (generous m) wide q.0 (now q.0 q.1))

      onward : (g : Target) → ClosedStep T n S g → Leads (moves_in T) g r end
          → ((k : ℕ) → k < T.size → Leads (moves_in T) (node k) r end
          → ((h : Formula) → h ∈ (T.at k).label → holds (from 1 σ) h ≡ true) → ⊥) → ⊥
      onward end s v ih = false≢true (held_true (from 1 σ) S then bot s)
      onward (node k) s v ih = ih k s.1 v (λ h i. covers_true (from 1 σ) S then h (s.2 h i))

  -- a play to the end, continued by at least the reach, is broken
  pub end_broken : (r : Run) → Leads (moves_in T) (node 0) r end → (on : Run) → spec_reach spec ≤ length on → Broken spec (r ++ on)
  end_broken [] u on l = let z : ◌≡◌ {A = ℕ} 0 1 = cc in absurd (omega arith)
  end_broken (x ∷ r) u on l = go (holds σ spec.initial) refl
      (sorted (λ t. holds (from t σ) spec.safety ≡ false) (λ t. holds (from t σ) spec.safety ≡ true)
      (λ t. either_value (holds (from t σ) spec.safety)) (length run))
    where
      run : Run
      run = x ∷ r

      σ : ℕ → Reading
      σ = readings (run ++ on)

      either_value : (b : Bool) → (b ≡ false) ⊎ (b ≡ true)
      either_value true = inr refl
      either_value false = inl refl

      long : length (run ++ on) ≡ length run + length on
      long = length-append run on

      go : (b : Bool) → holds σ spec.initial ≡ b
          → ((t : ℕ) × (t < length run) × (holds (from t σ) spec.safety ≡ false))
          ⊎ ((t : ℕ) → t < length run → holds (from t σ) spec.safety ≡ true)
          → Broken spec (run ++ on)
      go false e y = (spec.initial, 0, inl (refl, refl), omega (arith, long), e)
      go true e (inl y) = (spec.safety, y.0, inr refl, omega (arith, long, y.1), y.2)
      go true e (inr all) =
          absurd (clash run 0 ok.some u σ (λ t a. ap reading (get_or-append run on blank t a)) all
          (λ h i. covers_true σ (spec.initial ∷ []) (one_member spec.initial (λ f. holds σ f ≡ true) e) h (ok.root h i)))

  pub end_lost : (r : Run) → Leads (moves_in T) (node 0) r end → Lost spec r
  end_lost r u = (spec_reach spec, λ on e i. end_broken r u on (omega arith))

  -- ── depth ──
  abbrev deep : ℕ → ℕ → ℕ
  deep b n = depth_in b (moves_in T) n

  target_deepest : (d : ℕ → ℕ) (ms : List Move) (m : Move) → m ∈ ms → target_depth d m.target ≤ deepest d ms
  target_deepest d [] m i = elim i [ ]
  target_deepest d (x ∷ ms) m first = omega arith
  target_deepest d (x ∷ ms) m (later i) = let h = target_deepest d ms m i in omega arith

  module _ (g : Target) where
    turns : (r : Run) (b n : ℕ) → n < T.size → T.size ≤ n + b → Leads (moves_in T) (node n) r g
        → (length r ≤ deep b n) × ((k : ℕ) → g ≡ node k → length r < deep b n)
    turns [] zero n l h u = absurd (omega arith)
    turns [] (suc b) n l h u = (omega arith, λ k e. omega arith)
    turns (x ∷ r) zero n l h u = absurd (omega arith)
    turns (x ∷ r) (suc b) n l h u =
        go u.0.target ((ok.nodes n l).step u.0 u.1) (target_deepest (deep b) (T.at n).moves u.0 u.1) u.4
        (λ k a z v. turns r b k z (omega arith) v)
      where
        D : ℕ
        D = deepest (deep b) (T.at n).moves

        over : (r : Run) → Leads (moves_in T) end r g → (length r ≡ 0) × (end ≡ g)
        over [] v = (refl, v)
        over (x ∷ r) v = absurd v

        go : (q : Target) → ClosedStep T n (rests_by spec (T.at n) u.0) q → target_depth (deep b) q ≤ D → Leads (moves_in T) q r g
            → ((k : ℕ) → n < k → k < T.size → Leads (moves_in T) (node k) r g
            → (length r ≤ deep b k) × ((j : ℕ) → g ≡ node j → length r < deep b k))
            → (suc (length r) ≤ suc D) × ((k : ℕ) → g ≡ node k → suc (length r) < suc D)
        go end s a v ih =
            let o = over r v in
            (omega (arith, o.0), λ k e. let z : ◌≡◌ {A = ℕ} 0 1 = cc (o.1, e) in absurd (omega arith))
        go (node j) s a v ih = let q = ih j s.0 s.1 v in (omega (arith, q.0), λ k e. omega (arith, q.1 k e))

  pub lasts : (r : Run) (g : Target) → Leads (moves_in T) (node 0) r g
      → (length r ≤ deep T.size 0) × ((k : ℕ) → g ≡ node k → length r < deep T.size 0)
  lasts r g u = turns g r T.size 0 ok.some (omega arith) u

  -- more rounds give no other depth
  same_deepest : (f g : ℕ → ℕ) (ms : List Move)
      → ((m : Move) → m ∈ ms → target_depth f m.target ≡ target_depth g m.target) → deepest f ms ≡ deepest g ms
  same_deepest f g [] h = refl
  same_deepest f g (m ∷ ms) h = λ i. max (h m first i) (same_deepest f g ms (λ x k. h x (later k)) i)

  pub deep_enough : (b n : ℕ) → n < T.size → T.size ≤ n + b → deep (suc b) n ≡ deep b n
  deep_enough zero n l h = absurd (omega arith)
  deep_enough (suc b) n l h =
      ap suc (same_deepest (deep (suc b)) (deep b) (T.at n).moves
      (λ m i. go m.target m ((ok.nodes n l).step m i) (λ k a z. deep_enough b k z (omega arith))))
    where
      go : (g : Target) (m : Move) → ClosedStep T n (rests_by spec (T.at n) m) g
          → ((k : ℕ) → n < k → k < T.size → deep (suc b) k ≡ deep b k) → target_depth (deep (suc b)) g ≡ target_depth (deep b) g
      go end m s ih = refl
      go (node k) m s ih = ih k s.0 s.1

  -- ── the card as an input rule, with any permitted input at the end ──
  module _ (d : ℕ) (dp : Permitted spec d) where
    abbrev ask : Target → List ℕ → ℕ
    ask p = input_at (moves_in T) d p

    Place : Target → Type 0
    Place end = Unit {0}
    Place (node n) = n < T.size

    place_of : (n : ℕ) (S : List Formula) (g : Target) → ClosedStep T n S g → Place g
    unfolding Place
    place_of n S end s = tt
    place_of n S (node k) s = s.1

    next_place : (n : ℕ) → n < T.size → (s : ℕ) → Place (first_fit (fits_sys s) (T.at n).moves).target
    unfolding Place
    next_place n l s =
        first_all (fits_sys s) (λ m. Place m.target) tt (T.at n).moves
        (λ m i. place_of n (rests_by spec (T.at n) m) m.target ((ok.nodes n l).step m i))

    front_there : (n : ℕ) → n < T.size → first_move (T.at n).moves ∈ (T.at n).moves
    front_there n l = front_in (fits_sys 0) (T.at n).moves ((ok.nodes n l).split 0 (pow_pos spec.system))

    asks_permitted : (ss : List ℕ) (p : Target) → Place p → Permitted spec (ask p ss)
    unfolding Place
    asks_permitted ss end l = dp
    asks_permitted [] (node n) l = ((ok.nodes n l).input (first_move (T.at n).moves) (front_there n l)).1
    asks_permitted (s ∷ ss) (node n) l =
        asks_permitted ss (first_fit (fits_sys s) (T.at n).moves).target (next_place n l s)

    -- a run that the rule asked leads to the end at some step, or to a node
    abbrev Followed : Target → Run → Type 0
    Followed p r =
        (a b : Run) × (g : Target) × (a ++ b ≡ r) × Leads (moves_in T) p a g × ((g ≡ end) ⊎ ((b ≡ []) × (k : ℕ) × (g ≡ node k)))

    follow : (r : Run) (p : Target) → Place p → InRange spec r → Asked (ask p) r → Followed p r
    unfolding Place
    follow [] end l i by = ([], [], end, refl, refl, inl refl)
    follow [] (node n) l i by = ([], [], node n, refl, refl, inr (refl, n, refl))
    follow (x ∷ r) end l i by = ([], x ∷ r, end, refl, refl, inl refl)
    follow (x ∷ r) (node n) l i by =
        let m = first_fit (fits_sys x.sys) (T.at n).moves in
        let f = first_fits (fits_sys x.sys) (T.at n).moves ((ok.nodes n l).split x.sys i.1) in
        let v = follow r m.target (next_place n l x.sys) i.2 by.1 in
        let e : m.env_values ≡ x.env =
        (((ok.nodes n l).input m f.0).0 (first_move (T.at n).moves) (front_there n l)).1 ∙ sym by.0 in
        let fit : fits_env m.env_values m ≡ true = eq-eqb _ _ ((ok.nodes n l).formed m f.0).env in (
          x ∷ v.0,
          v.1,
          v.2,
          ap (λ (s : Run). x ∷ s) v.3,
          (m, f.0, subst (λ (y : ℕ). fits_env y m ≡ true) e fit, f.1, v.4),
          v.5,
        )

    -- within the depth the run has led to the end; from there on the reach breaks it
    asked_broken : (r on : Run) → InRange spec r → Asked (ask (node 0)) r
        → deep T.size 0 ≤ length r → deep T.size 0 + spec_reach spec ≤ length r + length on → Broken spec (r ++ on)
    unfolding Place
    asked_broken r on i by l h = go (follow r (node 0) ok.some i by)
      where
        go : Followed (node 0) r → Broken spec (r ++ on)
        go (a, b, g, e, u, inl x) =
            let a_end : Leads (moves_in T) (node 0) a end = subst (Leads (moves_in T) (node 0) a) x u in
            let short = (lasts a end a_end).0 in
            subst (Broken spec) (sym (append_assoc a b on) ∙ ap (λ (s : Run). s ++ on) e)
            (end_broken a a_end (b ++ on) (omega (arith, length-append b on, length-append a b, ap length e)))
        go (a, b, g, e, u, inr x) =
            let short = (lasts a g u).1 x.1 x.2 in
            absurd (omega (arith, length-append a b, ap length e, ap length x.0))

    pub inputs_permitted : (ss : List ℕ) → Permitted spec (input_rule (moves_in T) d ss)
    unfolding Place
    inputs_permitted ss = asks_permitted ss (node 0) ok.some

    -- every run of depth plus reach steps is broken
    pub broken_by : (r : Run) → InRange spec r → length r ≡ deep T.size 0 + spec_reach spec
        → Asked (input_rule (moves_in T) d) r → Broken spec r
    broken_by r i e by = subst (Broken spec) (append-nil r) (asked_broken r [] i by (omega arith) (omega arith))

    -- after depth steps every continuation by the reach is broken
    pub lost_by : (r : Run) → InRange spec r → length r ≡ deep T.size 0 → Asked (input_rule (moves_in T) d) r
        → (on : Run) → length on ≡ spec_reach spec → Broken spec (r ++ on)
    lost_by r i e by on f = asked_broken r on i by (omega arith) (omega arith)

    pub closed_wins : EnvironmentWins spec
    closed_wins = record {
      rule = input_rule (moves_in T) d;
      permitted = inputs_permitted;
      steps = deep T.size 0;
      lost = λ r i e by. (spec_reach spec, λ on f j. lost_by r i e by on f);
    }
