-- A run along an acceptable open card is never lost, and the card's replies win for the system.
use Rattle.std.proofs.Common.{◌≡◌, ℕ, zero, suc, ◌<◌, true, ◌⊎◌, List, [], ◌∷◌, ◌++◌, length, sym, refl, ap, ◌∙◌, subst, inl, inr, true≢false, append-nil, arith, pow_pos, eq-eqb}
use lib.Bits.{and_le_r}
use Rattle.temporal.specs.Formula.{Formula, Reading, ◌⊆◌, from, holds, rest}
use Rattle.temporal.specs.Parts.{◌∈◌, first, later}
use Rattle.temporal.specs.Game.{Spec, Permitted, Reply, WellFormed, Step, Run, readings, Instance, Complete, Broken, InRange, Lost}
use Rattle.temporal.specs.Game.{Replied, SystemWins}
use Rattle.temporal.proofs.Truth.{rest_exact, more_true, full, full_true}
use Rattle.temporal.proofs.Lists.{cast, in_map}
use Rattle.tableau.specs.Moves.{Target, end, node, Move, fits_env, fits_sys, cautious, first_fit}
use Rattle.tableau.specs.Acceptable.{MoveFormed, CoversAll}
use Rattle.tableau.specs.Plays.{Leads, reply_at, reply_rule}
use Rattle.tableau.proofs.Cover.{covers_true}
use Rattle.tableau.proofs.Fits.{cautious_reading, first_fits, first_all}
use Rattle.tableau.proofs.Tableau.{Tableau, moves_in, label_in, IsNode, OpenNode, OpenTableau}

infixr 50 ◌◂◌
-- one more reading in front
abbrev pub ◌◂◌ : {A : Type 0} → A → (ℕ → A) → (ℕ → A)
(a ◂ σ) zero = a
(a ◂ σ) (suc t) = σ t

-- a run backs a list of formulas if they hold for readings that lie within its steps; what comes after the run is left free
pub record Backed (L : List Formula) (r : Run) : Type 0 where
  pub seq : ℕ → Reading
  pub within : (t : ℕ) → t < length r → seq t ⊆ readings r t
  pub true_there : (h : Formula) → h ∈ L → holds seq h ≡ true

pub backed_true : {L : List Formula} {r : Run} → Backed L r → (h : Formula) → h ∈ L → Complete r h 0 → holds (readings r) h ≡ true
backed_true {L} {r} b h m l = more_true b.seq (readings r) h (λ k a. b.within k (omega arith)) (b.true_there h m)

-- what a backed set covers is backed
pub backed_covers : {L : List Formula} {r : Run} (M : List Formula) → CoversAll L M → Backed L r → Backed M r
backed_covers {L} M c b =
    record { seq = b.seq; within = b.within; true_there = λ h m. covers_true b.seq L b.true_there h (c h m) }

-- ── nothing but the nodes' conditions is used, until the root's is, last ──
module _ (spec : Spec) (T : Tableau) (nodes : (n : ℕ) → n < T.size → OpenNode spec T (T.at n)) where
  -- the end of a run backs any label: let every literal count as true from there on
  pub backed_end : (p : Target) → IsNode T p → Backed (label_in T p) []
  backed_end end l = absurd l
  backed_end (node n) l = record {
    seq = full;
    within = λ t a. absurd (omega arith);
    true_there = λ h m. full_true spec.environment spec.system h ((nodes n l).fine h m) (λ e. (nodes n l).no_false (cast e m));
  }

  -- one step back, at any node and by any step that fits the move:
  -- if the target's label is backed, so are the label and the safety formula a step before
  pub back : (n : ℕ) → n < T.size → (m : Move) → m ∈ (T.at n).moves
      → (x : Step) → fits_env x.env m ≡ true → fits_sys x.sys m ≡ true
      → (r : Run) → Backed (label_in T m.target) r → Backed (spec.safety ∷ (T.at n).label) (x ∷ r)
  back n l m i x fe fs r b = record {
    seq = cautious m ◂ b.seq;
    within = within;
    true_there = λ h j. rest_exact (cautious m ◂ b.seq) h
        ∙ covers_true b.seq (label_in T m.target) b.true_there (rest (cautious m) h)
        (((nodes n l).step m i).step (rest (cautious m) h) (in_map (rest (cautious m)) (spec.safety ∷ (T.at n).label) h j));
  }
    where
      within : (t : ℕ) → t < suc (length r) → (cautious m ◂ b.seq) t ⊆ readings (x ∷ r) t
      within zero a = cautious_reading m x fe fs
      within (suc t) a = b.within t (omega arith)

  pub inside : (n : ℕ) → n < T.size → (m : Move) → m ∈ (T.at n).moves → IsNode T m.target
  inside n l m i = ((nodes n l).step m i).inside

  -- back along a play, with any continuation that backs its last label
  module _ (g : Target) (on : Run) (b : Backed (label_in T g) on) where
    pub label_backed : (r : Run) (p : Target) → IsNode T p → Leads (moves_in T) p r g → Backed (label_in T p) (r ++ on)
    label_backed [] p l u = subst (λ (q : Target). Backed (label_in T q) on) (sym u) b
    label_backed (x ∷ r) end l u = absurd u
    label_backed (x ∷ r) (node n) l u =
        let d = back n l u.0 u.1 x u.2 u.3 (r ++ on)
        (label_backed r u.0.target (inside n l u.0 u.1) u.4) in
        record { seq = d.seq; within = d.within; true_there = λ h m. d.true_there h (later m) }

    pub safety_true : (r : Run) (p : Target) → IsNode T p → Leads (moves_in T) p r g
        → (t : ℕ) → t < length r → Complete (r ++ on) spec.safety t → holds (from t (readings (r ++ on))) spec.safety ≡ true
    safety_true [] p l u t a f = absurd (omega arith)
    safety_true (x ∷ r) end l u t a f = absurd u
    safety_true (x ∷ r) (node n) l u zero a f =
        backed_true (back n l u.0 u.1 x u.2 u.3 (r ++ on)
        (label_backed r u.0.target (inside n l u.0 u.1) u.4)) spec.safety first f
    safety_true (x ∷ r) (node n) l u (suc t) a f =
        safety_true r u.0.target (inside n l u.0 u.1) u.4 t (omega arith) (omega arith)

  pub stays_inside : (g : Target) (r : Run) (p : Target) → IsNode T p → Leads (moves_in T) p r g → IsNode T g
  stays_inside g [] p l u = subst (IsNode T) u l
  stays_inside g (x ∷ r) end l u = absurd u
  stays_inside g (x ∷ r) (node n) l u = stays_inside g r u.0.target (inside n l u.0 u.1) u.4

  -- ── the card as a reply rule ──
  values_in_range : (m : Move) → MoveFormed spec m → Reply spec m.sys_values
  values_in_range m p = omega (arith, p.sys, and_le_r m.sys_values m.sys_mask, p.sys_mask)

  -- a node, or the end, which the rule comes to if an input fits no move
  abbrev Place : Target → Type 0
  Place p = (p ≡ end) ⊎ IsNode T p

  reply_place : (n : ℕ) → n < T.size → (e : ℕ)
      → Reply spec (first_fit (fits_env e) (T.at n).moves).sys_values × Place (first_fit (fits_env e) (T.at n).moves).target
  reply_place n l e =
      first_all (fits_env e) (λ m. Reply spec m.sys_values × Place m.target) (pow_pos spec.system, inl refl) (T.at n).moves
      (λ m i. (values_in_range m ((nodes n l).step m i).formed, inr (inside n l m i)))

  in_range : (is : List ℕ) (p : Target) → Place p → (e : ℕ) → Reply spec (reply_at (moves_in T) p e is)
  in_range is end l e = pow_pos spec.system
  in_range is (node n) (inl z) e = let y : ◌≡◌ {A = ℕ} 0 1 = cc in absurd (omega arith)
  in_range [] (node n) (inr l) e = (reply_place n l e).0
  in_range (i ∷ is) (node n) (inr l) e = in_range is (first_fit (fits_env e) (T.at n).moves).target (reply_place n l e).1 i

  -- the move for a permitted input
  the_move : (n : ℕ) (l : n < T.size) (e : ℕ) → Permitted spec e
      → (first_fit (fits_env e) (T.at n).moves ∈ (T.at n).moves) × (fits_env e (first_fit (fits_env e) (T.at n).moves) ≡ true)
  the_move n l e q = first_fits (fits_env e) (T.at n).moves ((nodes n l).split e q)

  -- the values that a move fixes fit it
  own_values : (n : ℕ) (l : n < T.size) (m : Move) → m ∈ (T.at n).moves → fits_sys m.sys_values m ≡ true
  own_values n l m i = eq-eqb _ _ ((nodes n l).step m i).formed.sys

  follow : (r : Run) (p : Target) → IsNode T p
      → (ρ : List ℕ → ℕ) → ((e : ℕ) (is : List ℕ) → ρ (e ∷ is) ≡ reply_at (moves_in T) p e is) → InRange spec r → Replied ρ r
      → (g : Target) × Leads (moves_in T) p r g
  follow [] p l ρ same i by = (p, refl)
  follow (x ∷ r) end l ρ same i by = absurd l
  follow (x ∷ r) (node n) l ρ same i by =
      let m = first_fit (fits_env x.env) (T.at n).moves in
      let f = the_move n l x.env i.0 in
      let u = follow r m.target (inside n l m f.0) (λ is. ρ (x.env ∷ is)) (λ e is. same x.env (e ∷ is)) i.2 by.1 in
      (u.0, (m, f.0, f.1, rw (by.0 ∙ same x.env []) (own_values n l m f.0), u.1))

  -- a play goes on for any number of turns
  goes_on : WellFormed spec → (k : ℕ) (p : Target) → IsNode T p
      → (on : Run) × (length on ≡ k) × InRange spec on × (g : Target) × Leads (moves_in T) p on g
  goes_on w zero p l = ([], refl, tt, p, refl)
  goes_on w (suc k) end l = absurd l
  goes_on w (suc k) (node n) l =
      let m = first_fit (fits_env w.input) (T.at n).moves in
      let f = the_move n l w.input w.permitted in
      let o = (nodes n l).step m f.0 in
      let r = goes_on w k m.target o.inside in (
        record { env = w.input; sys = m.sys_values } ∷ r.0,
        ap suc r.1,
        (w.permitted, values_in_range m o.formed, r.2),
        r.3,
        (m, f.0, f.1, own_values n l m f.0, r.4),
      )

pub leads_append : (moves : ℕ → List Move) (r on : Run) (p q g : Target)
    → Leads moves p r q → Leads moves q on g → Leads moves p (r ++ on) g
leads_append moves [] on p q g u v = subst (λ (x : Target). Leads moves x on g) (sym u) v
leads_append moves (x ∷ r) on end q g u v = absurd u
leads_append moves (x ∷ r) on (node n) q g u v =
    (u.0, u.1, u.2, u.3, leads_append moves r on u.0.target q g u.4 v)

module _ (spec : Spec) (T : Tableau) (ok : OpenTableau spec T) where
  -- from node 0, with any continuation that backs the last label: no complete instance begun in the play is false
  pub begun_true : (g : Target) (r on : Run) → Leads (moves_in T) (node 0) r g → Backed (label_in T g) on
      → (f : Formula) (t : ℕ) → Instance spec f t → t < length r → Complete (r ++ on) f t
      → holds (from t (readings (r ++ on))) f ≡ true
  begun_true g r on u b f t (inl e) l a =
      rw (e.0, e.1) (backed_true (backed_covers (spec.initial ∷ []) root
      (label_backed spec T ok.nodes g on b r (node 0) ok.some u)) spec.initial first (rw (e.0, e.1) at a))
    where
      root : CoversAll (T.at 0).label (spec.initial ∷ [])
      root h first = ok.root
      root h (later m) = elim m [ ]
  begun_true g r on u b f t (inr e) l a =
      rw e (safety_true spec T ok.nodes g on b r (node 0) ok.some u t l (rw e at a))

  pub unbroken : (g : Target) (r : Run) → Leads (moves_in T) (node 0) r g → Broken spec r → ⊥
  unbroken g r u b =
      let e = append-nil r in
      true≢false (sym (subst (λ (s : Run). holds (from b.1 (readings s)) b.0 ≡ true) e
      (begun_true g r [] u (backed_end spec T ok.nodes g (stays_inside spec T ok.nodes g r (node 0) ok.some u))
      b.0 b.1 b.2 (omega (arith, b.3))
      (subst (λ (s : Run). Complete s b.0 b.1) (sym e) b.3))) ∙ b.4)

  pub never_lost : WellFormed spec → (r : Run) (g : Target) → Leads (moves_in T) (node 0) r g → Lost spec r → ⊥
  never_lost w r g u l =
      let on = goes_on spec T ok.nodes w l.0 g (stays_inside spec T ok.nodes g r (node 0) ok.some u) in
      unbroken on.3 (r ++ on.0) (leads_append (moves_in T) r on.0 (node 0) g on.3 u on.4) (l.1 on.0 on.1 on.2)

  -- the card's own replies win
  pub replies_in_range : (is : List ℕ) → Reply spec (reply_rule (moves_in T) is)
  replies_in_range [] = pow_pos spec.system
  replies_in_range (e ∷ is) = in_range spec T ok.nodes is (node 0) (inr ok.some) e

  pub replies_never_lose : WellFormed spec → (r : Run) → InRange spec r → Replied (reply_rule (moves_in T)) r → Lost spec r → ⊥
  replies_never_lose w r i by l =
      let u = follow spec T ok.nodes r (node 0) ok.some (reply_rule (moves_in T)) (λ e is. refl) i by in
      never_lost w r u.0 u.1 l

  pub open_wins : WellFormed spec → SystemWins spec
  open_wins w = record { rule = reply_rule (moves_in T); replies = replies_in_range; never = replies_never_lose w }
