-- The laws of cards.
use Rattle.std.proofs.Common.{◌≡◌, ℕ, cond, eqb, ◌⊎◌, sym, refl, ap, ◌∙◌, subst, inl, inr, arith}
use Rattle.temporal.specs.Game.{Spec, WellFormed}
use Rattle.temporal.proofs.Runs.{never_both}
use Rattle.tableau.specs.Card.{Card, CardKind, opened, closed, kind_of}
use Rattle.tableau.specs.Judge.{realizable, unrealizable, verdict_of, depth_at, depth_of}
use Rattle.tableau.specs.Acceptable.{AcceptableOpen, AcceptableClosed}
use Rattle.tableau.specs.Laws.{DepthOfNodes, DifferentFormulas, OpenPlayNeverLost, OpenRepliesWin, OpenSystemWins}
use Rattle.tableau.specs.Laws.{ClosedPlayEnds, ClosedEndLost, ClosedInputsWin, ClosedBreaksWithin, ClosedEnvironmentWins}
use Rattle.tableau.specs.Laws.{VerdictNamesWinner, JudgedDepthBoundsPlay, VerdictsAgree, SomeCard, OneKind, WinnerHasCard}
use Rattle.tableau.specs.Laws.{OneWins, ForcesBySet, ForcesWins}
use Rattle.tableau.proofs.Open as opening
use Rattle.tableau.proofs.Closed as closing
use Rattle.tableau.proofs.Order.{accepts}
use Rattle.tableau.proofs.Trees.{good_list}
use Rattle.tableau.proofs.Different.{different_trees}
use Rattle.tableau.proofs.Tableau.{tableau}
use Rattle.tableau.proofs.Joined.{open_tableau, closed_tableau}
use Rattle.tableau.proofs.Forces.{forces_more}
use Rattle.tableau.proofs.Exists.{open_or_forces, forced_card}

pub different_formulas : DifferentFormulas
different_formulas spec c ok = different_trees spec c (good_list spec c ok)

-- ── open ──
pub open_play_never_lost : OpenPlayNeverLost
open_play_never_lost spec c w ok r g u = opening.never_lost spec (tableau c) (open_tableau spec c ok.0 ok.1) w r g u

pub open_replies_win : OpenRepliesWin
open_replies_win spec c w ok =
    let T = open_tableau spec c ok.0 ok.1 in
    (opening.replies_in_range spec (tableau c) T, opening.replies_never_lose spec (tableau c) T w)

pub open_system_wins : OpenSystemWins
open_system_wins spec c w ok = opening.open_wins spec (tableau c) (open_tableau spec c ok.0 ok.1) w

-- ── closed ──
pub depth_of_nodes : DepthOfNodes
depth_of_nodes spec c ok n l =
    sym (closing.deep_enough spec (tableau c) (closed_tableau spec c ok.0 ok.1) (tableau c).size n l (omega arith))

pub closed_play_ends : ClosedPlayEnds
closed_play_ends spec c ok r g u = closing.lasts spec (tableau c) (closed_tableau spec c ok.0 ok.1) r g u

pub closed_end_lost : ClosedEndLost
closed_end_lost spec c ok r u =
    let T = closed_tableau spec c ok.0 ok.1 in
    (closing.end_lost spec (tableau c) T r u, λ on e. closing.end_broken spec (tableau c) T r u on (omega arith))

pub closed_inputs_win : ClosedInputsWin
closed_inputs_win spec c ok d p =
    let T = closed_tableau spec c ok.0 ok.1 in
    (closing.inputs_permitted spec (tableau c) T d p, closing.lost_by spec (tableau c) T d p)

pub closed_breaks_within : ClosedBreaksWithin
closed_breaks_within spec c ok d p = closing.broken_by spec (tableau c) (closed_tableau spec c ok.0 ok.1) d p

pub closed_environment_wins : ClosedEnvironmentWins
closed_environment_wins spec c w ok =
    closing.closed_wins spec (tableau c) (closed_tableau spec c ok.0 ok.1) w.input w.permitted

-- ── winners ──
was_open : (k : CardKind) → realizable ≡ verdict_of k → k ≡ opened
was_open opened e = refl
was_open closed e = let z : ◌≡◌ {A = ℕ} 0 1 = cc in absurd (omega arith)

was_closed : (k : CardKind) → unrealizable ≡ verdict_of k → k ≡ closed
was_closed opened e = let z : ◌≡◌ {A = ℕ} 0 1 = cc in absurd (omega arith)
was_closed closed e = refl

pub verdict_names_winner : VerdictNamesWinner
verdict_names_winner spec c d w = (
  (λ e. let a = (accepts spec c (realizable, d)).0 e in open_system_wins spec c w (a.good, was_open (kind_of c) a.verdict)),
  (λ e. let a = (accepts spec c (unrealizable, d)).0 e in closed_environment_wins spec c w (a.good, was_closed (kind_of c) a.verdict)),
)

pub judged_depth_bounds_play : JudgedDepthBoundsPlay
judged_depth_bounds_play spec c d e =
    let a = (accepts spec c (unrealizable, d)).0 e in
    let w = was_closed (kind_of c) a.verdict in
    let q : d ≡ depth_at c 0 = subst (λ (k : CardKind). d ≡ depth_of k c) w a.depth in
    (q, λ r g u. omega (arith, q, (closed_play_ends spec c (a.good, w) r g u).0))

pub some_card : SomeCard
some_card spec w = elim (open_or_forces spec w)
    [ inl p ↦ (p.0, p.1.0) | inr f ↦ let q = forced_card spec w f.0 f.1 in (q.0, q.1.0) ]

-- the kind's number, from the kind
kind_number_lem : (c : Card) → (c.kind ≡ 1) ⊎ (c.kind ≡ 2) → ((kind_of c ≡ opened) × (c.kind ≡ 1)) ⊎ ((kind_of c ≡ closed) × (c.kind ≡ 2))
kind_number_lem c (inl e) = inl (ap (λ (k : ℕ). cond (eqb k 1) opened closed) e, e)
kind_number_lem c (inr e) = inr (ap (λ (k : ℕ). cond (eqb k 1) opened closed) e, e)

clash : (spec : Spec) (c d : Card) → WellFormed spec → AcceptableOpen spec c → AcceptableClosed spec d → ⊥
clash spec c d w o s = never_both spec (open_system_wins spec c w o) (closed_environment_wins spec d w s)

pub one_kind : OneKind
one_kind spec c d w a b = go (kind_number_lem c a.known) (kind_number_lem d b.known)
  where
    go : ((kind_of c ≡ opened) × (c.kind ≡ 1)) ⊎ ((kind_of c ≡ closed) × (c.kind ≡ 2))
        → ((kind_of d ≡ opened) × (d.kind ≡ 1)) ⊎ ((kind_of d ≡ closed) × (d.kind ≡ 2)) → c.kind ≡ d.kind
    go (inl p) (inl q) = p.1 ∙ sym q.1
    go (inl p) (inr q) = absurd (clash spec c d w (a, p.0) (b, q.0))
    go (inr p) (inl q) = absurd (clash spec d c w (b, q.0) (a, p.0))
    go (inr p) (inr q) = p.1 ∙ sym q.1

pub verdicts_agree : VerdictsAgree
verdicts_agree spec c d u v m n w e f =
    let a = (accepts spec c (u, m)).0 e in let b = (accepts spec d (v, n)).0 f in
    a.verdict ∙ ap (λ (k : ℕ). verdict_of (cond (eqb k 1) opened closed)) (one_kind spec c d w a.good b.good) ∙ sym b.verdict

pub one_wins : OneWins
one_wins spec w = elim (open_or_forces spec w) [
  | inl p ↦ inl (open_system_wins spec p.0 w p.1)
  | inr f ↦ let q = forced_card spec w f.0 f.1 in inr (closed_environment_wins spec q.0 w q.1)
]

pub winner_has_card : WinnerHasCard
winner_has_card spec w = (
  (
    (λ s. elim (open_or_forces spec w) [
      | inl p ↦ p
      | inr f ↦ let q = forced_card spec w f.0 f.1 in absurd (never_both spec s (closed_environment_wins spec q.0 w q.1))
    ]),
    (λ p. open_system_wins spec p.0 w p.1),
  ),
  (
    (λ e. elim (open_or_forces spec w)
        [ inl p ↦ absurd (never_both spec (open_system_wins spec p.0 w p.1) e) | inr f ↦ forced_card spec w f.0 f.1 ]),
    (λ p. closed_environment_wins spec p.0 w p.1),
  ),
)

-- ── forcing ──
pub forces_by_set : ForcesBySet
forces_by_set spec k S T same = (forces_more spec k S T (λ h. (same h).0), forces_more spec k T S (λ h. (same h).1))

pub forces_wins : ForcesWins
forces_wins spec w = (
  (λ e. elim (open_or_forces spec w) [ inl p ↦ absurd (never_both spec (open_system_wins spec p.0 w p.1) e) | inr f ↦ f ]),
  (λ f. let q = forced_card spec w f.0 f.1 in closed_environment_wins spec q.0 w q.1),
)
