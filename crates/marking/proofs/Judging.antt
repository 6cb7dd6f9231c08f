-- The judge, from its parts; and what its answer means.
use Rattle.std.proofs.Common.{◌≡◌, ℕ, ◌≤◌, Bool, true, false, cond, ltb, length, IsErrAnd, Ok, Err, Result, sym, refl, ap, ◌∙◌, subst, arith}
use Rattle.std.proofs.lemmas.Bool.{le-ltb, ltb-false}
use Rattle.faults.specs.declared.Buffer.{Buffer}
use Rattle.faults.specs.declared.Buffer.TheVariants as buffer
use Rattle.faults.specs.declared.card.CardFault.{CardFault}
use Rattle.faults.specs.declared.card.CardFault.TheVariants.{Short}
use Rattle.temporal.specs.Game.{Spec, WellFormed}
use Rattle.temporal.proofs.Runs.{never_both}
use Rattle.tableau.specs.Card.{Card, CardKind, closed, kind_of, move_at}
use Rattle.tableau.specs.Conditions.{Fault, before_root, at_root, at_nodes}
use Rattle.tableau.specs.Judge.{Verdict, realizable, unrealizable, verdict_of, depth_of, judged_by, judge, after}
use Rattle.tableau.specs.Acceptable.{TargetKept}
use Rattle.tableau.proofs.Order.{accepts, refuses}
use Rattle.tableau.proofs.Laws.{verdict_names_winner}
use Rattle.records.specs.Raw.{RawCard, model}
use Rattle.card.proofs.Model.{model_nodes}
use Rattle.judged.specs.Judged.{fault_of}
use Rattle.marking.specs.declared.verdict.Marked.{Marked}
use Rattle.marking.specs.Verdicts.{DepthKnown}
use Rattle.marking.specs.Roots.{enough}
use Rattle.marking.specs.Checks.{checked_as, checks, Wins, Means}

-- ── the three parts ──
module _ (spec : Spec) (c : Card) where
  abbrev verdict : Verdict × ℕ
  verdict = (verdict_of (kind_of c), depth_of (kind_of c) c)

  abbrev from_nodes_lem : Result (Verdict × ℕ) Fault
  from_nodes_lem = after (judged_by spec c (at_nodes c)) (λ _. Ok verdict)

  abbrev from_root : Result (Verdict × ℕ) Fault
  from_root = after (judged_by spec c at_root) (λ _. from_nodes_lem)

  pub before_fails : (e : Fault) → judged_by spec c (before_root c) ≡ Err e → judge spec c ≡ Err e
  before_fails e h = ap (λ r. after r (λ _. from_root)) h

  module _ (before : judged_by spec c (before_root c) ≡ Ok tt) where
    pub root_fails : (e : Fault) → judged_by spec c at_root ≡ Err e → judge spec c ≡ Err e
    root_fails e h = ap (λ r. after r (λ _. from_root)) before ∙ ap (λ r. after r (λ _. from_nodes_lem)) h

    module _ (root : judged_by spec c at_root ≡ Ok tt) where
      pub nodes_fail : (e : Fault) → judged_by spec c (at_nodes c) ≡ Err e → judge spec c ≡ Err e
      nodes_fail e h =
          ap (λ r. after r (λ _. from_root)) before ∙ ap (λ r. after r (λ _. from_nodes_lem)) root ∙ ap (λ r. after r (λ _. Ok verdict)) h

      pub all_pass : judged_by spec c (at_nodes c) ≡ Ok tt → judge spec c ≡ Ok verdict
      all_pass h =
          ap (λ r. after r (λ _. from_root)) before ∙ ap (λ r. after r (λ _. from_nodes_lem)) root ∙ ap (λ r. after r (λ _. Ok verdict)) h

-- the targets of an accepted closed card rise
pub depth_known : (spec : Spec) (c : RawCard) → judge spec (model c) ≡ Ok (verdict_of (kind_of (model c)), depth_of (kind_of (model c)) (model c))
    → DepthKnown c
depth_known spec c h k =
    let a = (accepts spec (model c) (verdict_of (kind_of (model c)), depth_of (kind_of (model c)) (model c))).0 h in
    let n = model_nodes c in
    record {
      few = omega (arith, a.limits.nodes, n);
      targets = λ i m l o.
          subst (λ (x : ℕ). TargetKept closed x i (move_at (model c) m).target) n
          (subst (λ (t : CardKind). TargetKept t (length (model c).nodes) i (move_at (model c) m).target) k
          ((a.good.nodes i (omega (arith, n))).targets m o));
    }

-- ── what the answer means ──
wins : (spec : Spec) (c : Card) → WellFormed spec → (v : Verdict) (d : ℕ) → judge spec c ≡ Ok (v, d) → Wins spec v
wins spec c w realizable d h = let s = (verdict_names_winner spec c d w).0 h in (s, λ e. never_both spec s e)
wins spec c w unrealizable d h = let e = (verdict_names_winner spec c d w).1 h in (e, λ s. never_both spec s e)

judge_means : (spec : Spec) (c : Card) → WellFormed spec → (x : Result (Verdict × ℕ) Fault) → judge spec c ≡ x → Means spec c x
judge_means spec c w (Ok r) h = ((accepts spec c r).0 h, wins spec c w r.0 r.1 h)
judge_means spec c w (Err e) h = (refuses spec c e).0 h

module _ (n : ℕ) (spec : Spec) (c : Card) where
  -- with slots enough, the check is the judge
  pub judged : 2048 ≤ n → checks n spec c ≡ judge spec c
  judged l = ap (λ b. cond b (Err (fault_of (Short buffer.Index))) (judge spec c)) (le-ltb n 2048 l)

  pub too_short : ltb n 2048 ≡ true → Err (fault_of (Short buffer.Index)) ≡ checks n spec c
  too_short h = sym (ap (λ b. cond b (Err (fault_of (Short buffer.Index))) (judge spec c)) h)

  pub meaning_of : WellFormed spec → (x : Result (Verdict × ℕ) Fault) → x ≡ checks n spec c → 2048 ≤ n → Means spec c x
  meaning_of w x e l = judge_means spec c w x (sym (e ∙ judged l))

-- a refusal that is handed on
pub handed_check : (e : CardFault) (r : Result Marked CardFault) → IsErrAnd r (λ y. y ≡ e) → checked_as r ≡ Err (fault_of e)
handed_check e (Ok x) h = absurd h
handed_check e (Err y) h = ap (λ f. Err (fault_of f)) h

-- ── the size of the index ──
pub slots_enough : (n : ℕ) → Ok tt ≡ enough n → 2048 ≤ n
slots_enough n h = go (ltb n 2048) refl h
  where
    go : (b : Bool) → ltb n 2048 ≡ b → ◌≡◌ {A = Result (Unit {0}) Buffer} (Ok tt) (cond b (Err buffer.Index) (Ok tt)) → 2048 ≤ n
    go true e h = let z : ◌≡◌ {A = ℕ} 0 1 = cc in absurd (omega arith)
    go false e h = ltb-false n 2048 e
