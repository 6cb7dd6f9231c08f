-- Complete instances do not depend on the padding, broken stays broken, lost stays lost, and never do conj players win.
use mathlib.Core.Path.{◌≡◌, refl, sym, ◌∙◌, ap, subst}
use mathlib.Core.Bool.{Bool, true, false, not, beq}
use mathlib.Core.Logic.{◌↔◌}
use mathlib.Core.List.{List, [], ◌∷◌, ◌++◌, append_assoc}
use Prim.Native.Nat.{ℕ, zero, suc, ◌+◌, ◌^◌, ◌<◌}
use native.Mathlib.Omega.{arith}
use lib.ListN.{length, get_or, take, drop, length-append, get_or-append, take-append-drop, length-take}
use lib.Pow.{pow_pos}
use Rattle.temporal.specs.Formula.{Formula, top, Reading, from, holds, reach, Fine}
use Rattle.temporal.specs.Game.{Spec, Permitted, Reply, WellFormed, Step, Run, value, reading, padded, blank, readings}
use Rattle.temporal.specs.Game.{Complete, Broken, InRange, Lost, inputs, replies, Replied, Asked, SystemWins, EnvironmentWins}
use Rattle.temporal.proofs.Truth.{local_at}

-- sequences alike below N give formulas that look no further the same truth
pub alike : (σ τ : ℕ → Reading) (N : ℕ) → ((k : ℕ) → k < N → σ k ≡ τ k) → (f : Formula) (t : ℕ) → t + reach f < N
    → holds (from t σ) f ≡ holds (from t τ) f
alike σ τ N e f t l = local_at σ τ t f (λ k a b. e k (omega arith))

get_d_any : (r : Run) (k : ℕ) (p q : Step) → k < length r → get_or r k p ≡ get_or r k q
get_d_any [] k p q l = absurd (omega arith)
get_d_any (x ∷ r) zero p q l = refl
get_d_any (x ∷ r) (suc k) p q l = get_d_any r k p q (omega arith)

pub any_padding : (p q : Step) (r : Run) (f : Formula) (t : ℕ) → Complete r f t
    → holds (from t (padded p r)) f ≡ holds (from t (padded q r)) f
any_padding p q r f t l = alike (padded p r) (padded q r) (length r) (λ k a. ap reading (get_d_any r k p q a)) f t l

pub longer : (r on : Run) (k : ℕ) → k < length r → readings (r ++ on) k ≡ readings r k
longer r on k l = ap reading (get_or-append r on blank k l)

-- a complete instance stays complete and keeps its value
pub complete_stays : (r on : Run) (f : Formula) (t : ℕ) → Complete r f t
    → Complete (r ++ on) f t × (holds (from t (readings (r ++ on))) f ≡ holds (from t (readings r)) f)
complete_stays r on f t l = (omega (arith, length-append r on, l), alike (readings (r ++ on)) (readings r) (length r) (longer r on) f t l)

module _ (spec : Spec) where
  pub broken_stays : (r on : Run) → Broken spec r → Broken spec (r ++ on)
  broken_stays r on b = let s = complete_stays r on b.0 b.1 b.3 in (b.0, b.1, b.2, s.0, s.1 ∙ b.4)

  pub range_append : (r on : Run) → InRange spec r → InRange spec on → InRange spec (r ++ on)
  range_append [] on h k = k
  range_append (x ∷ r) on h k = (h.0, h.1, range_append r on h.2 k)

  range_take : (n : ℕ) (r : Run) → InRange spec r → InRange spec (take n r)
  range_take zero r h = tt
  range_take (suc n) [] h = tt
  range_take (suc n) (x ∷ r) h = (h.0, h.1, range_take n r h.2)

  pub lost_stays : (r on : Run) → InRange spec on → Lost spec r → Lost spec (r ++ on)
  lost_stays r on h l = (
    k,
    λ more e i. subst (Broken spec) (parts more) (broken_stays (r ++ take k (on ++ more)) (drop k (on ++ more))
        (l.1 (take k (on ++ more)) (omega (arith, length-take k (on ++ more), length-append on more))
        (range_take k (on ++ more) (range_append on more h i)))),
  )
    where
      k : ℕ
      k = l.0

      parts : (more : Run) → (r ++ take k (on ++ more)) ++ drop k (on ++ more) ≡ (r ++ on) ++ more
      parts more =
          append_assoc r (take k (on ++ more)) (drop k (on ++ more)) ∙ ap (λ (s : Run). r ++ s) (take-append-drop k (on ++ more))
          ∙ sym (append_assoc r on more)

  -- the two rules, played against each other
  pub joint : (reply ask : List ℕ → ℕ) → ((is : List ℕ) → Reply spec (reply is)) → ((ss : List ℕ) → Permitted spec (ask ss)) → (k : ℕ)
      → (r : Run) × InRange spec r × (length r ≡ k) × Replied reply r × Asked ask r
  joint reply ask p q zero = ([], tt, refl, tt, tt)
  joint reply ask p q (suc k) =
      let e = ask [] in let s = reply (e ∷ []) in
      let j = joint (λ is. reply (e ∷ is)) (λ ss. ask (s ∷ ss)) (λ is. p (e ∷ is)) (λ ss. q (s ∷ ss)) k in
      (record { env = e; sys = s } ∷ j.0, (q [], p (e ∷ []), j.1), ap suc j.2, (refl, j.3), (refl, j.4))

  pub never_both : SystemWins spec → EnvironmentWins spec → ⊥
  never_both s e =
      let j = joint s.rule e.rule s.replies e.permitted e.steps in
      s.never j.0 j.1 j.3 (e.lost j.0 j.1 j.2 j.4)

-- ── the rules are asked for what they should be ──
replied_at : (past : Run) (x : Step) (on : Run) (rule : List ℕ → ℕ) → Replied rule (past ++ (x ∷ on))
    → x.sys ≡ rule (inputs past ++ (x.env ∷ []))
replied_at [] x on rule by = by.0
replied_at (y ∷ past) x on rule by = replied_at past x on (λ is. rule (y.env ∷ is)) by.1

at_replied : (r : Run) (rule : List ℕ → ℕ)
    → ((past : Run) (x : Step) (on : Run) → past ++ (x ∷ on) ≡ r → x.sys ≡ rule (inputs past ++ (x.env ∷ []))) → Replied rule r
at_replied [] rule h = tt
at_replied (y ∷ r) rule h =
    (h [] y r refl, at_replied r (λ is. rule (y.env ∷ is)) (λ past x on e. h (y ∷ past) x on (ap (λ (s : Run). y ∷ s) e)))

pub replied_means : (rule : List ℕ → ℕ) (r : Run)
    → Replied rule r ↔ ((past : Run) (x : Step) (on : Run) → past ++ (x ∷ on) ≡ r → x.sys ≡ rule (inputs past ++ (x.env ∷ [])))
replied_means rule r = ((λ by past x on e. replied_at past x on rule (subst (Replied rule) (sym e) by)), at_replied r rule)

asked_at : (past : Run) (x : Step) (on : Run) (rule : List ℕ → ℕ) → Asked rule (past ++ (x ∷ on)) → x.env ≡ rule (replies past)
asked_at [] x on rule by = by.0
asked_at (y ∷ past) x on rule by = asked_at past x on (λ ss. rule (y.sys ∷ ss)) by.1

at_asked : (r : Run) (rule : List ℕ → ℕ) → ((past : Run) (x : Step) (on : Run) → past ++ (x ∷ on) ≡ r → x.env ≡ rule (replies past))
    → Asked rule r
at_asked [] rule h = tt
at_asked (y ∷ r) rule h =
    (h [] y r refl, at_asked r (λ ss. rule (y.sys ∷ ss)) (λ past x on e. h (y ∷ past) x on (ap (λ (s : Run). y ∷ s) e)))

pub asked_means : (rule : List ℕ → ℕ) (r : Run)
    → Asked rule r ↔ ((past : Run) (x : Step) (on : Run) → past ++ (x ∷ on) ≡ r → x.env ≡ rule (replies past))
asked_means rule r = ((λ by past x on e. asked_at past x on rule (subst (Asked rule) (sym e) by)), at_asked r rule)

-- a step counts exactly one of v and -v as true
pub step_exact : (x : Step) (i : ℕ) → reading x false i ≡ not (reading x true i)
step_exact x i = go (value x.env x.sys i)
  where
    go : (v : Bool) → beq v false ≡ not (beq v true)
    go true = refl
    go false = refl

-- ── no constraint on the inputs ──
pub base_permitted : (spec : Spec) → spec.third ≡ top → (e : ℕ) → e < 2 ^ spec.environment → Permitted spec e
base_permitted spec q e l = (l, ap (λ (f : Formula). holds (λ k. reading (record { env = e; sys = 0 })) f) q)

pub base_wellformed : (spec : Spec) → spec.third ≡ top
    → Fine spec.environment spec.system spec.initial → Fine spec.environment spec.system spec.safety → WellFormed spec
base_wellformed spec q a b =
    record { initial = a; safety = b; input = 0; permitted = base_permitted spec q 0 (pow_pos spec.environment) }
