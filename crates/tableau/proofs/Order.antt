-- The judge accepts exactly if every condition holds, and refuses by the first that fails.
use Rattle.std.proofs.Common.{◌≡◌, ℕ, ◌+◌, ◌<◌, ◌≤◌, Bool, true, false, cond, ◌&&◌, ◌↔◌, List, [], ◌∷◌, ◌++◌, map, length, Ok, Err, Result, sym, refl, ap, ◌∙◌, arith}
use mathlib.Core.Bool.{false≢true}
use Rattle.temporal.specs.Parts.{◌∈◌}
use Rattle.temporal.specs.Game.{Spec}
use Rattle.temporal.proofs.Tells.{Tells, and_tells, by_tells}
use Rattle.tableau.specs.Lists.{span, all, concat_map}
use Rattle.tableau.specs.Card.{Card, kind_of, label_places, move_places}
use Rattle.tableau.specs.Conditions.{Condition, formula_count, label_count, node_count, move_count, kind_known, formula_form, label_form}
use Rattle.tableau.specs.Conditions.{node_form, move_form, new_formula, spec_listed, root_kept, label_kept, covering_kept, target_kept}
use Rattle.tableau.specs.Conditions.{rests_kept, step_kept, kept, Fault, fault, before_root, at_root, at_move, at_node, at_nodes, order}
use Rattle.tableau.specs.Judge.{Verdict, verdict_of, depth_of, checked, after, judged_by, judge}
use Rattle.tableau.specs.Acceptable.{WithinLimits, MoveKept, NodeKept, Acceptable, Accepted, Kept, Refused}
use Rattle.tableau.proofs.Tests.{fails, refuted, all_tells, span_tells, below_tells, append_tells, map_tells, each_tells, one_tells}
use Rattle.tableau.proofs.Kept.{kept_tells}

-- ── the order, as one statement ──
module _ (spec : Spec) (c : Card) where
  abbrev k : Condition → Bool
  k = kept spec c

  listed : (f : ℕ → Condition) (n : ℕ) → Tells (all k (map f (span n 0))) ((i : ℕ) → i < n → Kept spec c (f i))
  listed f n = map_tells k f (span n 0) (below_tells (λ i. k (f i)) (λ i. Kept spec c (f i)) (λ i. kept_tells spec c (f i)) n)

  placed : (f : ℕ → Condition) (n i : ℕ) → Tells (all k (map f (span n i))) ((j : ℕ) → (i ≤ j) × (j < i + n) → Kept spec c (f j))
  placed f n i = map_tells k f (span n i) (span_tells (λ j. k (f j)) (λ j. Kept spec c (f j)) (λ j. kept_tells spec c (f j)) n i)

  move_kept_tells : (n m : ℕ) → Tells (all k (at_move n m)) (MoveKept spec c n m)
  move_kept_tells n m =
      by_tells (all k (at_move n m))
      (and_tells (k (rests_kept n m)) _ (kept_tells spec c (rests_kept n m))
      (one_tells k (step_kept n m) (kept_tells spec c (step_kept n m))))
      (λ r. record { rested = r.0; step = r.1 }) (λ r. (r.rested, r.step))

  abbrev node_labels : ℕ → List Condition
  node_labels n = map label_kept (label_places c n)

  abbrev node_targets : ℕ → List Condition
  node_targets n = map (target_kept n) (move_places c n)

  abbrev node_moves : ℕ → List Condition
  node_moves n = concat_map (at_move n) (move_places c n)

  node_kept_tells : (n : ℕ) → Tells (all k (at_node c n)) (NodeKept spec c n)
  node_kept_tells n =
      by_tells (all k (at_node c n))
      (append_tells k (node_labels n) (covering_kept n ∷ (node_targets n ++ node_moves n)) (placed label_kept _ _)
      (and_tells (k (covering_kept n)) _ (kept_tells spec c (covering_kept n))
      (append_tells k (node_targets n) (node_moves n) (placed (target_kept n) _ _)
      (each_tells k (at_move n) (move_places c n) (span_tells (λ m. all k (at_move n m)) (MoveKept spec c n) (move_kept_tells n) _ _)))))
      (λ r. record { labels = r.0; covering = r.1.0; targets = r.1.1.0; moved = r.1.1.1 })
      (λ r. (r.labels, (r.covering, (r.targets, r.moved))))

  abbrev formulas : List Condition
  formulas = map formula_form (span (length c.formulas) 0)

  abbrev labels : List Condition
  labels = map label_form (span (length c.labels) 0)

  abbrev nodes : List Condition
  nodes = map node_form (span (length c.nodes) 0)

  abbrev moves : List Condition
  moves = map move_form (span (length c.moves) 0)

  abbrev news : List Condition
  news = map new_formula (span (length c.formulas) 0)

  order_tells : Tells (all k (order c)) (WithinLimits c × Acceptable spec c)
  order_tells =
      by_tells (all k (order c))
      (append_tells k (before_root c) (at_root ++ at_nodes c)
      (and_tells (k formula_count) _ (kept_tells spec c formula_count) (and_tells (k label_count) _ (kept_tells spec c label_count)
      (and_tells (k node_count) _ (kept_tells spec c node_count) (and_tells (k move_count) _ (kept_tells spec c move_count)
      (and_tells (k kind_known) _ (kept_tells spec c kind_known)
      (append_tells k formulas (labels ++ (nodes ++ (moves ++ (news ++ (spec_listed ∷ []))))) (listed formula_form _)
      (append_tells k labels (nodes ++ (moves ++ (news ++ (spec_listed ∷ [])))) (listed label_form _)
      (append_tells k nodes (moves ++ (news ++ (spec_listed ∷ []))) (listed node_form _)
      (append_tells k moves (news ++ (spec_listed ∷ [])) (listed move_form _)
      (append_tells k news (spec_listed ∷ []) (listed new_formula _)
      (one_tells k spec_listed (kept_tells spec c spec_listed))))))))))))
      (append_tells k at_root (at_nodes c) (one_tells k root_kept (kept_tells spec c root_kept))
      (each_tells k (at_node c) (span (length c.nodes) 0)
      (below_tells (λ n. all k (at_node c n)) (NodeKept spec c) node_kept_tells (length c.nodes)))))
      (λ r. let a = r.0 in (
        record { formulas = a.0.1; labels = a.1.0; nodes = a.1.1.0.1; moves = a.1.1.1.0.1 },
        record {
          two_formulas = a.0.0;
          a_node = a.1.1.0.0;
          a_move = a.1.1.1.0.0;
          known = a.1.1.1.1.0;
          formulas = a.1.1.1.1.1.0;
          labels = a.1.1.1.1.1.1.0;
          formed = a.1.1.1.1.1.1.1.0;
          moves = a.1.1.1.1.1.1.1.1.0;
          different = a.1.1.1.1.1.1.1.1.1.0;
          listed = a.1.1.1.1.1.1.1.1.1.1;
          root = r.1.0;
          nodes = r.1.1;
        },
      ))
      (λ r. let l = r.0 in let a = r.1 in (
        (
          (a.two_formulas, l.formulas),
          (
            l.labels,
            (
              (a.a_node, l.nodes),
              (
                (a.a_move, l.moves),
                (
                  a.known,
                  (a.formulas, (a.labels, (a.formed, (a.moves, (a.different, a.listed))))),
                ),
              ),
            ),
          ),
        ),
        (a.root, a.nodes),
      ))

-- ── the first fault ──
module _ {A E : Type 0} (ok : A → Bool) (f : A → E) where
  -- the first of xs that is not ok, and its fault
  record First (xs : List A) (e : E) : Type 0 where
    before : List A
    broken : A
    behind : List A
    ordered : xs ≡ before ++ (broken ∷ behind)
    held : all ok before ≡ true
    fails : ok broken ≡ false
    named : e ≡ f broken

  pub checked_append : (xs ys : List A) → checked ok f (xs ++ ys) ≡ after (checked ok f xs) (λ _. checked ok f ys)
  checked_append [] ys = refl
  checked_append (x ∷ xs) ys = go (ok x) (checked_append xs ys)
    where
      go : (b : Bool) → checked ok f (xs ++ ys) ≡ after (checked ok f xs) (λ _. checked ok f ys)
          → cond b (checked ok f (xs ++ ys)) (Err (f x)) ≡ after (cond b (checked ok f xs) (Err (f x))) (λ _. checked ok f ys)
      go true e = e
      go false e = refl

  pub checked_map : {I : Type 0} (g : I → A) (is : List I) → checked ok f (map g is) ≡ checked (λ i. ok (g i)) (λ i. f (g i)) is
  checked_map g [] = refl
  checked_map g (i ∷ is) = ap (λ t. cond (ok (g i)) t (Err (f (g i)))) (checked_map g is)

  pub checked_pass : (xs : List A) → all ok xs ≡ true → checked ok f xs ≡ Ok tt
  checked_pass [] e = refl
  checked_pass (x ∷ xs) e = go (ok x) e (checked_pass xs)
    where
      go : (b : Bool) → (b && all ok xs) ≡ true → (all ok xs ≡ true → checked ok f xs ≡ Ok tt)
          → cond b (checked ok f xs) (Err (f x)) ≡ Ok tt
      go true e h = h e
      go false e h = absurd (false≢true e)

  pub checked_ok : (xs : List A) (v : Unit {0}) → checked ok f xs ≡ Ok v → all ok xs ≡ true
  checked_ok [] v e = refl
  checked_ok (x ∷ xs) v e = go (ok x) e (checked_ok xs v)
    where
      go : (b : Bool) → cond b (checked ok f xs) (Err (f x)) ≡ Ok v → (checked ok f xs ≡ Ok v → all ok xs ≡ true)
          → (b && all ok xs) ≡ true
      go true e h = h e
      go false e h = let z : ◌≡◌ {A = ℕ} 0 1 = cc in absurd (omega arith)

  checked_err : (xs : List A) (e : E) → checked ok f xs ≡ Err e → First xs e
  checked_err [] e h = let z : ◌≡◌ {A = ℕ} 0 1 = cc in absurd (omega arith)
  checked_err (x ∷ xs) e h = go (ok x) refl h (checked_err xs e)
    where
      go : (b : Bool) → ok x ≡ b → cond b (checked ok f xs) (Err (f x)) ≡ Err e → (checked ok f xs ≡ Err e → First xs e)
          → First (x ∷ xs) e
      go true o h rec =
          let r = rec h in record {
            before = x ∷ r.before;
            broken = r.broken;
            behind = r.behind;
            ordered = ap (λ ys. x ∷ ys) r.ordered;
            held = ap (λ b. b && all ok r.before) o ∙ r.held;
            fails = r.fails;
            named = r.named;
          }
      go false o h rec =
          record { before = []; broken = x; behind = xs; ordered = refl; held = refl; fails = o; named = (cc) }

  checked_first : (xs : List A) (e : E) → First xs e → checked ok f xs ≡ Err e
  checked_first xs e r =
      ap (checked ok f) r.ordered ∙ checked_append r.before (r.broken ∷ r.behind)
      ∙ ap (λ t. after t (λ _. checked ok f (r.broken ∷ r.behind))) (checked_pass r.before r.held)
      ∙ ap (λ b. cond b (checked ok f r.behind) (Err (f r.broken))) r.fails ∙ ap Err (sym r.named)

pub then_then : {A B C E : Type 0} (a : Result A E) (b : Result B E) (c : Result C E)
    → after (after a (λ _. b)) (λ _. c) ≡ after a (λ _. after b (λ _. c))
then_then (Ok x) b c = refl
then_then (Err e) b c = refl

then_ok : {A B E : Type 0} (a : Result A E) (b v : B) → after a (λ _. Ok b) ≡ Ok v → ((x : A) × (a ≡ Ok x)) × (b ≡ v)
then_ok (Ok x) b v e = ((x, refl), cc)
then_ok (Err x) b v e = let z : ◌≡◌ {A = ℕ} 0 1 = cc in absurd (omega arith)

then_err : {A B E : Type 0} (a : Result A E) (b : B) (e : E) → after a (λ _. Ok b) ≡ Err e → a ≡ Err e
then_err (Ok x) b e h = let z : ◌≡◌ {A = ℕ} 0 1 = cc in absurd (omega arith)
then_err (Err x) b e h = (cc)

-- ── the judge ──
module _ (spec : Spec) (c : Card) where
  abbrev verdict : Verdict × ℕ
  verdict = (verdict_of (kind_of c), depth_of (kind_of c) c)

  -- in three parts, or in one
  pub in_order : judge spec c ≡ after (judged_by spec c (order c)) (λ _. Ok verdict)
  in_order =
      sym (ap (λ t. after t (λ _. Ok verdict)) (checked_append (kept spec c) fault (before_root c) (at_root ++ at_nodes c)
      ∙ ap (λ t. after (judged_by spec c (before_root c)) (λ _. t)) (checked_append (kept spec c) fault at_root (at_nodes c)))
      ∙ then_then (judged_by spec c (before_root c)) (after (judged_by spec c at_root) (λ _. judged_by spec c (at_nodes c))) (Ok verdict)
      ∙ ap (λ t. after (judged_by spec c (before_root c)) (λ _. t))
      (then_then (judged_by spec c at_root) (judged_by spec c (at_nodes c)) (Ok verdict)))

  pub accepts : (r : Verdict × ℕ) → (judge spec c ≡ Ok r) ↔ Accepted spec c r
  accepts r = (forth, back)
    where
      forth : judge spec c ≡ Ok r → Accepted spec c r
      forth e =
          let a = then_ok (judged_by spec c (order c)) verdict r (sym in_order ∙ e) in
          let w = (order_tells spec c).0 (checked_ok (kept spec c) fault (order c) a.0.0 a.0.1) in record {
            limits = w.0;
            good = w.1;
            verdict = sym (ap (λ (t : Verdict × ℕ). t.0) a.1);
            depth = sym (ap (λ (t : Verdict × ℕ). t.1) a.1);
          }

      back : Accepted spec c r → judge spec c ≡ Ok r
      back a =
          in_order ∙ ap (λ t. after t (λ _. Ok verdict))
          (checked_pass (kept spec c) fault (order c) ((order_tells spec c).1 (a.limits, a.good)))
          ∙ ap Ok (λ i. (sym a.verdict i, sym a.depth i))

  pub refuses : (e : Fault) → (judge spec c ≡ Err e) ↔ Refused spec c e
  refuses e = (forth, back)
    where
      all_kept : (xs : List Condition) → Tells (all (kept spec c) xs) ((x : Condition) → x ∈ xs → Kept spec c x)
      all_kept xs = all_tells (kept spec c) (Kept spec c) (kept_tells spec c) xs

      forth : judge spec c ≡ Err e → Refused spec c e
      forth h =
          let r = checked_err (kept spec c) fault (order c) e (then_err (judged_by spec c (order c)) verdict e (sym in_order ∙ h)) in
          record {
            before = r.before;
            broken = r.broken;
            behind = r.behind;
            ordered = r.ordered;
            held = (all_kept r.before).0 r.held;
            fails = fails (kept spec c r.broken) (kept_tells spec c r.broken) r.fails;
            named = r.named;
          }

      back : Refused spec c e → judge spec c ≡ Err e
      back r =
          in_order ∙ ap (λ t. after t (λ _. Ok verdict)) (checked_first (kept spec c) fault (order c) e (record {
            before = r.before;
            broken = r.broken;
            behind = r.behind;
            ordered = r.ordered;
            held = (all_kept r.before).1 r.held;
            fails = refuted (kept spec c r.broken) (kept_tells spec c r.broken) r.fails;
            named = r.named;
          }))
