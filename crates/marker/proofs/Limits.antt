-- Counts and depth of an accepted card fit 16 bits.
use Rattle.std.proofs.Common.{◌≡◌, ℕ, ◌≤◌, min, Bool, true, false, cond, ltb, length, Ok, Err, refl, ap, ◌∙◌, arith}
use Rattle.std.proofs.lemmas.Bool.{ltb-false}
use Rattle.faults.specs.declared.Buffer.TheVariants as buffer
use Rattle.faults.specs.declared.card.CardFault.TheVariants.{Short}
use Rattle.temporal.specs.Game.{Spec}
use Rattle.tableau.specs.Card.{Card, CardKind, opened, closed, kind_of, moves_of}
use Rattle.tableau.specs.Judge.{Verdict, judge, depth_of}
use Rattle.tableau.specs.Acceptable.{Accepted}
use Rattle.records.specs.Raw.{RawCard, model}
use Rattle.card.proofs.Model.{model_nodes, model_moves}
use Rattle.depth.proofs.Rounds.{depth_most}
use Rattle.judged.specs.Judged.{fault_of}
use Rattle.marking.specs.Checks.{checks}
use Rattle.marker.specs.Marks.{accepted_as}

pub slots_enough : (n : ℕ) (spec : Spec) (c : Card) (r : Verdict × ℕ) → Ok r ≡ checks n spec c → 2048 ≤ n
slots_enough n spec c r h = go (ltb n 2048) refl h
  where
    go : (b : Bool) → ltb n 2048 ≡ b → Ok r ≡ cond b (Err (fault_of (Short buffer.Index))) (judge spec c) → 2048 ≤ n
    go true e h = let z : ◌≡◌ {A = ℕ} 0 1 = cc in absurd (omega arith)
    go false e h = ltb-false n 2048 e

shallow : (k : CardKind) (c : Card) → depth_of k c ≤ length c.nodes
shallow opened c = omega arith
shallow closed c = depth_most (length c.nodes) (moves_of c) 0

fits : (n : ℕ) → n ≤ 65535 → min n 65535 ≡ n
fits n l = omega arith

pub shown_whole : (spec : Spec) (c : RawCard) (v : Verdict) (d n m : ℕ) → n ≡ length c.nodes → m ≡ length c.moves → Accepted spec (model c) (v, d)
    → accepted_as v (min d 65535) (min n 65535) (min m 65535) ≡ accepted_as v d (length c.nodes) (length c.moves)
shown_whole spec c v d n m e f a =
    let x : d ≤ 65535 = omega (arith, a.depth, shallow (kind_of (model c)) (model c), a.limits.nodes) in
    let y : n ≤ 65535 = omega (arith, a.limits.nodes, model_nodes c) in
    let z : m ≤ 65535 = omega (arith, a.limits.moves, model_moves c) in
    ap (λ i. accepted_as v i (min n 65535) (min m 65535)) (fits d x)
    ∙ ap (λ i. accepted_as v d i (min m 65535)) (fits n y ∙ e)
    ∙ ap (λ i. accepted_as v d (length c.nodes) i) (fits m z ∙ f)
