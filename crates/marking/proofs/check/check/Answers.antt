use Rattle.std.proofs.Common.{◌≡◌, ℕ, ◌≤◌, length, Ok, refl, sym, ap, ◌∙◌, subst}
use Rattle.records.specs.Raw.{model}
use Rattle.rules.specs.Laws.{game_of}
use Rattle.rules.specs.Shown.{view}
use Rattle.rules.proofs.Sound.{spec_sound}
use Rattle.judged.specs.Judged.{fault_of}
use Rattle.marking.specs.Checks.{checked_as, checks}
use Rattle.marking.proofs.Listed.{initial_below, initial_is, known_here}
use Rattle.marking.proofs.Judging.{before_fails, root_fails, nodes_fail, all_pass, depth_known, judged, meaning_of, handed_check, slots_enough}
use Rattle.marking.proofs.check.check.Goals as goal

pub returns-in_err-listing : goal.returns-in_err-listing
returns-in_err-listing g c =
    let s = g.S.CardSource.card c.args.source.now in
    let spec = game_of (view c.args.specification.now) in
    let n = length c.args.slots.now in
    let room : 2048 ≤ n = slots_enough n c.in_ok-enough_slots.ensures in
    let r = c.from_residual-in_err-listing.result in
    let e = c.in_err-listing.field-0.0 in
    let v : checked_as r ≡ checks n spec (model s) =
    handed_check e r c.from_residual-in_err-listing.ensures.1
    ∙ sym (judged n spec (model s) room ∙ before_fails spec (model s) (fault_of e) (sym (c.in_err-listing.ensures.judged room))) in
    record { value = v; meaning = meaning_of n spec (model s) (spec_sound c.args.specification.now).game (checked_as r) v }

pub returns-in_err-judge_root : goal.returns-in_err-judge_root
returns-in_err-judge_root g c =
    let s = g.S.CardSource.card c.args.source.now in
    let spec = game_of (view c.args.specification.now) in
    let n = length c.args.slots.now in
    let room : 2048 ≤ n = slots_enough n c.in_ok-enough_slots.ensures in
    let list = c.in_ok-listing.listing in
    let w = c.in_ok-listing.ensures.listed room in
    let slots = c.list_formulas.new.slots in
    let slice = c.as_slice.result.now in
    let q = c.as_slice.ensures ∙ w.records in
    let r = c.from_residual-in_err-judge_root.result in
    let e = c.in_err-judge_root.field-0.0 in
    let v : checked_as r ≡ checks n spec (model s) =
    handed_check e r c.from_residual-in_err-judge_root.ensures.1
    ∙ sym (judged n spec (model s) room ∙ root_fails spec (model s) (sym (c.in_ok-listing.ensures.judged room)) (fault_of e)
    (sym (c.in_err-judge_root.ensures spec w.labelled q (initial_below spec s slots list w slice q) (initial_is spec s slots list w slice q)))) in
    record { value = v; meaning = meaning_of n spec (model s) (spec_sound c.args.specification.now).game (checked_as r) v }

pub returns-in_err-judge_nodes : goal.returns-in_err-judge_nodes
returns-in_err-judge_nodes g c =
    let s = g.S.CardSource.card c.args.source.now in
    let v = view c.args.specification.now in
    let sound = spec_sound c.args.specification.now in
    let spec = game_of v in
    let n = length c.args.slots.now in
    let room : 2048 ≤ n = slots_enough n c.in_ok-enough_slots.ensures in
    let list = c.in_ok-listing.listing in
    let w = c.in_ok-listing.ensures.listed room in
    let slots = c.list_formulas.new.slots in
    let slice = c.as_slice.result.now in
    let q = c.as_slice.ensures ∙ w.records in
    let root = sym (c.in_ok-judge_root.ensures spec w.labelled q (initial_below spec s slots list w slice q) (initial_is spec s slots list w slice q)) in
    let k = known_here spec s slots list w slice q _ refl refl refl c.kind_of.ensures (sym c.environment_count.ensures, sym c.system_count.ensures)
    (subst (λ (m : ℕ). m ≤ 16) (sym c.environment_count.ensures) sound.environment)
    (subst (λ (m : ℕ). m ≤ 16) (sym c.system_count.ensures) sound.system) sound.free in
    let r = c.from_residual-in_err-judge_nodes.result in
    let e = c.in_err-judge_nodes.field-0.0 in
    let u : checked_as r ≡ checks n spec (model s) =
    handed_check e r c.from_residual-in_err-judge_nodes.ensures.1
    ∙ sym (judged n spec (model s) room ∙ nodes_fail spec (model s) (sym (c.in_ok-listing.ensures.judged room)) root (fault_of e)
    (sym (c.in_err-judge_nodes.ensures spec k))) in
    record { value = u; meaning = meaning_of n spec (model s) sound.game (checked_as r) u }

pub returns : goal.returns
returns g c =
    let s = g.S.CardSource.card c.args.source.now in
    let v = view c.args.specification.now in
    let sound = spec_sound c.args.specification.now in
    let spec = game_of v in
    let n = length c.args.slots.now in
    let room : 2048 ≤ n = slots_enough n c.in_ok-enough_slots.ensures in
    let list = c.in_ok-listing.listing in
    let w = c.in_ok-listing.ensures.listed room in
    let slots = c.list_formulas.new.slots in
    let slice = c.as_slice.result.now in
    let q = c.as_slice.ensures ∙ w.records in
    let root = sym (c.in_ok-judge_root.ensures spec w.labelled q (initial_below spec s slots list w slice q) (initial_is spec s slots list w slice q)) in
    let k = known_here spec s slots list w slice q _ refl refl refl c.kind_of.ensures (sym c.environment_count.ensures, sym c.system_count.ensures)
    (subst (λ (m : ℕ). m ≤ 16) (sym c.environment_count.ensures) sound.environment)
    (subst (λ (m : ℕ). m ≤ 16) (sym c.system_count.ensures) sound.system) sound.free in
    let passed = all_pass spec (model s) (sym (c.in_ok-listing.ensures.judged room)) root (sym (c.in_ok-judge_nodes.ensures spec k)) in
    let m = c.verdict_of.result in
    let u : checked_as (Ok m) ≡ checks n spec (model s) =
    ap Ok (c.verdict_of.ensures (depth_known spec s passed)) ∙ sym (judged n spec (model s) room ∙ passed) in
    record { value = u; meaning = meaning_of n spec (model s) sound.game (checked_as (Ok m)) u }
