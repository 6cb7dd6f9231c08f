use Rattle.std.proofs.Common.{◌∙◌, length, sym, subst, rules}
use Rattle.std.proofs.lemmas.Bool.{leb-true}
use Rattle.faults.specs.declared.Reason.TheVariants as reason
use Rattle.faults.specs.declared.TextFault.{TextFault}
use Rattle.normal.specs.Normalized.{Normalized}
use Rattle.parser.specs.Parsing.{Parses}
use Rattle.rules.proofs.Results.{parsed, parse_refused, made, promised, promised_too_many, many_parts, handed_on, ok_before, err_before}
use Rattle.rules.proofs.read.read.Goals as goal

pub returns-in-Err : goal.returns-in-Err
returns-in-Err c =
    let p = parse_refused _ _ _ _ (leb-true 2048 _ (sym c.enough.ensures ∙ c.if-not-enough.false))
    (subst (Parses _ _) c.in-Err.is c.parse-outcome.ensures.value) in
    record { value = p.value; derived = p.derived; meaning = p.meaning; game = p.game }

pub returns-in_err-formulas : goal.returns-in_err-formulas
returns-in_err-formulas c =
    let s = c.in-Ok.parsed.syntax in
    let f : TextFault = record { reason = reason.Formulas; place = length c.args.text.now } in
    let b = err_before _ c.normalize.result c.map_err.result _ f c.map_err.ensures.cases (λ e x h. search rules) c.in_err-formulas.was in
    let room = (leb-true 2048 _ (sym c.enough.ensures ∙ c.if-not-enough.false)) in
    let k = parsed _ _ _ (subst (Parses _ _) c.in-Ok.is c.parse-outcome.ensures.value) in
    let many = many_parts s _ b.0 room (subst (Normalized s _) b.1 c.normalize.ensures.value) in
    let p = handed_on _ _ _ _ c.from_residual.result c.from_residual.ensures.1
    (promised_too_many _ _ _ _ k room many _ b.2) in
    record { value = p.value; derived = p.derived; meaning = p.meaning; game = p.game }

pub invariant_of-result : goal.invariant_of-result
invariant_of-result c =
    let k = parsed _ _ _ (subst (Parses _ _) c.in-Ok.is c.parse-outcome.ensures.value) in
    let b = ok_before _ c.normalize.result c.map_err.result _ c.map_err.ensures.cases c.in_ok-formulas.was in
    let l = subst (Normalized c.in-Ok.parsed.syntax _) b c.normalize.ensures.value in
    let m = made _ _ _ _ k l.1 l.2 in
    record { form = m.0; read = ∣ (c.args.text.now, m.1) ∣₁ }

pub returns : goal.returns
returns c =
    let k = parsed _ _ _ (subst (Parses _ _) c.in-Ok.is c.parse-outcome.ensures.value) in
    let b = ok_before _ c.normalize.result c.map_err.result _ c.map_err.ensures.cases c.in_ok-formulas.was in
    let l = subst (Normalized c.in-Ok.parsed.syntax _) b c.normalize.ensures.value in
    let p = promised _ _ _ _ _ k l.0 l.1 l.2 in
    record { value = p.value; derived = p.derived; meaning = p.meaning; game = p.game }
