use Rattle.std.proofs.Common.{◌≡◌, List, get_or, Some, None, sym, ◌∙◌, subst}
use Rattle.formulas.specs.declared.Formula.{Formula}
use Rattle.rules.specs.Laws.{game_of}
use Rattle.rules.specs.Shown.{view}
use Rattle.rules.proofs.Sound.{spec_sound}
use Rattle.located.specs.declared.Places.{Places}
use Rattle.located.specs.Located.{Located}
use Rattle.located.specs.Numbers.{Numbers}
use Rattle.located.proofs.Whole.{located, not_located}
use Rattle.located.proofs.spec_places.Goals as goal

pub returns-in_err-numbers : goal.returns-in_err-numbers
returns-in_err-numbers c rs ready =
    let s = c.args.specification.now in
    let sound = spec_sound s in
    let n = subst (λ (es : List Formula). Numbers es c.args.slots.now None) c.formulas.ensures c.in_err-numbers.ensures in
    subst (Located (game_of (view s)) rs) (sym c.from_residual.ensures)
    (not_located (view s) sound rs ready.listing (n rs ready sound.ordered sound.few))

pub returns : goal.returns
returns c rs ready =
    let s = c.args.specification.now in
    let sound = spec_sound s in
    let numbers = c.in_ok-numbers.numbers in
    let n = subst (λ (es : List Formula). Numbers es c.args.slots.now (Some numbers)) c.formulas.ensures c.in_ok-numbers.ensures in
    let is : c.places_of.result ≡ record { initial = get_or numbers (view s).initial 0; safety = get_or numbers (view s).safety 0 } =
    c.places_of.ensures ∙ (λ j. record { initial = get_or numbers (c.initial.ensures j) 0; safety = get_or numbers (c.safety.ensures j) 0 }) in
    subst (λ (p : Places). Located (game_of (view s)) rs (Some p)) (sym is)
    (located (view s) sound rs ready.listing numbers (n rs ready sound.ordered sound.few))
