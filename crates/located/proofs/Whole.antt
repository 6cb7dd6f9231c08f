-- From the numbers of a specification's formulas to the places of its two formulas.
use Rattle.std.proofs.Common.{◌≡◌, ℕ, true, List, length, get_or, Some, None, sym, ap, ◌∙◌, arith}
use Rattle.temporal.specs.Formula.{bot}
use Rattle.formulas.specs.Trees.{trees}
use Rattle.formulas.proofs.Trees.{trees_length}
use Rattle.records.specs.declared.FormulaRecord.{FormulaRecord}
use Rattle.records.specs.Table.{formulas_of}
use Rattle.rested.specs.Listing.{InForm}
use Rattle.rested.specs.Rests.{has_all}
use Rattle.rested.proofs.Placed.{placed_member}
use Rattle.rested.proofs.Trees.{trees_long}
use Rattle.rules.specs.Laws.{game_of, SoundView}
use Rattle.rules.specs.Read.{View}
use Rattle.located.specs.Located.{Located}
use Rattle.located.specs.Numbers.{NumberedBelow, NumberedOrNot}
use Rattle.located.proofs.Numbering.{has_each, lacks_one}

module _ (v : View) (sound : SoundView v) (rs : List FormulaRecord) (ok : InForm rs) where
  has : (numbers : List ℕ) → NumberedBelow (length v.formulas) v.formulas rs numbers → has_all (formulas_of rs) (trees v.formulas) ≡ true
  has numbers n =
      has_each (formulas_of rs) (trees v.formulas)
      (λ k l. placed_member (formulas_of rs) (get_or (trees v.formulas) k bot) (get_or numbers k 0) (n k (omega (arith, trees_length v.formulas))))

  pub not_located : NumberedOrNot v.formulas rs None → Located (game_of v) rs None
  not_located n =
      ap (has_all (formulas_of rs)) (sym sound.parts)
      ∙ lacks_one (formulas_of rs) (trees v.formulas) n.0 (omega (arith, n.1, trees_length v.formulas)) n.2

  pub located : (numbers : List ℕ) → NumberedOrNot v.formulas rs (Some numbers)
      → Located (game_of v) rs (Some (record { initial = get_or numbers v.initial 0; safety = get_or numbers v.safety 0 }))
  located numbers n =
      let i = n v.initial sound.initial in
      let s = n v.safety sound.safety in (
        ap (has_all (formulas_of rs)) (sym sound.parts) ∙ has numbers n,
        (omega (arith, i.0, trees_long rs ok), i.1),
        (omega (arith, s.0, trees_long rs ok), s.1),
      )
