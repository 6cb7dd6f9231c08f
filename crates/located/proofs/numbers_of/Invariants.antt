use Rattle.std.proofs.Common.{◌≡◌, true, List, length}
use Rattle.formulas.specs.Trees.{ordered}
use Rattle.records.specs.declared.FormulaRecord.{FormulaRecord}
use Rattle.rested.specs.Listing.{Ready}
use Rattle.located.specs.Numbers.{NumberedBelow}
use Rattle.located.proofs.numbers_of.Given as goal

abbrev pub invariant-loop-i : goal.invariant-loop-i
invariant-loop-i l =
    ((rs : List FormulaRecord) → Ready rs l.slots → ordered l.entries ≡ true → NumberedBelow (length l.yielded) l.entries rs l.numbers)
    × (length l.numbers ≡ 256)
