-- The line that shows an outcome, its line end (byte 10) included.
use Rattle.std.specs.Prelude.{ℕ, List, [], ◌∷◌, ◌++◌, codes, decimal, Ok, Err, Result}
use Rattle.outcome.specs.declared.Accepted.{Accepted}
use Rattle.outcome.specs.declared.Accepted.TheVariants.{Realizable, Unrealizable}
use Rattle.outcome.specs.declared.Refused.{Refused}
use Rattle.outcome.specs.declared.Refused.TheVariants.{Text, Card}

abbrev pub line_end : List ℕ
line_end = 10 ∷ []

abbrev pub accepted_line : Accepted → List ℕ
accepted_line (Realizable nodes moves) = codes "realizable nodes " ++ decimal nodes ++ codes " moves " ++ decimal moves ++ line_end
accepted_line (Unrealizable nodes moves depth) =
    codes "unrealizable nodes " ++ decimal nodes ++ codes " moves " ++ decimal moves ++ codes " depth " ++ decimal depth ++ line_end

abbrev pub refused_line : Refused → List ℕ
refused_line (Text number byte) = codes "refused " ++ decimal number ++ codes " byte " ++ decimal byte ++ line_end
refused_line (Card number list place) =
    codes "refused " ++ decimal number ++ codes " list " ++ decimal list ++ codes " number " ++ decimal place ++ line_end

abbrev pub outcome_line : Result Accepted Refused → List ℕ
outcome_line (Ok a) = accepted_line a
outcome_line (Err r) = refused_line r
