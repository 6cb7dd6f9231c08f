-- Verdicts and depths of the code, as the judge names them.
use Rattle.std.specs.Prelude.{◌≡◌, ℕ}
use Rattle.tableau.specs.Card.{closed, kind_of}
use Rattle.tableau.specs.Judge.{Verdict as JudgedVerdict, realizable, unrealizable}
use Rattle.records.specs.Raw.{RawCard, model}
use Rattle.depth.specs.Descending.{Descending}
use Rattle.marking.specs.declared.verdict.Verdict.{Verdict}
use Rattle.marking.specs.declared.verdict.Verdict.TheVariants.{Realizable, Unrealizable}
use Rattle.marking.specs.declared.verdict.Marked.{Marked}

abbrev pub verdict_number : Verdict → ℕ
verdict_number Realizable = 1
verdict_number Unrealizable = 2

abbrev pub verdict_named : Verdict → JudgedVerdict
verdict_named Realizable = realizable
verdict_named Unrealizable = unrealizable

-- verdict and depth
abbrev pub marked_as : Marked → JudgedVerdict × ℕ
marked_as m = (verdict_named m.verdict, m.depth)

-- a closed card has a depth, since its targets rise
abbrev pub DepthKnown : RawCard → Type 0
DepthKnown c = kind_of (model c) ≡ closed → Descending c
