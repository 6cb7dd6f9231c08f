-- What marking a text and a card file gives.
use Rattle.std.specs.Prelude.{ℕ, List, length, Ok, Err, Result}
use Rattle.faults.specs.declared.Fault.{Fault as ReadFault}
use Rattle.faults.specs.declared.card.CardFault.{CardFault}
use Rattle.temporal.specs.Game.{Spec}
use Rattle.tableau.specs.Conditions.{Fault}
use Rattle.tableau.specs.Judge.{Verdict, realizable, unrealizable}
use Rattle.records.specs.Raw.{RawCard, model}
use Rattle.card.specs.Trailer.{read_file}
use Rattle.rules.specs.Read.{View, reads_with}
use Rattle.rules.specs.Laws.{game_of}
use Rattle.marking.specs.Checks.{checks}
use Rattle.outcome.specs.declared.Accepted.{Accepted}
use Rattle.outcome.specs.declared.Accepted.TheVariants.{Realizable, Unrealizable}
use Rattle.outcome.specs.declared.Refused.{Refused}
use Rattle.outcome.specs.declared.Refused.TheVariants.{Card}
use Rattle.outcome.specs.Refusals.{text_refusal, card_refusal}

-- an accepted card with a verdict, a depth, so many nodes and so many moves
abbrev pub accepted_as : Verdict → ℕ → ℕ → ℕ → Accepted
accepted_as realizable depth nodes moves = Realizable nodes moves
accepted_as unrealizable depth nodes moves = Unrealizable nodes moves depth

-- the answer of the check of a card
abbrev pub checked_card : RawCard → Result (Verdict × ℕ) Fault → Result Accepted Refused
checked_card c (Ok r) = Ok (accepted_as r.0 r.1 (length c.nodes) (length c.moves))
checked_card c (Err e) = Err (Card e.number e.list e.place)

-- a card is checked with so many slots
abbrev pub marks_card : ℕ → Spec → RawCard → Result Accepted Refused
marks_card records spec c = checked_card c (checks records spec (model c))

-- a file is opened, and its card checked
abbrev pub opened_file : ℕ → Spec → Result RawCard CardFault → Result Accepted Refused
opened_file records spec (Ok c) = marks_card records spec c
opened_file records spec (Err f) = Err (card_refusal f)

abbrev pub marks_file : ℕ → Spec → List ℕ → Result Accepted Refused
marks_file records spec bytes = opened_file records spec (read_file bytes)

-- the text is read first
abbrev pub read_text : ℕ → List ℕ → Result View ReadFault → Result Accepted Refused
read_text records bytes (Ok v) = marks_file records (game_of v) bytes
read_text records bytes (Err f) = Err (text_refusal f)

abbrev pub marks_text : ℕ → ℕ → ℕ → List ℕ → List ℕ → Result Accepted Refused
marks_text names formulas records text bytes = read_text records bytes (reads_with names formulas text)
