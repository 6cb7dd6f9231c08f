-- The fixed numbers of what a card is refused for, and of its lists.
use Rattle.std.specs.Prelude.{ℕ}
use Rattle.faults.specs.declared.Layer.{Layer}
use Rattle.faults.specs.declared.Layer.TheVariants as layer
use Rattle.faults.specs.declared.card.CardReason.{CardReason}
use Rattle.faults.specs.declared.card.CardReason.TheVariants.{Count, Entry, Equal, Missing, Root, Label, Covering, Target, Step}
use Rattle.faults.specs.declared.card.CardList.{CardList}
use Rattle.faults.specs.declared.card.CardList.TheVariants.{Formulas, Labels, Nodes, Moves, Trailer}
use Rattle.faults.specs.declared.card.CardFault.{CardFault}
use Rattle.faults.specs.declared.card.CardFault.TheVariants.{Refused, Short}
use Rattle.faults.specs.Numbers.{buffer_number}

abbrev pub card_reason_number : CardReason → ℕ
card_reason_number Count = 8
card_reason_number Entry = 9
card_reason_number Equal = 10
card_reason_number Missing = 11
card_reason_number Root = 12
card_reason_number Label = 13
card_reason_number Covering = 14
card_reason_number Target = 15
card_reason_number Step = 16

abbrev pub card_list_number : CardList → ℕ
card_list_number Formulas = 0
card_list_number Labels = 1
card_list_number Nodes = 2
card_list_number Moves = 3
card_list_number Trailer = 4

-- a buffer that is too short is refusal 19
abbrev pub card_fault_number : CardFault → ℕ
card_fault_number (Refused reason list place) = card_reason_number reason
card_fault_number (Short buffer) = 19

-- 0 where no list is to blame
abbrev pub card_fault_list : CardFault → ℕ
card_fault_list (Refused reason list place) = card_list_number list
card_fault_list (Short buffer) = 0

-- the place in the list, or the buffer's number
abbrev pub card_fault_place : CardFault → ℕ
card_fault_place (Refused reason list place) = place
card_fault_place (Short buffer) = buffer_number buffer

abbrev pub card_fault_layer : CardFault → Layer
card_fault_layer fault = layer.Card
