-- The fixed numbers of what a text and a card are refused for.
use Rattle.std.specs.Prelude.{ℕ}
use Rattle.faults.specs.declared.Layer.{Layer}
use Rattle.faults.specs.declared.Layer.TheVariants as layer
use Rattle.faults.specs.declared.Fault.{Fault}
use Rattle.faults.specs.declared.Fault.TheVariants as reading
use Rattle.faults.specs.declared.card.CardFault.TheVariants.{Short}
use Rattle.faults.specs.Numbers.{reason_number}
use Rattle.faults.specs.Cards.{card_fault_number, card_fault_list, card_fault_place}
use Rattle.examination.specs.declared.fault.MarkFault.{MarkFault}
use Rattle.examination.specs.declared.fault.MarkFault.TheVariants.{Text, Card}

-- a fault of reading, as a fault of marking
abbrev pub from_text : Fault → MarkFault
from_text (reading.Text t) = Text t
from_text (reading.Short b) = Card (Short b)

abbrev pub mark_fault_number : MarkFault → ℕ
mark_fault_number (Text t) = reason_number t.reason
mark_fault_number (Card f) = card_fault_number f

abbrev pub mark_fault_layer : MarkFault → Layer
mark_fault_layer (Text t) = layer.Text
mark_fault_layer (Card f) = layer.Card

abbrev pub mark_fault_list : MarkFault → ℕ
mark_fault_list (Text t) = 0
mark_fault_list (Card f) = card_fault_list f

abbrev pub mark_fault_place : MarkFault → ℕ
mark_fault_place (Text t) = t.place
mark_fault_place (Card f) = card_fault_place f
