-- What a refusal is as an outcome.
use Rattle.faults.specs.declared.Fault.{Fault}
use Rattle.faults.specs.declared.card.CardFault.{CardFault}
use Rattle.faults.specs.Numbers.{fault_number, fault_place}
use Rattle.faults.specs.Cards.{card_fault_number, card_fault_list, card_fault_place}
use Rattle.outcome.specs.declared.Refused.{Refused}
use Rattle.outcome.specs.declared.Refused.TheVariants.{Text, Card}

-- a lent buffer that is too short is shown as a byte too: the buffer's number
abbrev pub text_refusal : Fault → Refused
text_refusal f = Text (fault_number f) (fault_place f)

-- or as a place
abbrev pub card_refusal : CardFault → Refused
card_refusal f = Card (card_fault_number f) (card_fault_list f) (card_fault_place f)
