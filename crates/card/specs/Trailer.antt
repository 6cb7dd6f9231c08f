-- A card file: formulas, labels, nodes and moves without a gap, and a trailer of ten fields of two bytes. The fields are the start and the
-- count of each of the four lists, the kind, and the trailer's own length.
use Rattle.std.specs.Prelude.{ℕ, Bool, ◌+◌, ◌-◌, ◌*◌, ◌&&◌, List, length, Some, None, Ok, Err, Option, Result, ◌==◌, nat_le}
use Rattle.faults.specs.declared.card.CardFault.{CardFault}
use Rattle.faults.specs.declared.card.CardFault.TheVariants.{Refused}
use Rattle.faults.specs.declared.card.CardReason.TheVariants.{Count}
use Rattle.faults.specs.declared.card.CardList.TheVariants as «list»
use Rattle.records.specs.Raw.{RawCard}
use Rattle.card.specs.Limits.{unless, formulas_right, labels_right, nodes_right, moves_right, kind_right}
use Rattle.card.specs.Layout.{word_at, formula_at, node_at, move_at, entries}

-- where each list starts, if the lists have so many formulas, labels and nodes; formulas start at byte 0
abbrev pub labels_from : ℕ → ℕ
labels_from formulas = 10 * formulas

abbrev pub nodes_from : ℕ → ℕ → ℕ
nodes_from formulas labels = labels_from formulas + 2 * labels

abbrev pub moves_from : ℕ → ℕ → ℕ → ℕ
moves_from formulas labels nodes = nodes_from formulas labels + 8 * nodes

-- field i of the last twenty bytes
abbrev pub field : List ℕ → ℕ → ℕ
field bs i = word_at bs (length bs - 20 + 2 * i)

-- the first wrong field of the trailer, or 10 for a file that has no room for one, or 11 for a file longer than any card's
abbrev pub wrong_field : List ℕ → Option ℕ
wrong_field bs =
    unless (nat_le 20 (length bs)) 10
    (unless (nat_le (length bs) 47124) 11
    (unless (field bs 0 == 0) 0
    (unless (formulas_right (field bs 1)) 1
    (unless (field bs 2 == labels_from (field bs 1)) 2
    (unless (labels_right (field bs 3)) 3
    (unless (field bs 4 == nodes_from (field bs 1) (field bs 3)) 4
    (unless (nodes_right (field bs 5)) 5
    (unless (field bs 6 == moves_from (field bs 1) (field bs 3) (field bs 5)) 6
    (unless (moves_right (field bs 7) && moves_from (field bs 1) (field bs 3) (field bs 5) + 10 * field bs 7 + 20 == length bs) 7
    (unless (kind_right (field bs 8)) 8
    (unless (field bs 9 == 20) 9 None)))))))))))

-- the card of a kind and four counts that stands in the bytes
abbrev pub card_in : List ℕ → ℕ → ℕ → ℕ → ℕ → ℕ → RawCard
card_in bs kind formulas labels nodes moves = record {
  kind = kind;
  formulas = entries (formula_at bs) 10 0 formulas;
  labels = entries (word_at bs) 2 (labels_from formulas) labels;
  nodes = entries (node_at bs) 8 (nodes_from formulas labels) nodes;
  moves = entries (move_at bs) 10 (moves_from formulas labels nodes) moves;
}

-- the card of a file, whatever its bytes are
abbrev pub read_card : List ℕ → RawCard
read_card bs = card_in bs (field bs 8) (field bs 1) (field bs 3) (field bs 5) (field bs 7)

-- the refusal for a field of the trailer
abbrev pub trailer_fault : ℕ → CardFault
trailer_fault f = Refused Count «list».Trailer f

-- passed where no field is wrong, and otherwise the refusal for the first wrong one
abbrev pub refused_field : Option ℕ → Result (Unit {0}) CardFault
refused_field None = Ok tt
refused_field (Some f) = Err (trailer_fault f)

-- passed where the test of a field is, and otherwise the refusal for it
abbrev pub required : Bool → ℕ → Result (Unit {0}) CardFault
required right f = refused_field (unless right f None)

-- what opening a file gives: the card, or the refusal for its first wrong field
abbrev pub read_by : RawCard → Option ℕ → Result RawCard CardFault
read_by card None = Ok card
read_by card (Some f) = Err (trailer_fault f)

abbrev pub read_file : List ℕ → Result RawCard CardFault
read_file bs = read_by (read_card bs) (wrong_field bs)
