-- What the writer gives: the bytes of a card's file, and the answer for an output of some length.
use Rattle.std.specs.Prelude.{ℕ, ◌+◌, ◌*◌, cond, List, [], ◌∷◌, ◌++◌, length, take, drop, Some, None, Ok, Err, Option, Result, nat_le}
use Rattle.std.specs.List.{flat_map}
use Rattle.faults.specs.declared.Buffer.TheVariants.{Output}
use Rattle.faults.specs.declared.card.CardFault.{CardFault}
use Rattle.faults.specs.declared.card.CardFault.TheVariants.{Short}
use Rattle.records.specs.Raw.{RawCard}
use Rattle.card.specs.Limits.{wrong_count}
use Rattle.card.specs.Layout.{word_bytes, formula_bytes, node_bytes, move_bytes}
use Rattle.card.specs.Trailer.{labels_from, nodes_from, moves_from, trailer_fault}

-- the ten fields of the trailer, given the kind and the counts
abbrev pub fields : ℕ → ℕ → ℕ → ℕ → ℕ → List ℕ
fields kind formulas labels nodes moves =
    0 ∷ formulas ∷ labels_from formulas ∷ labels ∷ nodes_from formulas labels ∷ nodes
    ∷ moves_from formulas labels nodes ∷ moves ∷ kind ∷ 20 ∷ []

abbrev pub trailer_of : RawCard → List ℕ
trailer_of c = fields c.kind (length c.formulas) (length c.labels) (length c.nodes) (length c.moves)

-- the file of a card
abbrev pub card_bytes : RawCard → List ℕ
card_bytes c =
    flat_map formula_bytes c.formulas ++ (flat_map word_bytes c.labels ++ (flat_map node_bytes c.nodes
    ++ (flat_map move_bytes c.moves ++ flat_map word_bytes (trailer_of c))))

-- its length
abbrev pub byte_count : RawCard → ℕ
byte_count c = moves_from (length c.formulas) (length c.labels) (length c.nodes) + 10 * length c.moves + 20

-- the writer's answer for an output of so many bytes: too short an output is refused first, then a count or kind outside its limits
abbrev pub written_by : ℕ → Option ℕ → Result ℕ CardFault
written_by n None = Ok n
written_by n (Some f) = Err (trailer_fault f)

abbrev pub written : RawCard → ℕ → Result ℕ CardFault
written c room = cond (nat_le (byte_count c) room) (written_by (byte_count c) (wrong_count c)) (Err (Short Output))

-- an output after the file was written into it from its start
abbrev pub output_after : RawCard → List ℕ → List ℕ
output_after c old = card_bytes c ++ drop (byte_count c) old

-- bytes put over others from a place on
abbrev pub put_at : List ℕ → ℕ → List ℕ → List ℕ
put_at old p bs = take p old ++ (bs ++ drop (length bs) (drop p old))
