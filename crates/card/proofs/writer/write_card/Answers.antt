use Rattle.std.proofs.Common.{◌≡◌, ◌+◌, ◌*◌, ap, ◌∙◌, arith}
use Rattle.std.specs.List.{flat_map}
use Rattle.card.specs.Layout.{word_bytes}
use Rattle.card.specs.Written.{fields, trailer_of, put_at}
use Rattle.card.proofs.Whole.{card_put}
use Rattle.card.proofs.writer.write_card.Goals as goal

pub returns : goal.returns
returns g c =
    let card = g.S.CardSource.card c.args.source.now in
    let k = c.kind.ensures in
    let f = c.formula_count.ensures in
    let l = c.label_count.ensures in
    let n = c.node_count.ensures in
    let m = c.move_count.ensures in
    let bytes : c.to_bytes.result ≡ flat_map word_bytes (trailer_of card) =
    c.to_bytes.ensures ∙ (λ i. flat_map word_bytes (fields (k i) (f i) (l i) (n i) (m i))) in
    let trailer_at = c.moves_at.result + 10 * c.move_count.result in
    record {
      size = omega arith;
      bytes =
          card_put card c.args.output.now c.write_list.new.output c.write_list-2.new.output c.write_list-3.new.output
          c.write_list-4.new.output c.put.new.output c.labels_at.result c.nodes_at.result c.moves_at-2.result trailer_at (omega arith) (omega arith) (omega arith) (omega arith) (omega arith)
          c.write_list.ensures c.write_list-2.ensures c.write_list-3.ensures c.write_list-4.ensures
          (c.put.ensures ∙ ap (λ bs. put_at c.write_list-4.new.output trailer_at bs) bytes);
    }
