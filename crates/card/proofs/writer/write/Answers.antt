use Rattle.std.proofs.Common.{◌≡◌, length, None, arith}
use Rattle.card.specs.Limits.{wrong_count}
use Rattle.card.proofs.Whole.{not_refused, card_opens, written_ok}
use Rattle.card.proofs.writer.write.Goals as goal

pub returns : goal.returns
returns g c =
    let card = g.S.CardSource.card c.args.source.now in
    let right : wrong_count card ≡ None = not_refused (wrong_count card) c.in_ok-check_counts.ensures in
    record {
      value = written_ok card c.write_card.result (length c.args.output.now) right c.write_card.ensures.size (omega arith);
      bytes = c.write_card.ensures.bytes;
      opens = card_opens card c.write_card.new.output _ c.write_card.result right c.write_card.ensures.size c.write_card.ensures.bytes;
    }
