use Rattle.tableau.proofs.every_specification_has_an_acceptable_card_of_one_kind.Goals as goal
use Rattle.tableau.proofs.Laws.{some_card, one_kind, winner_has_card, one_wins}

pub returns : goal.returns
returns c = record { some = some_card; kind = one_kind; winner = winner_has_card; one = one_wins }
