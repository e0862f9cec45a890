-- `card_times` meets its contract.
use Rattle.journey_card.specs.Laws.Head.{reads_times}
use Rattle.journey_card.proofs.card_times.Goals as goal

pub returns : goal.returns
returns c =
    reads_times c.card-p.ensures
    (record { sfits = c.signed.type_inv }) (record { sfits = c.signed-2.type_inv })
    (record { sfits = c.given_or-departure.type_inv }) (record { sfits = c.given_or-arrival.type_inv })
    c.signed.ensures c.signed-2.ensures c.given_or-departure.ensures c.given_or-arrival.ensures
