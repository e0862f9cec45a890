-- `card` meets its contract.
use Rattle.journey_places.specs.Laws.Places.{card_at}
use Rattle.journey_places.proofs.card.Goals as goal

pub returns : goal.returns
returns c = search (card_at)
