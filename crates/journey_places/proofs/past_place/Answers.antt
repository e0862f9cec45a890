-- `past_place` meets its contract.
use Rattle.journey_places.specs.Laws.Places.{place_end}
use Rattle.journey_places.proofs.past_place.Goals as goal

pub returns : goal.returns
returns c = search (place_end)
