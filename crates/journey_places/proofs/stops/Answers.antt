-- `stops` meets its contract.
use Rattle.journey_places.specs.Laws.Places.{stops_at}
use Rattle.journey_places.proofs.stops.Goals as goal

pub returns : goal.returns
returns c = search (stops_at)
