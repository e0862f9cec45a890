-- `past_transit` meets its contract.
use Rattle.journey_places.specs.Laws.Places.{transit_end}
use Rattle.journey_places.proofs.past_transit.Goals as goal

pub returns : goal.returns
returns c = transit_end c.leg.ensures c.past_realtime.ensures
