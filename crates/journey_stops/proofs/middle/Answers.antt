-- `middle` meets its contract.
use Rattle.journey_stops.specs.Laws.Stops.{stop_put}
use Rattle.journey_stops.proofs.middle.Goals as goal

pub returns : goal.returns
returns c = stop_put c.middle_events-e.ensures c.middle.ensures
