-- `endpoints` meets its contract.
use Rattle.journey_stops.specs.Laws.Endpoints.{leg_known}
use Rattle.journey_stops.proofs.endpoints.Goals as goal

pub returns : goal.returns
returns c = leg_known c.leg-p.ensures c.endpoint-departs.ensures c.endpoint-arrives.ensures c.cancels-cancels.ensures
