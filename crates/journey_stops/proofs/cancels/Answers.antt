-- `cancels` meets its contract.
use Rattle.journey_stops.specs.Laws.Endpoints.{cancels_none, cancels_found}
use Rattle.journey_stops.proofs.cancels.Goals as goal

pub returns-in-None : goal.returns-in-None
returns-in-None c = cancels_none c.in-None.is

pub returns-in-Some : goal.returns-in-Some
returns-in-Some c = cancels_found c.in-Some.is c.cancelled.ensures
