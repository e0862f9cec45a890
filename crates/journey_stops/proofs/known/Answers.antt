-- `known` meets its contract.
use Rattle.journey_stops.specs.Laws.Stops.{known_none, known_trip, known_update}
use Rattle.journey_stops.proofs.known.Goals as goal

pub returns-in_default : goal.returns-in_default
returns-in_default c = known_none c.in_default.is

pub returns-in_default-find_update : goal.returns-in_default-find_update
returns-in_default-find_update c = known_trip c.in-Some.is c.find_update.ensures c.in_default-find_update.is

pub returns : goal.returns
returns c = known_update c.in-Some.is c.find_update.ensures c.in-Some-find_update.is
