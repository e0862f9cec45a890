-- `apply_time` meets its contract.
use Rattle.journey_times.specs.Laws.Places.{applies_none, applies_trip, applies_update}
use Rattle.journey_times.proofs.apply_time.Goals as goal

pub returns-in-Nothing : goal.returns-in-Nothing
returns-in-Nothing c = applies_none c.ranges.at c.in-Nothing.is c.untold.ensures

pub returns-in-Trip : goal.returns-in-Trip
returns-in-Trip c = applies_trip c.ranges.at c.in-Trip.is c.by_trip.ensures

pub returns-in-Update : goal.returns-in-Update
returns-in-Update c = applies_update c.ranges.at c.in-Update.is c.by_update.ensures
