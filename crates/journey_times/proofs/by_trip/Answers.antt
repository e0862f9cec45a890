-- `by_trip` meets its contract.
use Rattle.journey_times.specs.Laws.Places.{by_trip}
use Rattle.journey_times.proofs.by_trip.Goals as goal

pub returns : goal.returns
returns c = by_trip c.ranges.at c.cancelled.ensures c.optional_delay.ensures c.delayed.ensures
