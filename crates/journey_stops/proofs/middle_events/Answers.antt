-- `middle_events` meets its contract.
use Rattle.journey_stops.specs.Laws.Stops.{middle_in}
use Rattle.journey_stops.proofs.middle_events.Goals as goal

pub returns : goal.returns
returns c = middle_in c.text-t.ensures c.known-k.ensures c.events_at.ensures
