-- `middle_realtime` meets its contract.
use Rattle.journey_places.specs.Laws.Places.{middle_at}
use Rattle.journey_places.proofs.middle_realtime.Goals as goal

pub returns : goal.returns
returns c = search (middle_at)
