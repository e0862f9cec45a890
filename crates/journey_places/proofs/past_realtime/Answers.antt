-- `past_realtime` meets its contract.
use Rattle.journey_places.specs.Laws.Places.{realtime_end}
use Rattle.journey_places.proofs.past_realtime.Goals as goal

pub returns : goal.returns
returns c = search (realtime_end)
