-- `past_times` meets its contract.
use Rattle.journey_places.specs.Laws.Places.{times_end}
use Rattle.journey_places.proofs.past_times.Goals as goal

pub returns : goal.returns
returns c = search (times_end)
