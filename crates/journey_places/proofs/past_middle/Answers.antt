-- `past_middle` meets its contract.
use Rattle.journey_places.specs.Laws.Places.{middle_end}
use Rattle.journey_places.proofs.past_middle.Goals as goal

pub returns : goal.returns
returns c = search (middle_end)
