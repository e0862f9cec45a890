-- `past_event` meets its contract.
use Rattle.journey_times.specs.Laws.Places.{past_event}
use Rattle.journey_times.proofs.past_event.Goals as goal

pub returns : goal.returns
returns c = past_event c.past_optional_number.ensures c.past_optional_number-2.ensures
