-- `cancelled` meets its contract.
use Rattle.journey_times.specs.Laws.Places.{cancels}
use Rattle.journey_times.proofs.cancelled.Goals as goal

pub returns : goal.returns
returns c = cancels c.past_optional_number.ensures c.number.ensures
