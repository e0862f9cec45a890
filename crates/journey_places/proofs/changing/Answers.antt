-- `changing` meets its contract.
use Rattle.journey_places.specs.Laws.Places.{changing_at}
use Rattle.journey_places.proofs.changing.Goals as goal

pub returns : goal.returns
returns c =
    changing_at c.leg-realtime.ensures c.past_times-cancelled.ensures c.past_number-place.ensures
    c.past_place-middles.ensures
