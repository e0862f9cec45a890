-- `leg` meets its contract.
use Rattle.journey_places.specs.Laws.Places.{leg_at}
use Rattle.journey_places.proofs.leg.Goals as goal

pub returns : goal.returns
returns c =
    leg_at c.past_text-short.ensures c.past_text-route.ensures c.past_text-trip.ensures c.past_text-direction.ensures
    c.past_optional_number-from.ensures c.stops-r.ensures
