-- `middle` meets its contract.
use Rattle.journey_leg.specs.Laws.Leg.{middle_put}
use Rattle.journey_leg.proofs.middle.Goals as goal

pub returns : goal.returns
returns c =
    middle_put c.middle_realtime-arrival.ensures c.past_optional_number-departure.ensures c.stretch-w1.ensures
    c.event-w2.ensures c.event.ensures
