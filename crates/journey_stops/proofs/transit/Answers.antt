-- `transit` meets its contract.
use Rattle.journey_stops.specs.Laws.Stops.{leg_put}
use Rattle.journey_stops.proofs.transit.Goals as goal

pub returns : goal.returns
returns c =
    leg_put c.changing-parts.ensures c.fore-w1.ensures c.middles-w2.ensures c.past_middles-end.ensures c.stretch.ensures
