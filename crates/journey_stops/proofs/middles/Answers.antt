-- `middles` meets its contract.
use Rattle.journey_stops.specs.Laws.Stops.{list_put}
use Rattle.journey_stops.proofs.middles.Goals as goal

pub returns : goal.returns
returns c = list_put c.number-n.ensures c.number-q.ensures c.each_middle.ensures
