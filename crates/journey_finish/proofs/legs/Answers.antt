-- `legs` meets its contract.
use Rattle.journey_finish.specs.Laws.Legs.{legs_put}
use Rattle.journey_finish.proofs.legs.Goals as goal

pub returns : goal.returns
returns c = legs_put c.number-n.ensures c.number-q.ensures c.each_leg.ensures
