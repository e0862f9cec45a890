-- `marks` meets its contract.
use Rattle.journey_leg.specs.Laws.Leg.{marks_put}
use Rattle.journey_leg.proofs.marks.Goals as goal

pub returns : goal.returns
returns c = marks_put c.live.ensures c.times-q.ensures c.flag.ensures
