-- `fore` meets its contract.
use Rattle.journey_leg.specs.Laws.Leg.{fore_put}
use Rattle.journey_leg.proofs.fore.Goals as goal

pub returns : goal.returns
returns c = fore_put c.stretch-w1.ensures c.marks-w2.ensures c.place.ensures
