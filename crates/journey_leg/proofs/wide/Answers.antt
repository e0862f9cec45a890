-- `wide` meets its contract.
use Rattle.journey_leg.specs.Laws.Leg.{widens, widened}
use Rattle.journey_leg.proofs.wide.Goals as goal

pub overflow_cast-result : goal.overflow_cast-result
overflow_cast-result c = search (widens)

pub returns : goal.returns
returns c = search (widened)
