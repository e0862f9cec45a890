-- `zero` meets its contract.
use Rattle.journey_card.specs.Laws.Steps.{zero_is}
use Rattle.journey_card.proofs.zero.Goals as goal

pub returns : goal.returns
returns c = zero_is c.args.d c.ranges.d
