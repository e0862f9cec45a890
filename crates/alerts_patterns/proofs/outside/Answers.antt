-- `alerts_patterns::outside` meets its contract.
use Rattle.alerts_patterns.specs.Laws.Skipping.{outside_below, outside_above, outside_not}
use Rattle.alerts_patterns.proofs.outside.Goals as goal

pub returns-then-x-lo : goal.returns-then-x-lo
returns-then-x-lo c = search (outside_below)

pub returns-then-hi-x : goal.returns-then-hi-x
returns-then-hi-x c = search (outside_above)

pub returns-else-hi-x : goal.returns-else-hi-x
returns-else-hi-x c = search (outside_not)
