-- `alerts_patterns::apart` meets its contract.
use Rattle.alerts_patterns.specs.Laws.Skipping.{apart_below, apart_above}
use Rattle.alerts_patterns.proofs.apart.Goals as goal

pub returns-then-x-a : goal.returns-then-x-a
returns-then-x-a c = search (apart_below)

pub returns-else-x-a : goal.returns-else-x-a
returns-else-x-a c = search (apart_above)
