-- `alerts_patterns::greater` meets its contract.
use Rattle.alerts_patterns.specs.Laws.Skipping.{greater_second, greater_first}
use Rattle.alerts_patterns.proofs.greater.Goals as goal

pub returns-then-x-y : goal.returns-then-x-y
returns-then-x-y c = search (greater_second)

pub returns-else-x-y : goal.returns-else-x-y
returns-else-x-y c = search (greater_first)
