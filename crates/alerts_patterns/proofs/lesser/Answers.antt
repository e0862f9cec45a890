-- `alerts_patterns::lesser` meets its contract.
use Rattle.alerts_patterns.specs.Laws.Skipping.{lesser_second, lesser_first}
use Rattle.alerts_patterns.proofs.lesser.Goals as goal

pub returns-then-y-x : goal.returns-then-y-x
returns-then-y-x c = search (lesser_second)

pub returns-else-y-x : goal.returns-else-y-x
returns-else-y-x c = search (lesser_first)
