-- `alerts_patterns::find_around` meets its contract. The invariant: the first place is the first from i on.
use Rattle.alerts_patterns.specs.Laws.Searching.{found_here, nowhere}
use Rattle.alerts_patterns.specs.Laws.Skipping.{unfound_first, unfound_next}
use Rattle.alerts_patterns.proofs.find_around.Goals as goal

pub loop-i-init : goal.loop-i-init
loop-i-init c = search (unfound_first)

pub returns-then-around_at : goal.returns-then-around_at
returns-then-around_at c = search (found_here)

pub loop-i-preserved : goal.loop-i-preserved
loop-i-preserved c = search (unfound_next)

pub returns-then-around_at-2 : goal.returns-then-around_at-2
returns-then-around_at-2 c = search (found_here)

pub returns-else-around_at-2 : goal.returns-else-around_at-2
returns-else-around_at-2 c = search (nowhere)
