-- `alerts_ids::last_of` meets its contract. The invariant: there is no c from e on.
use Rattle.alerts_ids.specs.Laws.Ends.{without_start, without_more, last_here, last_none}
use Rattle.alerts_ids.proofs.last_of.Goals as goal

pub loop-e-init : goal.loop-e-init
loop-e-init c = without_start _ _

pub returns-then-s-k : goal.returns-then-s-k
returns-then-s-k c = search (last_here)

pub loop-e-preserved : goal.loop-e-preserved
loop-e-preserved c = search (without_more)

pub returns : goal.returns
returns c = search (last_none)
