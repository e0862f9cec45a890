-- `nth` meets its contract.
use Rattle.formats_read.specs.Laws.Lists.{reach_start, reach_step}
use Rattle.formats_read.proofs.nth.Goals as goal

pub loop-init : goal.loop-init
loop-init c = reach_start

pub loop-preserved : goal.loop-preserved
loop-preserved c = reach_step c.past-p.result c.loop.invariant c.past-p.ensures
