-- `alerts_ids::trim_start` meets its contract.
use Rattle.alerts_ids.specs.Laws.Ends.{leads_start, leads_more, leads_end, leads_all}
use Rattle.alerts_ids.proofs.trim_start.Goals as goal

pub loop-a-init : goal.loop-a-init
loop-a-init c = leads_start _

pub returns-then-s-a-ne32 : goal.returns-then-s-a-ne32
returns-then-s-a-ne32 c = search (leads_end)

pub loop-a-preserved : goal.loop-a-preserved
loop-a-preserved c = search (leads_more)

pub returns : goal.returns
returns c = search (leads_all)
