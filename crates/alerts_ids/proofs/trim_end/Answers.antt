-- `alerts_ids::trim_end` meets its contract.
use Rattle.alerts_ids.specs.Laws.Ends.{trails_start, trails_more, trails_end, trails_none}
use Rattle.alerts_ids.specs.Laws.Ends.{trails_part}
use Rattle.alerts_ids.proofs.trim_end.Goals as goal

pub loop-e-init : goal.loop-e-init
loop-e-init c = trails_start _

pub slice_bounds-result-end : goal.slice_bounds-result-end
slice_bounds-result-end c = search (trails_part)

pub returns-then-s-k-ne32 : goal.returns-then-s-k-ne32
returns-then-s-k-ne32 c = search (trails_end)

pub loop-e-preserved : goal.loop-e-preserved
loop-e-preserved c = search (trails_more)

pub slice_bounds-result-end-2 : goal.slice_bounds-result-end-2
slice_bounds-result-end-2 c = search (trails_part)

pub returns : goal.returns
returns c = search (trails_none)
