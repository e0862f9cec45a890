-- `alerts_search::candidates::find` meets its contract.
-- The invariant: the candidates among the alerts that are behind are written and marked.
use Rattle.alerts_search.specs.Laws.Candidates.{searching_start, searching_on, searching_end}
use Rattle.alerts_search.proofs.candidates.find.Goals as goal

pub loop-left-init : goal.loop-left-init
loop-left-init c = search (searching_start)

pub loop-left-preserved : goal.loop-left-preserved
loop-left-preserved c = search (searching_on)

pub returns : goal.returns
returns c = search (searching_end)
