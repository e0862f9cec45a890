-- `alerts_search::places::note_alerts` meets its contract.
-- The invariant: the alerts that are behind stand at their places.
use Rattle.alerts_search.specs.Laws.Places.{noting_start, noting_on, noting_end}
use Rattle.alerts_search.proofs.places.note_alerts.Goals as goal

pub loop-left-init : goal.loop-left-init
loop-left-init c = noting_start

pub loop-left-preserved : goal.loop-left-preserved
loop-left-preserved c = search (noting_on)

pub returns : goal.returns
returns c = search (noting_end)
