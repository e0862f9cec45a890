-- `realtime_views::over_updates` meets its contract: two readings in one walk. Assumes nothing.
use Rattle.realtime_views.proofs.Trips.{entities_end}
use Rattle.realtime_views.proofs.Trips.{entities_taken}
use Rattle.realtime_views.proofs.over_updates.Goals as goal

pub returns : goal.returns
returns c = search entities_end

pub loop-start-preserved : goal.loop-start-preserved
loop-start-preserved c = search entities_taken
