-- `alerts_views::kept`: the alerts so far and the entities that are left. The measure: the bytes behind the walk.
-- Assumes nothing.
use Rattle.realtime_views.specs.Promises.Walks.{ahead}
use Rattle.alerts_views.proofs.Keeping.{Keeping}
use Rattle.alerts_views.proofs.kept.Given as goal

abbrev pub invariant-loop-n : goal.invariant-loop-n
invariant-loop-n l = Keeping l.message l.n l.walk

abbrev pub decreases-loop-n : goal.decreases-loop-n
decreases-loop-n l = ahead l.message l.walk
