-- `alerts_sheet::write_alerts`: the alerts so far and those of the entities that are left. Assumes nothing.
use Rattle.realtime_views.specs.Promises.Walks.{ahead}
use Rattle.alerts_sheet.proofs.Keeping.{Keeping}
use Rattle.alerts_sheet.proofs.write_alerts.Given as goal

abbrev pub invariant-loop-next : goal.invariant-loop-next
invariant-loop-next l =
    Keeping l.feed l.message l.initial.out l.initial.next l.out l.next l.walk

abbrev pub decreases-loop-next : goal.decreases-loop-next
decreases-loop-next l = ahead l.message l.walk
