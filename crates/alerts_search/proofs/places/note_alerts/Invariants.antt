-- `alerts_search::places::note_alerts` meets its contract.
-- The invariant: the alerts that are behind stand at their places.
use Rattle.alerts_search.specs.Laws.Places.{Noting}
use Rattle.alerts_search.proofs.places.note_alerts.Given as goal

abbrev pub invariant-loop-left : goal.invariant-loop-left
invariant-loop-left l =
    Noting l.s l.initial.places l.initial.p l.initial.left l.p l.left l.i l.places

abbrev pub decreases-loop-left : goal.decreases-loop-left
decreases-loop-left l = l.left
