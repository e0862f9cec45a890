-- `alerts_search::candidates::find` meets its contract.
-- The invariant: the candidates among the alerts that are behind are written and marked.
use Rattle.alerts_search.specs.Laws.Candidates.{Searching}
use Rattle.alerts_search.proofs.candidates.find.Given as goal

abbrev pub invariant-loop-left : goal.invariant-loop-left
invariant-loop-left l =
    Searching l.trip l.route l.from l.to l.s l.initial.p l.initial.left l.p l.left l.i l.n l.candidates l.met

abbrev pub decreases-loop-left : goal.decreases-loop-left
decreases-loop-left l = l.left
