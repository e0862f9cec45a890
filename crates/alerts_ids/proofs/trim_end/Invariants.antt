-- `alerts_ids::trim_end` meets its contract.
use Rattle.alerts_ids.specs.Laws.Ends.{Trails}
use Rattle.alerts_ids.proofs.trim_end.Given as goal

abbrev pub invariant-loop-e : goal.invariant-loop-e
invariant-loop-e l = Trails l.s l.e

abbrev pub decreases-loop-e : goal.decreases-loop-e
decreases-loop-e l = l.e
