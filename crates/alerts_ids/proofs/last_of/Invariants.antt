-- `alerts_ids::last_of` meets its contract. The invariant: there is no c from e on.
use Rattle.alerts_ids.specs.Laws.Ends.{Without}
use Rattle.alerts_ids.proofs.last_of.Given as goal

abbrev pub invariant-loop-e : goal.invariant-loop-e
invariant-loop-e l = Without l.c l.s l.e

abbrev pub decreases-loop-e : goal.decreases-loop-e
decreases-loop-e l = l.e
