-- `alerts_ids::same_ignoring_case` meets its contract.
use Prim.Native.Nat.{◌-◌}
use lib.ListN.{length}
use Rattle.alerts_ids.specs.Laws.Ends.{Alike}
use Rattle.alerts_ids.proofs.same_ignoring_case.Given as goal

abbrev pub invariant-loop-i : goal.invariant-loop-i
invariant-loop-i l = Alike l.a l.b l.i

abbrev pub decreases-loop-i : goal.decreases-loop-i
decreases-loop-i l = length l.a - l.i
