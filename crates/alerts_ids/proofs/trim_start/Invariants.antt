-- `alerts_ids::trim_start` meets its contract.
use Prim.Native.Nat.{◌-◌}
use lib.ListN.{length}
use Rattle.alerts_ids.specs.Laws.Ends.{Leads}
use Rattle.alerts_ids.proofs.trim_start.Given as goal

abbrev pub invariant-loop-a : goal.invariant-loop-a
invariant-loop-a l = Leads l.s l.a

abbrev pub decreases-loop-a : goal.decreases-loop-a
decreases-loop-a l = length l.s - l.a
