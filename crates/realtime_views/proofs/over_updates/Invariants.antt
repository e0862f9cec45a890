-- `realtime_views::over_updates` meets its contract: two readings in one walk. Assumes nothing.
use Prim.Native.Nat.{◌-◌}
use lib.ListN.{length}
use Rattle.realtime_views.proofs.Trips.{Entities}
use Rattle.realtime_views.proofs.over_updates.Given as goal

abbrev pub invariant-loop-start : goal.invariant-loop-start
invariant-loop-start l = Entities l.s l.from l.at l.d

abbrev pub decreases-loop-start : goal.decreases-loop-start
decreases-loop-start l = length l.s - l.at
