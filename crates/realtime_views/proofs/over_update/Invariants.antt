-- `realtime_views::over_update` meets its contract: two readings in one walk. Assumes nothing.
use Prim.Native.Nat.{◌-◌}
use lib.ListN.{length}
use Rattle.realtime_views.proofs.Trips.{Updates}
use Rattle.realtime_views.proofs.over_update.Given as goal

abbrev pub invariant-loop-at : goal.invariant-loop-at
invariant-loop-at l =
    Updates l.s l.from (record { trip = l.initial.trip; delay = l.initial.delay }) l.at l.trip l.delay

abbrev pub decreases-loop-at : goal.decreases-loop-at
decreases-loop-at l = length l.s - l.at
