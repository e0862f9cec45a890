-- `realtime_views::over_event` meets its contract: a reading of each of its two numbers, in one walk. Assumes nothing.
use Prim.Native.Nat.{◌-◌}
use lib.ListN.{length}
use Rattle.realtime_views.proofs.Stops.{Events}
use Rattle.realtime_views.proofs.over_event.Given as goal

abbrev pub invariant-loop-at : goal.invariant-loop-at
invariant-loop-at l =
    Events l.s l.from (record { delay = l.initial.delay; time = l.initial.time }) l.at l.delay l.time

abbrev pub decreases-loop-at : goal.decreases-loop-at
decreases-loop-at l = length l.s - l.at
