-- `realtime_views::over_stop` meets its contract: a reading of each field by the bytes of keys. Assumes nothing.
use Prim.Native.Nat.{◌-◌}
use lib.ListN.{length}
use Rattle.realtime_views.proofs.Stops.{Stops}
use Rattle.realtime_views.proofs.over_stop.Given as goal

abbrev pub invariant-loop-at : goal.invariant-loop-at
invariant-loop-at l =
    Stops l.s l.from l.at l.sequence l.stop l.relationship l.arrival l.departure

abbrev pub decreases-loop-at : goal.decreases-loop-at
decreases-loop-at l = length l.s - l.at
