-- `realtime_views::any_stop` meets its contract: a reading of each field, in one walk. Assumes nothing.
use Prim.Native.Nat.{◌-◌}
use lib.ListN.{length}
use Rattle.realtime_views.proofs.Stops.{Stops}
use Rattle.realtime_views.proofs.any_stop.Given as goal

abbrev pub invariant-loop-field : goal.invariant-loop-field
invariant-loop-field l =
    Stops l.s l.from l.at l.sequence l.stop l.relationship l.arrival l.departure

abbrev pub decreases-loop-field : goal.decreases-loop-field
decreases-loop-field l = length l.s - l.at
