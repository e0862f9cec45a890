-- `overlay_trip::updates_from` meets its contract.
use Prim.Native.Nat.{◌≤◌, ◌-◌}
use lib.ListN.{length}
use Rattle.decode.specs.Trip.{stop_update}
use Rattle.formats_check.specs.Laws.Rising.{Rising}
use Rattle.overlay_trip.proofs.updates_from.Given as goal

abbrev pub invariant-loop : goal.invariant-loop
invariant-loop l =
    (l.p ≤ length l.old) × Rising 4294967295 stop_update l.n l.old l.at l.low (l.n - l.counter) l.p
