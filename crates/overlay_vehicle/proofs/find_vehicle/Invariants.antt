-- `find_vehicle` meets its contract.
use Prim.Native.Nat.{◌-◌}
use Rattle.overlay.specs.State.{vehicle_entry}
use Rattle.overlay_seek.specs.Laws.Seek.{Seeking}
use Rattle.overlay_vehicle.specs.Promises.Vehicle.{riding}
use Rattle.overlay_vehicle.specs.Laws.Vehicle.{Keying}
use Rattle.overlay_vehicle.proofs.find_vehicle.Given as goal

abbrev pub invariant-loop : goal.invariant-loop
invariant-loop l =
    Seeking vehicle_entry (riding l.trip) l.old l.initial.p l.end l.p (l.end - l.counter)
    × Keying l.old l.at l.trip l.initial.p l.end l.p (l.end - l.counter) l.seen
