-- `overlay_records::vehicles_from` meets its contract.
use Prim.Native.Nat.{◌≤◌, ◌-◌}
use lib.ListN.{length}
use Rattle.formats.specs.Class.{printable}
use Rattle.formats_check.specs.Laws.Climbing.{known, Climbing, weightless, whatever}
use Rattle.overlay_records.specs.Promises.Vehicles.{vehicle_good}
use Rattle.overlay_records.proofs.vehicles_from.Given as goal

abbrev pub invariant-loop : goal.invariant-loop
invariant-loop l =
    (l.p ≤ length l.old) × (l.b ≤ l.d) × (l.d ≤ length l.old)
    × Climbing 64 printable vehicle_good weightless (whatever l.n) l.n l.old l.at (known l.first l.old l.b l.d) 0
    (l.n - l.counter)
    l.p
