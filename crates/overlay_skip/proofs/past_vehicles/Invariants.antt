-- `past_vehicles` meets its contract.
use Prim.Native.Nat.{◌-◌}
use Rattle.formats_skip.specs.Laws.Passes.{Passing}
use Rattle.overlay.specs.State.{vehicle_entry}
use Rattle.overlay_skip.proofs.past_vehicles.Given as goal

abbrev pub invariant-loop : goal.invariant-loop
invariant-loop l = Passing vehicle_entry l.old l.initial.p l.end l.p (l.end - l.counter)
