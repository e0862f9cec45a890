-- `stop_in` meets its contract.
use Prim.Native.Nat.{◌-◌}
use Rattle.formats.specs.Format.{◌&◌}
use Rattle.decode.specs.Trip.{number32, stop_update}
use Rattle.overlay_seek.specs.Laws.Seek.{Seeking}
use Rattle.overlay_updates.specs.Promises.Updates.{stopping}
use Rattle.overlay_updates.proofs.stop_in.Given as goal

abbrev pub invariant-loop : goal.invariant-loop
invariant-loop l =
    Seeking (number32 & stop_update) (stopping l.feed l.stop) l.old l.initial.p l.end l.p (l.end - l.counter)
