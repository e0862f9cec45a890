-- `sequence_in` meets its contract.
use Prim.Native.Nat.{◌-◌}
use Rattle.formats.specs.Format.{◌&◌}
use Rattle.decode.specs.Trip.{number32, stop_update}
use Rattle.overlay_seek.specs.Laws.Seek.{Seeking}
use Rattle.overlay_updates.specs.Promises.Updates.{numbered}
use Rattle.overlay_updates.proofs.sequence_in.Given as goal

abbrev pub invariant-loop : goal.invariant-loop
invariant-loop l =
    Seeking (number32 & stop_update) (numbered l.n) l.old l.initial.p l.end l.p (l.end - l.counter)
