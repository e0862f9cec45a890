-- `decode_old::join`: the entries behind have joined, and the others are ahead. Assumes nothing.
use Prim.Native.Nat.{◌-◌}
use mathlib.Core.Path.{◌≡◌}
use lib.ListN.{length}
use Rattle.formats_read.specs.Laws.Walk.{Walk}
use Rattle.decode.specs.Trip.{trip_entry}
use Rattle.decode_old.specs.Promises.Old.{Filled}
use Rattle.decode_old.proofs.join.Given as goal

abbrev pub invariant-loop : goal.invariant-loop
invariant-loop l =
    (length l.keys ≡ length l.initial.keys) × (length l.marks ≡ length l.initial.marks)
    × (length l.order ≡ length l.initial.order)
    × Walk trip_entry l.old l.initial.p l.end l.p (l.end - l.counter) (Filled l.old l.keys l.marks l.order l.n)
