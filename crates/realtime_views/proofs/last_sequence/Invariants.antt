-- `realtime_views::last_sequence` meets its contract: a reading of one field by the bytes of keys. Assumes nothing.
use Prim.Native.Nat.{◌-◌}
use lib.ListN.{length}
use Rattle.realtime_views.proofs.Short.{Sequences}
use Rattle.realtime_views.proofs.last_sequence.Given as goal

abbrev pub invariant-loop-at : goal.invariant-loop-at
invariant-loop-at l = Sequences l.s l.from l.at l.last

abbrev pub decreases-loop-at : goal.decreases-loop-at
decreases-loop-at l = length l.s - l.at
