-- `Cursor::long_number` meets its contract: what is read behind the bytes passed stands at `scale`. Assumes nothing.
use Prim.Native.Nat.{◌-◌}
use lib.ListN.{length}
use Rattle.wire.proofs.Number.{Reading}
use Rattle.wire.proofs.Cursor.long_number.Given as goal

abbrev pub invariant-loop-at : goal.invariant-loop-at
invariant-loop-at l = Reading l.s l.initial.at l.at l.value l.scale l.more

abbrev pub decreases-loop-at : goal.decreases-loop-at
decreases-loop-at l = length l.s - l.at
