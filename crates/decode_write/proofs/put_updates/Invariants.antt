-- `decode_write::put_updates`: the updates of the lines behind it are written. Assumes nothing.
use Prim.Native.Nat.{◌-◌, ◌≤◌}
use Rattle.formats_write.specs.Promises.Adds.{Adds}
use Rattle.decode_write.specs.Laws.Written.{updates_w}
use Rattle.decode_write.proofs.put_updates.Given as goal

abbrev pub invariant-loop-i : goal.invariant-loop-i
invariant-loop-i l =
    (l.i ≤ l.n) × Adds l.initial.out l.initial.q l.out l.q (updates_w l.message l.updates l.i)

abbrev pub decreases-loop-i : goal.decreases-loop-i
decreases-loop-i l = l.n - l.i
