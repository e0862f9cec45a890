-- `alerts_views::count_ids`: those so far and those that are left. Assumes nothing.
use Prim.Native.Nat.{◌+◌}
use lib.ListN.{take}
use Rattle.realtime_views.specs.Promises.Walks.{ahead}
use Rattle.alerts_views.proofs.Counting.{Counting, id_count}
use Rattle.alerts_views.proofs.count_ids.Given as goal

abbrev pub invariant-loop-n : goal.invariant-loop-n
invariant-loop-n l = Counting l.message l.start l.len (id_count l.kind) l.n l.walk

abbrev pub decreases-loop-n : goal.decreases-loop-n
decreases-loop-n l = ahead (take (l.start + l.len) l.message) l.walk
