-- `alerts_views::count_selectors`: those so far and those that are left. Assumes nothing.
use Prim.Native.Nat.{◌+◌}
use lib.ListN.{length, take}
use Rattle.realtime_views.specs.Promises.Walks.{ahead}
use Rattle.alerts_views.proofs.Counting.{Counting}
use Rattle.alerts_views.proofs.count_selectors.Given as goal

abbrev pub invariant-loop-n : goal.invariant-loop-n
invariant-loop-n l = Counting l.message l.start l.len length l.n l.walk

abbrev pub decreases-loop-n : goal.decreases-loop-n
decreases-loop-n l = ahead (take (l.start + l.len) l.message) l.walk
