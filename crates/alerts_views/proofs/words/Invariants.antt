-- `alerts_views::words` meets its contract. The invariant: the first translation of the strings that are left is that
-- of all. Assumes nothing.
use Prim.Native.Nat.{◌+◌}
use lib.ListN.{take}
use Rattle.realtime_views.specs.Promises.Walks.{ahead}
use Rattle.alerts_views.proofs.Wording.{Wording}
use Rattle.alerts_views.proofs.words.Given as goal

abbrev pub invariant-loop-i : goal.invariant-loop-i
invariant-loop-i l = Wording l.message l.start l.len l.k l.walk

abbrev pub decreases-loop-i : goal.decreases-loop-i
decreases-loop-i l = ahead (take (l.start + l.len) l.message) l.walk
