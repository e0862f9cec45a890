-- `alerts_sheet::list_ids`: the ids so far and those of the selectors that are left. Assumes nothing.
use Prim.Native.Nat.{◌+◌}
use lib.ListN.{take}
use Rattle.realtime_views.specs.Promises.Walks.{ahead}
use Rattle.alerts_sheet.proofs.Listing.{Listing}
use Rattle.alerts_sheet.proofs.list_ids.Given as goal

abbrev pub invariant-loop-at : goal.invariant-loop-at
invariant-loop-at l =
    Listing l.kind l.feed l.message l.start l.len l.initial.out l.initial.next l.out l.next l.count l.walk

abbrev pub decreases-loop-at : goal.decreases-loop-at
decreases-loop-at l = ahead (take (l.start + l.len) l.message) l.walk
