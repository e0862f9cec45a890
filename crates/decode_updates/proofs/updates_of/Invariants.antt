-- `decode_updates::updates_of`: what is left of the updates, noted over those so far. Assumes nothing.
use Prim.Native.Nat.{◌+◌, ◌≤◌}
use lib.ListN.{take}
use Rattle.realtime_views.specs.Promises.Walks.{ahead}
use Rattle.decode_updates.proofs.Listing.{Listing}
use Rattle.decode_updates.proofs.updates_of.Given as goal

abbrev pub invariant-loop-at : goal.invariant-loop-at
invariant-loop-at l = Listing l.message l.start l.len l.updates l.n l.walk × (l.n ≤ 128)

abbrev pub decreases-loop-at : goal.decreases-loop-at
decreases-loop-at l = ahead (take (l.start + l.len) l.message) l.walk
