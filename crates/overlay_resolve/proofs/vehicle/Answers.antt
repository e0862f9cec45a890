-- `vehicle` meets its contract.
use Rattle.overlay_resolve.specs.Laws.Shown.{in_feed, no_feed_holds}
use Rattle.overlay_places.specs.Laws.Ranks.{noted_room, found_low}
use lib.ListN.{length-take}
use native.Mathlib.Omega.{arith}
use Rattle.overlay_resolve.proofs.vehicle.Goals as goal

pub slice_bounds-feed_rank-end : goal.slice_bounds-feed_rank-end
slice_bounds-feed_rank-end c = simp length-take (omega arith)

pub vehicles_place-p-requires : goal.vehicles_place-p-requires
vehicles_place-p-requires c = (search noted_room, search (found_low, c.in_ok-r.was))

pub returns-in_err-r : goal.returns-in_err-r
returns-in_err-r c = search (no_feed_holds, c.from_residual.ensures, c.in_err-r.was)

pub returns : goal.returns
returns c = search (in_feed, c.in_ok-r.was)
