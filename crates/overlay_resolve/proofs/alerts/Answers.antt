-- `alerts` meets its contract.
use Rattle.overlay_resolve.specs.Laws.Shown.{alerts_in, no_alerts}
use Rattle.overlay_places.specs.Laws.Ranks.{noted_room, found_low}
use lib.ListN.{length-take}
use native.Mathlib.Omega.{arith}
use Rattle.overlay_resolve.proofs.alerts.Goals as goal

pub slice_bounds-feed_rank-end : goal.slice_bounds-feed_rank-end
slice_bounds-feed_rank-end c = simp length-take (omega arith)

pub alerts_place-requires : goal.alerts_place-requires
alerts_place-requires c = (search noted_room, search (found_low, c.in_ok-r.was))

pub returns-in_err-r : goal.returns-in_err-r
returns-in_err-r c = search (no_alerts, c.from_residual.ensures, c.in_err-r.was)

pub returns : goal.returns
returns c = search (alerts_in, c.in_ok-r.was)
