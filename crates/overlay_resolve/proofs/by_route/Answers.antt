-- `by_route` meets its contract.
use Rattle.overlay_resolve.specs.Laws.Resolve.{route_empty, route_named}
use lib.ListN.{length-take}
use native.Mathlib.Omega.{arith}
use Rattle.overlay_resolve.proofs.by_route.Goals as goal

pub returns-then-route-eq0 : goal.returns-then-route-eq0
returns-then-route-eq0 c = search route_empty

pub slice_bounds-route_in_feed-end : goal.slice_bounds-route_in_feed-end
slice_bounds-route_in_feed-end c = simp length-take (omega arith)

pub returns : goal.returns
returns c = search route_named
