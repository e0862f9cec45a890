-- `resolve` meets its contract.
use Rattle.overlay_resolve.specs.Laws.Resolve.{by_id, by_leg}
use lib.ListN.{length-take}
use native.Mathlib.Omega.{arith}
use Rattle.overlay_resolve.proofs.resolve.Goals as goal

pub slice_bounds-trip_in_feed-end : goal.slice_bounds-trip_in_feed-end
slice_bounds-trip_in_feed-end c = simp length-take (omega arith)

pub returns-in-Some : goal.returns-in-Some
returns-in-Some c = search by_id

pub returns-in-None : goal.returns-in-None
returns-in-None c = search by_leg
