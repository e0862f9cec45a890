-- `overlay_find::rest_at`: what is sought stands from `lo` up to `hi`, if anywhere.
use Rattle.overlay_find.specs.Laws.Rest.{rank_low, rank_room, mid_few, search_few}
use Rattle.overlay_find.specs.Laws.Rest.{search_start, search_less, search_more}
use Rattle.overlay_find.specs.Laws.Rest.{search_same, search_none}
use Prim.Native.Nat.{◌≤◌}
use native.Mathlib.Omega.{arith}
use Rattle.decode.specs.Sizes.{most_trips}
use Rattle.overlay_find.proofs.rest_at.Goals as goal

pub trip_count-hi-requires : goal.trip_count-hi-requires
trip_count-hi-requires c = (search rank_room, search rank_low)

pub loop-lo-init : goal.loop-lo-init
loop-lo-init c = search search_start

pub overflow_add-mid : goal.overflow_add-mid
overflow_add-mid c = let h : c.loop-lo.hi ≤ most_trips = search search_few in omega arith

pub trip_place-p-requires : goal.trip_place-p-requires
trip_place-p-requires c = (search rank_room, search rank_low, search mid_few)

pub loop-lo-preserved-in-Less : goal.loop-lo-preserved-in-Less
loop-lo-preserved-in-Less c = search search_less

pub returns-in-Equal : goal.returns-in-Equal
returns-in-Equal c = search search_same

pub overflow_add-lo : goal.overflow_add-lo
overflow_add-lo c = let h : c.loop-lo.hi ≤ most_trips = search search_few in omega arith

pub loop-lo-preserved : goal.loop-lo-preserved
loop-lo-preserved c = search search_more

pub returns : goal.returns
returns c = search search_none
