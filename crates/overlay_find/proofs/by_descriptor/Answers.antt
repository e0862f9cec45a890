-- `overlay_find::by_descriptor`: the trips that were looked at have another descriptor.
use Rattle.overlay_find.specs.Laws.Rest.{rank_low, rank_room}
use Rattle.overlay_find.specs.Laws.Looks.{scan_start, scan_few, scan_on}
use Rattle.overlay_find.specs.Laws.Looks.{descriptor_hit, descriptor_miss}
use Rattle.overlay_find.proofs.by_descriptor.Goals as goal

pub trip_count-n-requires : goal.trip_count-n-requires
trip_count-n-requires c = (search rank_room, search rank_low)

pub loop-i-init : goal.loop-i-init
loop-i-init c = search scan_start

pub trip_place-p-requires : goal.trip_place-p-requires
trip_place-p-requires c = (search rank_room, search rank_low, search scan_few)

pub returns-then-descriptor_is : goal.returns-then-descriptor_is
returns-then-descriptor_is c = search descriptor_hit

pub loop-i-preserved : goal.loop-i-preserved
loop-i-preserved c = search scan_on

pub returns : goal.returns
returns c = search descriptor_miss
