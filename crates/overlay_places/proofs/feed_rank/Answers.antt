-- `overlay_places::feed_rank`: every feed at a lower rank comes before the one that is sought.
use Prim.Native.Nat.{◌+◌, ◌-◌, ◌≤◌, ◌<◌}
use mathlib.Core.Path.{◌≡◌}
use native.Mathlib.Omega.{arith}
use Rattle.overlay_places.specs.Laws.Ranks.{ranking_start, rank_low, ranking_on, noted_room}
use Rattle.overlay_places.specs.Laws.Ranks.{rank_none, rank_less, rank_same}
use Rattle.overlay_places.proofs.feed_rank.Goals as goal

pub loop-r-init : goal.loop-r-init
loop-r-init c =
    let whole : c.read_head-count.result.count - 0 ≡ c.read_head-count.result.count = omega arith in
    rw whole (search ranking_start)

pub entry_place-p-requires : goal.entry_place-p-requires
entry_place-p-requires c =
    let more : 0 < c.read_head-count.result.count - c.loop-r.r = omega arith in
    (search noted_room, search rank_low)

pub returns-in-Less : goal.returns-in-Less
returns-in-Less c =
    let more : 0 < c.read_head-count.result.count - c.loop-r.r = omega arith in
    search rank_less

pub returns-in-Equal : goal.returns-in-Equal
returns-in-Equal c =
    let more : 0 < c.read_head-count.result.count - c.loop-r.r = omega arith in
    search rank_same

pub loop-r-preserved : goal.loop-r-preserved
loop-r-preserved c =
    let more : 0 < c.read_head-count.result.count - c.loop-r.r = omega arith in
    let one : c.read_head-count.result.count - (c.loop-r.r + 1) ≡ c.read_head-count.result.count - c.loop-r.r - 1 =
    omega arith in
    rw one (search ranking_on)

pub returns : goal.returns
returns c =
    let done : c.read_head-count.result.count - c.loop-r.r ≤ 0 = omega arith in
    search rank_none
