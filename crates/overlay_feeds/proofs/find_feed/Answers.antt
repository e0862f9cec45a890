-- `find_feed` meets its contract.
use Prim.Native.Nat.{◌+◌, ◌-◌, ◌≤◌, ◌<◌}
use mathlib.Core.Path.{◌≡◌}
use native.Mathlib.Omega.{arith}
use Rattle.overlay_feeds.specs.Laws.Place.{seek_start, seek_on, feed_less, feed_same, feed_all}
use Rattle.overlay_feeds.proofs.find_feed.Goals as goal

pub loop-i-init : goal.loop-i-init
loop-i-init c =
    let whole : c.read_head-head.result.count - 0 ≡ c.read_head-head.result.count = omega arith in
    rw whole seek_start

pub returns-in-Less : goal.returns-in-Less
returns-in-Less c =
    let more : 0 < c.read_head-head.result.count - c.loop-i.i = omega arith in
    search feed_less

pub returns-in-Equal : goal.returns-in-Equal
returns-in-Equal c =
    let more : 0 < c.read_head-head.result.count - c.loop-i.i = omega arith in
    search feed_same

pub loop-i-preserved : goal.loop-i-preserved
loop-i-preserved c =
    let more : 0 < c.read_head-head.result.count - c.loop-i.i = omega arith in
    let one : c.read_head-head.result.count - (c.loop-i.i + 1) ≡
    c.read_head-head.result.count - c.loop-i.i - 1 = omega arith in
    rw one (search seek_on)

pub returns : goal.returns
returns c =
    let done : c.read_head-head.result.count - c.loop-i.i ≤ 0 = omega arith in
    search feed_all
