-- `stop_in` meets its contract.
use Prim.Native.Nat.{◌+◌, ◌-◌, ◌≤◌, ◌<◌}
use mathlib.Core.Path.{◌≡◌}
use native.Mathlib.Omega.{arith}
use Rattle.overlay_seek.specs.Laws.Seek.{seek_start, seek_miss}
use Rattle.overlay_updates.specs.Laws.Updates.{stop_hit, stop_on}
use Rattle.overlay_updates.proofs.stop_in.Goals as goal

pub loop-init : goal.loop-init
loop-init c =
    let whole : c.number-counted.result.value - 0 ≡ c.number-counted.result.value = omega arith in
    rw whole seek_start

pub returns-then-stop_told : goal.returns-then-stop_told
returns-then-stop_told c =
    let more : 0 < c.number-counted.result.value - c.loop.counter = omega arith in
    search stop_hit

pub loop-preserved : goal.loop-preserved
loop-preserved c =
    let more : 0 < c.number-counted.result.value - c.loop.counter = omega arith in
    let one : c.number-counted.result.value - (c.loop.counter + 1) ≡
    c.number-counted.result.value - c.loop.counter - 1 = omega arith in
    rw one (search stop_on)

pub returns : goal.returns
returns c = let done : c.number-counted.result.value - c.loop.counter ≤ 0 = omega arith in search seek_miss
