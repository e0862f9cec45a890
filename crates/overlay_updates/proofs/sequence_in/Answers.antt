-- `sequence_in` meets its contract.
use Prim.Native.Nat.{◌+◌, ◌-◌, ◌≤◌, ◌<◌}
use mathlib.Core.Path.{◌≡◌}
use native.Mathlib.Omega.{arith}
use Rattle.overlay_seek.specs.Laws.Seek.{seek_start, seek_miss}
use Rattle.overlay_updates.specs.Laws.Updates.{sequence_hit, sequence_on}
use Rattle.overlay_updates.proofs.sequence_in.Goals as goal

pub loop-init : goal.loop-init
loop-init c =
    let whole : c.number-count.result.value - 0 ≡ c.number-count.result.value = omega arith in
    rw whole seek_start

pub returns-then-k-n : goal.returns-then-k-n
returns-then-k-n c =
    let more : 0 < c.number-count.result.value - c.loop.counter = omega arith in
    search sequence_hit

pub loop-preserved : goal.loop-preserved
loop-preserved c =
    let more : 0 < c.number-count.result.value - c.loop.counter = omega arith in
    let one : c.number-count.result.value - (c.loop.counter + 1) ≡
    c.number-count.result.value - c.loop.counter - 1 = omega arith in
    rw one (search sequence_on)

pub returns : goal.returns
returns c = let done : c.number-count.result.value - c.loop.counter ≤ 0 = omega arith in search seek_miss
