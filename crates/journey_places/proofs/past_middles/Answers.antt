-- `past_middles` meets its contract.
use Prim.Native.Nat.{◌+◌, ◌-◌, ◌≤◌, ◌<◌}
use mathlib.Core.Path.{◌≡◌}
use native.Mathlib.Omega.{arith}
use Rattle.formats_skip.specs.Laws.Passes.{list_start, list_on, list_end}
use Rattle.journey_places.proofs.past_middles.Goals as goal

pub loop-init : goal.loop-init
loop-init c =
    let whole : c.number-count.result.value - 0 ≡ c.number-count.result.value = omega arith in
    rw whole list_start

pub loop-preserved : goal.loop-preserved
loop-preserved c =
    let more : 0 < c.number-count.result.value - c.loop.counter = omega arith in
    let one : c.number-count.result.value - (c.loop.counter + 1) ≡
    c.number-count.result.value - c.loop.counter - 1 = omega arith in
    rw one (search list_on)

pub returns : goal.returns
returns c = let done : c.number-count.result.value - c.loop.counter ≤ 0 = omega arith in search list_end
