-- `past_texts` meets its contract.
use mathlib.Core.Path.{◌≡◌}
use Prim.Native.Nat.{◌+◌, ◌-◌, ◌<◌, ◌≤◌}
use native.Mathlib.Omega.{arith}
use Rattle.formats_skip.specs.Laws.Passes.{list_on, list_end}
use Rattle.formats_skip.proofs.past_texts.Goals as goal

pub loop-preserved : goal.loop-preserved
loop-preserved c =
    let more : 0 < c.number-n.result.value - c.loop.counter = omega arith in
    let one : c.number-n.result.value -
    (c.loop.counter + 1) ≡ c.number-n.result.value - c.loop.counter - 1 = omega arith in
    rw one (list_on c.loop.invariant more c.past_text-p.ensures)

pub returns : goal.returns
returns c = let none : c.number-n.result.value - c.loop.counter ≤ 0 = omega arith in
    list_end c.loop.invariant c.number-n.ensures none
