-- `keys_ascend` meets its contract.
use Prim.Native.Nat.{◌+◌, ◌-◌, ◌≤◌, ◌<◌}
use mathlib.Core.Path.{◌≡◌}
use native.Mathlib.Omega.{arith}
use Rattle.overlay_ascends.specs.Laws.Ascends.{climb_start, climb_on, climb_fails, no_keys, climb_end}
use Rattle.overlay_ascends.proofs.keys_ascend.Goals as goal

pub returns-then-count-eq0 : goal.returns-then-count-eq0
returns-then-count-eq0 c = search no_keys

pub loop-init : goal.loop-init
loop-init c = search climb_start

pub precedes-requires : goal.precedes-requires
precedes-requires c =
    let C = c.loop.invariant in
    let K = c.text-key.ensures in
    record { a_le_e = (C.forward, C.within); b_le_f = (K.forward, K.within) }

pub returns-then-not-precedes : goal.returns-then-not-precedes
returns-then-not-precedes c =
    let more : 0 < c.number-count.result.value - c.loop.counter = omega arith in
    search climb_fails

pub loop-preserved : goal.loop-preserved
loop-preserved c =
    let more : 0 < c.number-count.result.value - c.loop.counter = omega arith in
    let one : c.number-count.result.value - (c.loop.counter + 1) ≡
    c.number-count.result.value - c.loop.counter - 1 = omega arith in
    rw one (search climb_on)

pub returns : goal.returns
returns c =
    let done : c.number-count.result.value - c.loop.counter ≤ 0 = omega arith in
    search climb_end
