-- `find_vehicle` meets its contract.
use mathlib.Core.Path.{◌≡◌}
use Prim.Native.Nat.{◌+◌, ◌-◌, ◌<◌, ◌≤◌}
use native.Mathlib.Omega.{arith}
use Rattle.overlay_seek.specs.Laws.Seek.{seek_start}
use Rattle.overlay_vehicle.specs.Laws.Vehicle.{keying_start, keying_on, riding_on}
use Rattle.overlay_vehicle.specs.Laws.Vehicle.{trip_found, trip_missing}
use Rattle.overlay_vehicle.proofs.find_vehicle.Goals as goal

pub loop-init : goal.loop-init
loop-init c =
    let all : c.number-c.result.value - 0 ≡ c.number-c.result.value = omega arith in
    rw all (seek_start, keying_start)

pub returns-then-makes_trip : goal.returns-then-makes_trip
returns-then-makes_trip c =
    let more : 0 < c.number-c.result.value - c.loop.counter = omega arith in
    search (trip_found, more)

pub loop-preserved : goal.loop-preserved
loop-preserved c =
    let more : 0 < c.number-c.result.value - c.loop.counter = omega arith in
    let one : c.number-c.result.value -
    (c.loop.counter + 1) ≡ c.number-c.result.value - c.loop.counter - 1 = omega arith in
    rw one (search (riding_on, more), search (keying_on, more))

pub returns : goal.returns
returns c =
    let none : c.number-c.result.value - c.loop.counter ≤ 0 = omega arith in
    search (trip_missing, none)
