-- Believe: 01, Overlay. The trip record of an entity, as `apply_trip_updates` makes it.
use Rattle.std.specs.Prelude.{ℕ, Bool, cond, List, [], map}
use Rattle.realtime.specs.Tree.{Tree, sub, rep}
use Rattle.realtime.specs.Views.{trip, stop_update}
use Rattle.decode.specs.Trip.{StopUpdate, Trip, update_with, trip_with}
use Rattle.basics.specs.Options.{maybe}
use Rattle.maps.specs.Map.{puts}
use Rattle.maps.specs.Order.{numbers}

abbrev pub bit : Bool → ℕ
bit b = cond b 1 0

-- what a stop_time_update holds
unfoldable pub update_in : Tree → StopUpdate
update_in s =
    let u = stop_update s in
    update_with u.stop (maybe u.arrival.delay) (maybe u.arrival.time) (maybe u.departure.delay)
    (maybe u.departure.time) (bit u.skipped)

-- the updates of an entity, a later one at a sequence over an earlier one
unfoldable pub updates_in : Tree → List (ℕ × StopUpdate)
updates_in e = puts numbers (map {B = ℕ × StopUpdate} (λ s. ((stop_update s).sequence, update_in s)) (rep 2 (sub 3 e)))
    []

-- THE RECORD of an entity
unfoldable pub trip_in : Tree → Trip
trip_in e =
    let t = trip e in
    trip_with (maybe t.delay) (bit t.cancelled) t.date t.route (maybe t.direction) t.time (updates_in e)
