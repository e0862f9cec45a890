-- Believe: 01, Overlay. What a message, an alert sheet and a vehicle sheet make of a state.
use Rattle.std.specs.Prelude.{ℕ, ◌+◌, ◌^◌, ◌%◌, cond, List, [], ◌∷◌, ℤ, pos, ◌-ℤ◌, length}
use Rattle.std.proofs.Math.Option.{get_or}
use Rattle.std.specs.Int.Signed.{lt_z}
use Rattle.realtime.specs.Tree.{Tree}
use Rattle.basics.specs.Options.{or_other}
use Rattle.maps.specs.Map.{get, put, puts}
use Rattle.maps.specs.Order.{texts}
use Rattle.decode.specs.Leaves as leaves
use Rattle.alerts.specs.Alert.{Alert}
use Rattle.overlay.specs.State.{Vehicles, Feed, State, timestamp_of, count_of, trips_of, vehicles_of, alerts_of}
use Rattle.overlay.specs.State.{updated_of, version_of, feeds_of, feed_with, state_with, no_feed}

-- the feed of an id, made where it isn't there yet
unfoldable pub feed_at : List ℕ → State → Feed
feed_at f s = get_or (get texts f (feeds_of s)) no_feed

unfoldable pub put_feed : List ℕ → Feed → ℕ → State → State
put_feed f F version s = state_with version (put texts f F (feeds_of s))

-- A MESSAGE: the trips that it leaves, their count, and its timestamp where it has one
unfoldable pub after_message : List ℕ → Tree → State → State
after_message f m s =
    let F = feed_at f s in
    let trips = leaves.leaves f m (trips_of F) in
    put_feed f
    (feed_with (or_other (leaves.timestamp_in m) (timestamp_of F)) (leaves.count_without_at f trips) trips
    (vehicles_of F) (alerts_of F)) (version_of s) s

-- AN ALERT SHEET replaces the alerts
unfoldable pub after_alerts : List ℕ → List Alert → State → State
after_alerts f alerts s =
    let F = feed_at f s in
    put_feed f (feed_with (timestamp_of F) (count_of F) (trips_of F) (vehicles_of F) alerts) (version_of s) s

-- those not updated before the clock's time less 900 seconds
unfoldable pub without_stale : ℤ → Vehicles → Vehicles
without_stale clock [] = []
without_stale clock (e ∷ l) =
    cond (lt_z (updated_of e.1) (clock -ℤ pos 900)) (without_stale clock l) (e ∷ without_stale clock l)

-- A VEHICLE SHEET: its entries over old ones, then the stale ones go; the count is of all keys, and the version goes
-- on by one
unfoldable pub after_vehicles : List ℕ → Vehicles → ℤ → State → State
after_vehicles f entries clock s =
    let F = feed_at f s in
    put_feed f
    (feed_with (timestamp_of F) (length (trips_of F)) (trips_of F)
    (without_stale clock (puts texts entries (vehicles_of F)))
    (alerts_of F))
    ((version_of s + 1) % 2 ^ 64) s
