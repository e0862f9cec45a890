-- Believe: 01, Overlay, and Times and status. Look-up, named as in the Rust: trips by key and by descriptor, stop
-- updates by sequence and by stop id, vehicles of a trip. Of several matches the smallest key's is taken.
use Rattle.std.specs.Prelude.{ℕ, Bool, true, cond, ◌&&◌, ◌||◌, not, List, [], ◌∷◌, ◌++◌, eqb}
use Rattle.std.proofs.Common.{inl, inr}
use Rattle.std.proofs.Math.Option.{Option, none, some}
use Rattle.decode.specs.Trip.{StopUpdate, Trip, stop_of, date_of, route_of, direction_of, updates_of}
use Rattle.basics.specs.Options.{Maybe, or_else, bind_o, given_and}
use Rattle.maps.specs.Map.{get}
use Rattle.maps.specs.Order.{texts, numbers}
use Rattle.decode.specs.Key.{prefixed}
use Rattle.basics.specs.Lists.{is_empty}
use Rattle.decode.specs.Leaves.{Trips}
use Rattle.alerts.specs.Text.{ends, rsplit_once}
use Rattle.basics.specs.Texts.{same}
use Rattle.overlay.specs.State.{Vehicle, Vehicles, trip_of}
use Rattle.overlay.specs.Records.{Feeds}

-- the first that passes a test
unfoldable pub first_that : {A : Type 0} → (A → Bool) → List A → Option A
first_that p [] = none
first_that p (a ∷ l) = cond (p a) (some a) (first_that p l)

-- the value of the first entry that passes a test
abbrev pub value_of : {K A : Type 0} → Option (K × A) → Option A
value_of none = none
value_of (some e) = some e.1

-- the feed of a namespaced id: what stands before its first ':', and all of it where there is none
unfoldable pub feed_of : List ℕ → List ℕ
feed_of [] = []
feed_of (b ∷ s) = cond (eqb b 58) [] (b ∷ feed_of s)

-- the record of feed f at a whole key
unfoldable pub trip_at : List ℕ → List ℕ → Trips → Option Trip
trip_at f key trips = value_of (first_that (λ e. same (f ++ 58 ∷ e.0) key) trips)

-- by the whole key, else without what follows its last '@'
unfoldable pub get_trip : List ℕ → List ℕ → Trips → Option Trip
get_trip f key trips =
    or_else (trip_at f key trips) (bind_o (rsplit_once 64 key) (λ p. trip_at f p.0 trips))

-- two route ids name one route: r of a record, q of a leg
unfoldable pub route_matches : List ℕ → List ℕ → Bool
route_matches r q = not (is_empty r) && (same r q || (ends (58 ∷ q) r || ends (58 ∷ r) q))

-- a leg without direction meets any; with one, a record of the same
abbrev pub direction_matches : Maybe ℕ → Maybe ℕ → Bool
direction_matches (inl x) d = true
direction_matches (inr n) d = given_and (eqb n) d

-- feed f's first record of that route, direction and start date
unfoldable pub find_trip_by_descriptor : List ℕ → List ℕ → Maybe ℕ → List ℕ → Trips → Option Trip
find_trip_by_descriptor f route direction date trips =
    value_of (first_that (λ e.
    route_matches (prefixed f (route_of e.1)) route
    && (direction_matches direction (direction_of e.1) && same (date_of e.1) date)) trips)

-- a record with the feed that it was found in, whose prefix its stop ids have
abbrev pub FeedTrip : Type 0
FeedTrip = List ℕ × Trip

abbrev pub in_feed : List ℕ → Option Trip → Option FeedTrip
in_feed f none = none
in_feed f (some t) = some (f, t)

-- THE RECORD OF A LEG: by its trip id, else by its route's descriptor in the route's feed
unfoldable pub resolve_trip_rt : Feeds → (trip route : List ℕ) → Maybe ℕ → (date : List ℕ) → Option FeedTrip
resolve_trip_rt B trip route direction date =
    or_else (bind_o (B (feed_of trip)) (λ R. in_feed (feed_of trip) (get_trip (feed_of trip) trip R.trips)))
    (cond (is_empty route) none
    (bind_o (B (feed_of route))
    (λ R. in_feed (feed_of route) (find_trip_by_descriptor (feed_of route) route direction date R.trips))))

-- feed f's update has the stop id of the card
unfoldable pub stop_matches : List ℕ → List ℕ → StopUpdate → Bool
stop_matches f stop u =
    let i = prefixed f (stop_of u) in not (is_empty i) && (same i stop || ends (58 ∷ stop) i)

unfoldable pub stop_update_by_stop_id : List ℕ → List ℕ → Trip → Option StopUpdate
stop_update_by_stop_id f stop t = value_of (first_that (λ e. stop_matches f stop e.1) (updates_of t))

-- by the sequence, where one is given and there; else by the stop id
unfoldable pub find_stop_update : List ℕ → Maybe ℕ → List ℕ → Trip → Option StopUpdate
find_stop_update f (inl x) stop t = stop_update_by_stop_id f stop t
find_stop_update f (inr n) stop t = or_else (get numbers n (updates_of t)) (stop_update_by_stop_id f stop t)

-- the first vehicle with the trip id, else the one keyed by it
unfoldable pub vehicle_for_trip : List ℕ → Vehicles → Option Vehicle
vehicle_for_trip trip vs =
    or_else (value_of (first_that (λ e. given_and (λ x. same x trip) (trip_of e.1)) vs)) (get texts trip vs)

unfoldable pub get_vehicle_for_trip : Feeds → List ℕ → Option Vehicle
get_vehicle_for_trip B trip = bind_o (B (feed_of trip)) (λ R. vehicle_for_trip trip R.vehicles)
