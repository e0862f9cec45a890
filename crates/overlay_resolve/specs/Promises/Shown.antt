-- Promise. What is found in a state that stands at 0, by its place.
use Rattle.std.specs.Prelude.{◌≡◌, true, cond, List, ℕ, Option, Some, None}
use Rattle.std.proofs.Math.Option.{Option as LogicOption, none, some}
use Rattle.basics.specs.Lists.{is_empty}
use Rattle.basics.specs.Options.{Maybe, bind_o}
use Rattle.maps.specs.Map.{ascending}
use Rattle.maps.specs.Order.{texts}
use Rattle.formats.specs.Class.{token}
use Rattle.formats.specs.Format.{text, list}
use Rattle.formats_read.specs.Promises.Here.{Here}
use Rattle.decode.specs.Leaves.{Trips}
use Rattle.decode.specs.Sizes.{most_feed}
use Rattle.decode.specs.Trip.{Trip, trip}
use Rattle.overlay.specs.State.{State, overlay, feeds_of}
use Rattle.alerts.specs.Alert.{alert}
use Rattle.overlay.specs.Records.{Records, Feeds, shown}
use Rattle.overlay.specs.Lookup.{FeedTrip, feed_of, in_feed, find_trip_by_descriptor}
use Rattle.overlay.specs.Lookup.{resolve_trip_rt, get_vehicle_for_trip}
use Rattle.overlay_vehicle.specs.Promises.Vehicle.{Sees}
use Rattle.vehicle_place.specs.declared.VehiclePlace.{VehiclePlace}

-- the place of trip x's vehicle, by value
pub record ShowsVehicle (b x : List ℕ) (r : Option VehiclePlace) : Type 0 where
  pub to : {st : State} {q : ℕ} → Here overlay b 0 q st → ascending texts (feeds_of st) ≡ true
      → Sees r (get_vehicle_for_trip (shown st) x)

-- the alerts of trip x's feed
pub record AlertsAt (b : List ℕ) (o : LogicOption Records) (p : ℕ) : Type 0 where
  pub records : Records
  pub end : ℕ
  pub here : Here (list 256 alert) b p end records.alerts
  pub is : o ≡ some records

pub record AlertsIn (b : List ℕ) (o : LogicOption Records) (r : Option ℕ) : Type 0 where
  pub found : (p : ℕ) → r ≡ Some p → AlertsAt b o p
  pub missing : r ≡ None → o ≡ none

pub record ShowsAlerts (b x : List ℕ) (r : Option ℕ) : Type 0 where
  pub to : {st : State} {q : ℕ} → Here overlay b 0 q st → AlertsIn b (shown st (feed_of x)) r

-- a record at p, of the feed whose id is at e
pub record ResolvedAt (b : List ℕ) (p e : ℕ) (o : LogicOption FeedTrip) : Type 0 where
  pub feed : List ℕ
  pub id_end : ℕ
  pub id_here : Here (text most_feed token) b e id_end feed
  pub it : Trip
  pub end : ℕ
  pub here : Here trip b p end it
  pub is : o ≡ some (feed, it)

pub record FoundIn (b : List ℕ) (o : LogicOption FeedTrip) (r : Option (ℕ × ℕ)) : Type 0 where
  pub found : (p e : ℕ) → r ≡ Some (p, e) → ResolvedAt b p e o
  pub missing : r ≡ None → o ≡ none

pub record Resolves (look : Feeds → LogicOption FeedTrip) (b : List ℕ) (r : Option (ℕ × ℕ)) : Type 0 where
  pub to : {st : State} {q : ℕ} → Here overlay b 0 q st → ascending texts (feeds_of st) ≡ true
      → FoundIn b (look (shown st)) r

-- in feed f's trips
unfoldable pub in_trips : List ℕ → (Trips → LogicOption Trip) → Feeds → LogicOption FeedTrip
in_trips f look B = bind_o (B f) (λ R. in_feed f (look R.trips))

-- the look-up with the feeds last
unfoldable pub record_for : (trip route : List ℕ) → Maybe ℕ → (date : List ℕ) → Feeds → LogicOption FeedTrip
record_for trip route direction date B = resolve_trip_rt B trip route direction date

-- by a leg's descriptor, in its route's feed
unfoldable pub by_route : List ℕ → Maybe ℕ → List ℕ → Feeds → LogicOption FeedTrip
by_route route direction date B =
    cond (is_empty route) none
    (in_trips (feed_of route) (find_trip_by_descriptor (feed_of route) route direction date) B)
