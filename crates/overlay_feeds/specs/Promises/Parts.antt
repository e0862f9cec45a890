-- Promise. Where the parts of a feed stand, and what the small ones are.
use Rattle.std.specs.Prelude.{◌≡◌, List, ℕ}
use Rattle.formats.specs.Format.{number, list, optional, ◌&◌}
use Rattle.formats_write.specs.Promises.Given.{given_signed}
use Rattle.formats_read.specs.Promises.Here.{Here}
use Rattle.formats_skip.specs.Promises.Passes.{Passes}
use Rattle.decode.specs.Sizes.{most_trips}
use Rattle.decode.specs.Trip.{trip_entry}
use Rattle.alerts.specs.Alert.{alert}
use Rattle.overlay.specs.State.{Feed, feed, timestamp, vehicle_entry}
use Rattle.overlay.specs.State.{timestamp_of, count_of, trips_of, vehicles_of, alerts_of}
use Rattle.overlay_feeds.specs.declared.Front.{Front}
use Rattle.overlay_feeds.specs.declared.Parts.{Parts}

-- the trips end at `till`, and vehicles and alerts stand from there on
pub record FrontOf (b : List ℕ) (F : Feed) (p e : ℕ) (r : Front) : Type 0 where
  pub timestamp_is : given_signed r.timestamp ≡ timestamp_of F
  pub timestamp_here : Here (optional timestamp) b p r.counted (timestamp_of F)
  pub count_is : r.count ≡ count_of F
  pub count_here : Here (number 0 2048) b r.counted r.trips (count_of F)
  pub till : ℕ
  pub trips_here : Here (list most_trips trip_entry) b r.trips till (trips_of F)
  pub rest_here : Here (list 1024 vehicle_entry & list 256 alert) b till e (vehicles_of F, alerts_of F)

-- it is that of a feed that stands at p
pub record ReadsFront (b : List ℕ) (p : ℕ) (r : Front) : Type 0 where
  pub to : {F : Feed} {e : ℕ} → Here feed b p e F → FrontOf b F p e r

pub record PartsOf (b : List ℕ) (F : Feed) (p e : ℕ) (r : Parts) : Type 0 where
  pub timestamp_is : given_signed r.timestamp ≡ timestamp_of F
  pub timestamp_here : Here (optional timestamp) b p r.counted (timestamp_of F)
  pub count_is : r.count ≡ count_of F
  pub count_here : Here (number 0 2048) b r.counted r.trips (count_of F)
  pub trips_here : Here (list most_trips trip_entry) b r.trips r.vehicles (trips_of F)
  pub vehicles_here : Here (list 1024 vehicle_entry) b r.vehicles r.alerts (vehicles_of F)
  pub alerts_here : Here (list 256 alert) b r.alerts r.end (alerts_of F)
  pub end_is : r.end ≡ e

-- they are those of a feed with this front, whose trips end at v
pub record ReadsBack (b : List ℕ) (front : Front) (v : ℕ) (r : Parts) : Type 0 where
  pub to : {F : Feed} {p e : ℕ} → FrontOf b F p e front → Passes (list most_trips trip_entry) b front.trips v
      → PartsOf b F p e r

-- they are those of a feed that stands at p
pub record ReadsParts (b : List ℕ) (p : ℕ) (r : Parts) : Type 0 where
  pub to : {F : Feed} {e : ℕ} → Here feed b p e F → PartsOf b F p e r
