-- Believe: 01, Overlay, and Questions before work. The overlay's state and its layout: a value of one format. Feeds
-- stand ascending by id, trips by the rest of their keys after `feed:`, vehicles by key, alerts as the sheet had
-- them. The alerts' index is a function of the alerts and is not stored.
use Rattle.std.specs.Prelude.{ℕ, List, [], ℤ, pos, negsuc}
use Rattle.std.proofs.Common.{inl}
use Rattle.formats.specs.Class.{token}
use Rattle.formats.specs.Format.{Format, number, signed, text, float, constant, list, optional, ◌&◌, Value}
use Rattle.decode.specs.Trip.{id, instant, trip_entry}
use Rattle.basics.specs.Options.{Maybe}
use Rattle.decode.specs.Sizes.{most_trips, most_feed}
use Rattle.decode.specs.Leaves.{Trips}
use Rattle.alerts.specs.Alert.{Alert, alert}

-- the trip that it makes, where one is given; latitude and longitude, bit for bit; when it was updated
abbrev pub vehicle : Format
vehicle = optional id & float & float & instant

-- vehicles by key, in the state and on a vehicle sheet (document 01, "Cards and sheets")
abbrev pub vehicle_entry : Format
vehicle_entry = id & vehicle

abbrev pub vehicle_sheet : Format
vehicle_sheet = constant 1 & list 1024 vehicle_entry

-- the header timestamp, 64 bits read as signed
abbrev pub timestamp : Format
timestamp = signed (negsuc 9223372036854775807) (pos 9223372036854775807)

-- header timestamp; `trip_update_count`; trips; vehicles; alerts
abbrev pub feed : Format
feed = optional timestamp & number 0 2048 & list most_trips trip_entry & list 1024 vehicle_entry & list 256 alert

-- feeds by id
abbrev pub feed_entry : Format
feed_entry = text most_feed token & feed

-- version; feeds
abbrev pub overlay : Format
overlay = constant 1 & number 0 18446744073709551615 & list 4 feed_entry

abbrev pub Vehicle : Type 0
Vehicle = Value vehicle

abbrev pub Vehicles : Type 0
Vehicles = List (List ℕ × Vehicle)

abbrev pub Feed : Type 0
Feed = Value feed

abbrev pub State : Type 0
State = Value overlay

module _ (v : Vehicle) where
  abbrev pub trip_of : Maybe (List ℕ)
  trip_of = v.0

  abbrev pub latitude_of : ℕ
  latitude_of = v.1.0

  abbrev pub longitude_of : ℕ
  longitude_of = v.1.1.0

  abbrev pub updated_of : ℤ
  updated_of = v.1.1.1

module _ (F : Feed) where
  abbrev pub timestamp_of : Maybe ℤ
  timestamp_of = F.0

  abbrev pub count_of : ℕ
  count_of = F.1.0

  abbrev pub trips_of : Trips
  trips_of = F.1.1.0

  abbrev pub vehicles_of : Vehicles
  vehicles_of = F.1.1.1.0

  abbrev pub alerts_of : List Alert
  alerts_of = F.1.1.1.1

module _ (s : State) where
  abbrev pub version_of : ℕ
  version_of = s.1.0

  abbrev pub feeds_of : List (List ℕ × Feed)
  feeds_of = s.1.1

abbrev pub feed_with : Maybe ℤ → ℕ → Trips → Vehicles → List Alert → Feed
feed_with timestamp count trips vehicles alerts = (timestamp, (count, (trips, (vehicles, alerts))))

abbrev pub state_with : ℕ → List (List ℕ × Feed) → State
state_with version feeds = (tt, (version, feeds))

-- a feed that isn't there yet, and the state without feeds
abbrev pub no_feed : Feed
no_feed = feed_with (inl tt) 0 [] [] []

abbrev pub no_state : State
no_state = state_with 0 []
