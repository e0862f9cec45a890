-- Believe: 01, Overlay. What look-up sees of the feeds: of each, its trip records, its vehicles and its alerts. The
-- history's book is one of these, and a state shows one.
use Rattle.std.specs.Prelude.{ℕ, List}
use Rattle.std.proofs.Math.Option.{Option, map}
use Rattle.maps.specs.Map.{get}
use Rattle.maps.specs.Order.{texts}
use Rattle.decode.specs.Leaves.{Trips}
use Rattle.alerts.specs.Alert.{Alert}
use Rattle.overlay.specs.State.{Vehicles, Feed, State, trips_of, vehicles_of, alerts_of, feeds_of}

pub record Records : Type 0 where
  pub trips : Trips
  pub vehicles : Vehicles
  pub alerts : List Alert

-- by the feed's id
abbrev pub Feeds : Type 0
Feeds = List ℕ → Option Records

abbrev pub records_of : Feed → Records
records_of F = record { trips = trips_of F; vehicles = vehicles_of F; alerts = alerts_of F }

unfoldable pub shown : State → Feeds
shown s f = map records_of (get texts f (feeds_of s))
