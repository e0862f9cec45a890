-- Promise. What the layers above know of an opened buffer: its state, and each feed and trip of it.
use Rattle.std.specs.Prelude.{◌≡◌, true, List, ℕ, ◌≤◌, length}
use Rattle.std.proofs.Math.Option.{some}
use Rattle.basics.specs.Lists.{All}
use Rattle.maps.specs.Map.{ascending}
use Rattle.maps.specs.Order.{texts, numbers}
use Rattle.formats.specs.Class.{printable, token, in_class}
use Rattle.formats_check.specs.Promises.Checked.{fine}
use Rattle.formats_read.specs.Promises.Here.{Here}
use Rattle.decode.specs.Sizes.{most_trips, most_updates, key_bytes, most_feed}
use Rattle.decode.specs.Trip.{Trip, trip, updates_of}
use Rattle.decode.specs.Key.{key_ok}
use Rattle.alerts.specs.Alert.{alert}
use Rattle.overlay.specs.State.{State, Feed, vehicle_entry, overlay, trips_of, vehicles_of, alerts_of}
use Rattle.overlay.specs.Valid.{count_valid, valid}
use Rattle.overlay.specs.Image.{state_of}

-- the buffer b has a state, which ends at p
pub record Open (b : List ℕ) (p : ℕ) : Type 0 where
  pub state : State
  pub is : state_of b ≡ some state
  pub here : Here overlay b 0 p state
  pub valid : valid state ≡ true

-- a trip of the feed f, with its key
pub record HeldTrip (f : List ℕ) (e : List ℕ × Trip) : Type 0 where
  pub short : length e.0 ≤ key_bytes
  pub text : in_class printable e.0 ≡ true
  pub key : key_ok f e.0 e.1 ≡ true
  pub fine : fine trip e.1 ≡ true
  pub up : ascending numbers (updates_of e.1) ≡ true
  pub few : length (updates_of e.1) ≤ most_updates

-- a feed, with its id
pub record HeldFeed (e : List ℕ × Feed) : Type 0 where
  pub short : length e.0 ≤ most_feed
  pub id : in_class token e.0 ≡ true
  pub trips : All (HeldTrip e.0) (trips_of e.1)
  pub trips_up : ascending texts (trips_of e.1) ≡ true
  pub trips_few : length (trips_of e.1) ≤ most_trips
  pub vehicles : All (λ v. fine vehicle_entry v ≡ true) (vehicles_of e.1)
  pub vehicles_up : ascending texts (vehicles_of e.1) ≡ true
  pub vehicles_few : length (vehicles_of e.1) ≤ 1024
  pub alerts : All (λ a. fine alert a ≡ true) (alerts_of e.1)
  pub alerts_few : length (alerts_of e.1) ≤ 256
  pub count : count_valid e.0 e.1 ≡ true
