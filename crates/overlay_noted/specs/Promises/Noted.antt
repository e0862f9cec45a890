-- Promise. Where an overlay's feeds and their trips stand, noted in lent numbers: 2,048 places of trips for each of
-- four feeds, and behind them four numbers for each feed.
use Rattle.std.specs.Prelude.{◌≡◌, true, List, [], ◌∷◌, ℕ, suc, ◌+◌, ◌*◌, ◌≤◌, ◌<◌, length, get_or}
use Rattle.maps.specs.Map.{ascending}
use Rattle.maps.specs.Order.{texts}
use Rattle.formats.specs.Class.{token}
use Rattle.formats.specs.Format.{text, list}
use Rattle.formats_read.specs.Promises.Here.{Here}
use Rattle.decode.specs.Leaves.{Trips}
use Rattle.decode.specs.Sizes.{most_trips, most_feed}
use Rattle.decode.specs.Trip.{trip_entry}
use Rattle.alerts.specs.Alert.{alert}
use Rattle.overlay.specs.State.{Feed, State, overlay, vehicle_entry, feeds_of, trips_of, vehicles_of, alerts_of}

abbrev pub places_length : ℕ
places_length = 8208

-- of the feed at a rank: the place of its entry, the count of its trips, the places of its vehicles and its alerts
abbrev pub entry_at : List ℕ → ℕ → ℕ
entry_at places r = get_or places (8192 + 4 * r) 0

abbrev pub count_at : List ℕ → ℕ → ℕ
count_at places r = get_or places (8192 + 4 * r + 1) 0

abbrev pub vehicles_at : List ℕ → ℕ → ℕ
vehicles_at places r = get_or places (8192 + 4 * r + 2) 0

abbrev pub alerts_at : List ℕ → ℕ → ℕ
alerts_at places r = get_or places (8192 + 4 * r + 3) 0

-- each trip stands at its place, from place j on
abbrev pub TripsAt : (s places : List ℕ) → ℕ → Trips → Type 0
TripsAt s places j [] = Unit {0}
TripsAt s places j (e ∷ l) = ((q : ℕ) × Here trip_entry s (get_or places j 0) q e) × TripsAt s places (suc j) l

-- the feed e at rank r
pub record FeedNoted (s places : List ℕ) (r : ℕ) (e : List ℕ × Feed) : Type 0 where
  pub low : r < 4
  pub room : length places ≡ places_length
  pub id_end : ℕ
  pub id_here : Here (text most_feed token) s (entry_at places r) id_end e.0
  pub count : count_at places r ≡ length (trips_of e.1)
  pub few : length (trips_of e.1) ≤ most_trips
  pub up : ascending texts (trips_of e.1) ≡ true
  pub trips : TripsAt s places (2048 * r) (trips_of e.1)
  pub vehicles_end : ℕ
  pub vehicles_here : Here (list 1024 vehicle_entry) s (vehicles_at places r) vehicles_end (vehicles_of e.1)
  pub alerts_end : ℕ
  pub alerts_here : Here (list 256 alert) s (alerts_at places r) alerts_end (alerts_of e.1)

abbrev pub FeedsNoted : (s places : List ℕ) → ℕ → List (List ℕ × Feed) → Type 0
FeedsNoted s places r [] = Unit {0}
FeedsNoted s places r (e ∷ l) = FeedNoted s places r e × FeedsNoted s places (suc r) l

-- THE PLACES OF A STATE that stands at 0
pub record Noted (s places : List ℕ) : Type 0 where
  pub state : State
  pub end : ℕ
  pub here : Here overlay s 0 end state
  pub up : ascending texts (feeds_of state) ≡ true
  pub few : length (feeds_of state) ≤ 4
  pub room : length places ≡ places_length
  pub feeds : FeedsNoted s places 0 (feeds_of state)

-- some feed is noted at rank r
pub record RankNoted (s places : List ℕ) (r : ℕ) : Type 0 where
  pub feed : List ℕ × Feed
  pub noted : FeedNoted s places r feed
