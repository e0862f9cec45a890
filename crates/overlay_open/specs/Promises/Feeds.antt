-- Promise. How the walk over a state notes places: a feed's records, the feed, the feeds.
use Rattle.std.specs.Prelude.{◌≡◌, List, ℕ, ◌+◌, ◌*◌, ◌≤◌, ◌<◌, length, get_or}
use Rattle.basics.specs.Lists.{All}
use Rattle.formats.specs.Format.{Format, list, Value}
use Rattle.formats_read.specs.Promises.Here.{Here}
use Rattle.formats_read.specs.Promises.Lists.{Many}
use Rattle.decode.specs.Sizes.{most_trips, most_old}
use Rattle.alerts.specs.Alert.{alert}
use Rattle.overlay.specs.State.{Feed, feed_entry, vehicle_entry}
use Rattle.overlay_noted.specs.Promises.Noted.{places_length, TripsAt, FeedNoted, FeedsNoted}
use Rattle.overlay_noted.specs.Promises.Noted.{entry_at, count_at, vehicles_at, alerts_at}
use Rattle.overlay_noted.specs.Promises.Noting.{Fits}
use Rattle.overlay_open.specs.Promises.State.{records}
use Rattle.overlay_open.specs.Promises.Held.{HeldFeed}

-- trips, vehicles and alerts of the feed at rank r stand where it is noted
pub record RecordsAt (s places : List ℕ) (r : ℕ) (x : Value records) : Type 0 where
  pub count : count_at places r ≡ length x.0
  pub trips : TripsAt s places (2048 * r) x.0
  pub vehicles_end : ℕ
  pub vehicles_here : Here (list 1024 vehicle_entry) s (vehicles_at places r) vehicles_end x.1.0
  pub alerts_end : ℕ
  pub alerts_here : Here (list 256 alert) s (alerts_at places r) alerts_end x.1.1

-- numbers that agree in what is noted of feeds at lower ranks than r
pub record Lower (r : ℕ) (old new : List ℕ) : Type 0 where
  pub kept : length new ≡ length old
  pub trips_below : (j : ℕ) → j < 2048 * r → get_or new j 0 ≡ get_or old j 0
  pub parts_below : (j : ℕ) → 8192 ≤ j → j < 8192 + 4 * r → get_or new j 0 ≡ get_or old j 0

-- the records of the value of f at p are noted at rank r, and the place of the feed's entry
pub record RecordsPut (f : Format) (of : Value f → Value records) (s : List ℕ) (p r entry : ℕ) (old new : List ℕ) :
    Type 0 where
  pub lower : Lower r old new
  pub entry_is : length new ≡ places_length → entry ≤ most_old → entry_at new r ≡ entry
  pub each : Fits s new → {v : Value f} {q : ℕ} → Here f s p q v → length (of v).0 ≤ most_trips
      → RecordsAt s new r (of v)

-- the feed that stands at p is noted at rank r
pub record FeedPut (s : List ℕ) (p r : ℕ) (old new : List ℕ) : Type 0 where
  pub lower : Lower r old new
  pub noted : Fits s new → {x : List ℕ × Feed} {q : ℕ} → Here feed_entry s p q x → HeldFeed x
      → FeedNoted s new r x

-- the n feeds from p on
pub record FeedsPut (s : List ℕ) (p n : ℕ) (old new : List ℕ) : Type 0 where
  pub kept : length new ≡ length old
  pub each : Fits s new → (vs : List (List ℕ × Feed)) (q : ℕ) → length vs ≡ n → Many feed_entry s p q vs
      → All HeldFeed vs → FeedsNoted s new 0 vs

-- the feeds of the value of f at p
pub record HeldPut (f : Format) (of : Value f → List (List ℕ × Feed)) (s : List ℕ) (p : ℕ) (old new : List ℕ) :
    Type 0 where
  pub kept : length new ≡ length old
  pub each : Fits s new → {v : Value f} {q : ℕ} → Here f s p q v → All HeldFeed (of v)
      → FeedsNoted s new 0 (of v)
