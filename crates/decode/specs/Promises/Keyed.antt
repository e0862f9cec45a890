-- Promise. A key that is written into its slot of a lent slice: 137 bytes to a slot.
use Rattle.std.specs.Prelude.{ℕ, ◌*◌, ◌≤◌, ◌≡◌, List, length, take, drop}
use Rattle.realtime_views.specs.Promises.Views.{PartInside}
use Rattle.decode.specs.Sizes.{most_trips, key_bytes, most_id, most_date, most_time, keys_length}
use Rattle.realtime_views.specs.declared.Trip.{Trip}

-- the texts of an entity lie in the bytes, and are as long as question 5 lets them be
pub record Short (s : List ℕ) (t : Trip) : Type 0 where
  pub id : PartInside (length s) t.id × (t.id.len ≤ most_id)
  pub date : PartInside (length s) t.date × (t.date.len ≤ most_date)
  pub time : PartInside (length s) t.time × (t.time.len ≤ most_time)
  pub route : PartInside (length s) t.route × (t.route.len ≤ most_id)

-- slot n is there
pub record Room (keys : List ℕ) (n : ℕ) : Type 0 where
  pub counted : n ≤ most_trips
  pub keyed : length keys ≡ keys_length

-- key k stands in slot n, and the slots before it are as they were
pub record Keyed (keys : List ℕ) (n : ℕ) (k keys' : List ℕ) (r : ℕ) : Type 0 where
  pub key : take r (drop (key_bytes * n) keys') ≡ k
  pub before : take (key_bytes * n) keys' ≡ take (key_bytes * n) keys
  pub long : length keys' ≡ length keys
  pub short : r ≤ key_bytes
