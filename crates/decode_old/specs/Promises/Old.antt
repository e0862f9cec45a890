-- Promise. The old trips of a feed: how they stand in the old overlay's bytes, and the index that they have joined.
use Rattle.std.specs.Prelude.{ℕ, ◌+◌, ◌-◌, ◌≤◌, ◌≡◌, false, List, [], length}
use Rattle.decode.specs.Sizes.{most_trips, key_bytes, most_old, beyond}
use Rattle.basics.specs.Lists.{All}
use Rattle.formats.specs.Format.{list, Value}
use Rattle.formats_read.specs.Promises.Here.{Here}
use Rattle.formats_skip.specs.Promises.Passes.{Passes}
use Rattle.decode.specs.Trip.{trip, trip_entry}
use Rattle.maps.specs.Map.{puts}
use Rattle.maps.specs.Order.{texts}
use Rattle.decode_slots.specs.Index.{Place, index}
use Rattle.decode_slots.specs.Promises.Index.{SoundIndex}
use Rattle.decode_keys.specs.Promises.Entity.{Filed}
use Rattle.decode.specs.Leaves.{Trips}
use Rattle.decode_slots.specs.Places.{is_new, old_at, held}

-- a feed's trips stand in o from `at` on, and are as many and as short as the state lets them be
pub record Stands (o : List ℕ) (at : ℕ) : Type 0 where
  pub trips : Trips
  pub end : ℕ
  pub here : Here (list most_trips trip_entry) o at end trips
  pub few : length trips ≤ most_trips
  pub short : All (λ e. length e.0 ≤ key_bytes) trips
  pub small : length o ≤ most_old

-- a record stands at a place of the old overlay's bytes, and it is the one that the index holds there: it can be copied
pub record OldRecord (o : List ℕ) (p : Place) : Type 0 where
  pub aged : is_new p ≡ false
  pub forward : p.0 ≤ p.1
  pub here : Here trip o (p.0 - beyond) (p.1 - beyond) (old_at o p)

-- THE OLD TRIPS HAVE JOINED: the index holds them, whatever the message, and nothing else; they end at `next`. Those of
-- a state ascend, and then `puts texts v []` is v
pub record Joined (o : List ℕ) (at : ℕ) (keys marks order : List ℕ) (r next : ℕ) : Type 0 where
  pub sound : SoundIndex keys marks order r
  pub few : r ≤ most_trips
  pub old : All (λ e. OldRecord o e.1) (index keys marks order r)
  pub of : (v : Trips) (q : ℕ) → Here (list most_trips trip_entry) o at q v
      → (s : List ℕ) → held s o (index keys marks order r) ≡ puts texts v []
  pub passes : Passes (list most_trips trip_entry) o at next

-- one of them stands at p
pub record Entry (o : List ℕ) (p : ℕ) : Type 0 where
  pub entry : Value trip_entry
  pub end : ℕ
  pub here : Here trip_entry o p end entry
  pub short : length entry.0 ≤ key_bytes
  pub small : length o ≤ most_old

-- the entry at p ends at `next`, and its key has gone in with the place of its record
pub record FiledEntry (o : List ℕ) (p : ℕ) (keys marks order : List ℕ) (n : ℕ)
    (keys' marks' order' : List ℕ) (r next : ℕ) : Type 0 where
  pub ends : (v : Value trip_entry) (q : ℕ) → Here trip_entry o p q v → next ≡ q
  pub filed : (v : Value trip_entry) → Here trip_entry o p next v
      → (m : ℕ) × Here trip o m next v.1
      × Filed keys marks order n v.0 (beyond + m) (beyond + next) keys' marks' order' r

-- the entries us have joined
pub record Filled (o keys marks order : List ℕ) (n : ℕ) (us : Trips) : Type 0 where
  pub sound : SoundIndex keys marks order n
  pub few : n ≤ length us
  pub old : All (λ e. OldRecord o e.1) (index keys marks order n)
  pub holds : (s : List ℕ) → held s o (index keys marks order n) ≡ puts texts us []
