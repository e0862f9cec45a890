-- Promise. How a walk notes places: one place, the trips of a feed, its four numbers.
use Rattle.std.specs.Prelude.{◌≡◌, List, ℕ, ◌+◌, ◌*◌, ◌≤◌, ◌<◌, length, get_or, set}
use Rattle.formats.specs.Format.{list}
use Rattle.formats_read.specs.Promises.Here.{Here}
use Rattle.formats_read.specs.Promises.Lists.{Many}
use Rattle.decode.specs.Leaves.{Trips}
use Rattle.decode.specs.Sizes.{most_trips, most_old}
use Rattle.decode.specs.Trip.{trip_entry}
use Rattle.overlay_noted.specs.Promises.Noted.{places_length, TripsAt, entry_at, count_at, vehicles_at, alerts_at}

-- P holds, unless the answer r is `no`
pub record Unless {A : Type 0} (r no : A) (P : Type 0) : Type 0 where
  pub so : (r ≡ no → ⊥) → P

-- what is said of notes is said of a buffer that an overlay may have, and of numbers for all its places
pub record Fits (s places : List ℕ) : Type 0 where
  pub small : length s ≤ most_old
  pub room : length places ≡ places_length

-- the place p went in at i, in 32 bits, if there is an i
pub record Put (old : List ℕ) (i p : ℕ) (new : List ℕ) : Type 0 where
  pub word : ℕ
  pub low : p ≤ most_old → word ≡ p
  pub is : new ≡ set old i word

-- numbers that agree apart from those for a feed's trips, from `base` on
pub record Row (base : ℕ) (old new : List ℕ) : Type 0 where
  pub kept : length new ≡ length old
  pub below : (j : ℕ) → j < base → get_or new j 0 ≡ get_or old j 0
  pub above : (j : ℕ) → base + most_trips ≤ j → get_or new j 0 ≡ get_or old j 0

-- the places of the n trips from p on went in from `base` on
pub record EntriesPut (s : List ℕ) (p n base : ℕ) (old new : List ℕ) : Type 0 where
  pub row : Row base old new
  pub each : Fits s new → (vs : Trips) (q : ℕ) → length vs ≡ n → Many trip_entry s p q vs
      → TripsAt s new base vs

-- and those of the list of trips at p
pub record TripsPut (s : List ℕ) (p base : ℕ) (old new : List ℕ) : Type 0 where
  pub row : Row base old new
  pub each : Fits s new → {vs : Trips} {q : ℕ} → Here (list most_trips trip_entry) s p q vs
      → TripsAt s new base vs

-- the four numbers of the feed at rank r
pub record PartsPut (old new : List ℕ) (r entry count vehicles alerts : ℕ) : Type 0 where
  pub kept : length new ≡ length old
  pub below : (j : ℕ) → j < 8192 + 4 * r → get_or new j 0 ≡ get_or old j 0
  pub entry_is : length new ≡ places_length → entry ≤ most_old → entry_at new r ≡ entry
  pub count_is : length new ≡ places_length → count ≤ most_old → count_at new r ≡ count
  pub vehicles_is : length new ≡ places_length → vehicles ≤ most_old → vehicles_at new r ≡ vehicles
  pub alerts_is : length new ≡ places_length → alerts ≤ most_old → alerts_at new r ≡ alerts
