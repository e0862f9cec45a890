-- Believe: 01, Questions before work. Which states are an overlay's (`Held`): they have a writing; questions 5 to 7
-- hold, keys ascend, each trip key is one that `insert_trip` gives for its record, the count is one of the two.
use Rattle.std.specs.Prelude.{ℕ, ◌≡◌, Bool, true, ◌&&◌, ◌||◌, List, eqb, length}
use Rattle.basics.specs.Lists.{all}
use Rattle.formats.specs.Format.{Format, Value, Fits}
use Rattle.formats_judge.specs.Judged.{ok}
use Rattle.decode.specs.Trip.{Trip, updates_of}
use Rattle.maps.specs.Map.{ascending}
use Rattle.maps.specs.Order.{texts, numbers}
use Rattle.decode.specs.Key.{key_ok}
use Rattle.decode.specs.Leaves as leaves
use Rattle.overlay.specs.State.{Feed, State, overlay, trips_of, vehicles_of, count_of, feeds_of}

abbrev pub trip_valid : List ℕ → List ℕ × Trip → Bool
trip_valid f e = key_ok f e.0 e.1 && ascending numbers (updates_of e.1)

-- the keys without '@', as after a message, or all keys, as after a vehicle sheet
abbrev pub count_valid : List ℕ → Feed → Bool
count_valid f F = eqb (count_of F) (leaves.count_without_at f (trips_of F)) || eqb (count_of F) (length (trips_of F))

unfoldable pub feed_valid : List ℕ × Feed → Bool
feed_valid (f, F) =
    ascending texts (trips_of F) &&
    (all (trip_valid f) (trips_of F) && (ascending texts (vehicles_of F) && count_valid f F))

-- questions 5, 6 and 7 of a value
unfoldable pub within : (f : Format) → Value f → Bool
within f v = ok 5 f v && (ok 6 f v && ok 7 f v)

unfoldable pub valid : State → Bool
valid s = within overlay s && (ascending texts (feeds_of s) && all feed_valid (feeds_of s))

-- A STATE THAT A BUFFER HOLDS. `valid` doesn't ask of a flag whether it is 0 or 1: what has a writing at all is `Fits`
pub record Held (s : State) : Type 0 where
  pub fits : Fits overlay s
  pub valid : valid s ≡ true
