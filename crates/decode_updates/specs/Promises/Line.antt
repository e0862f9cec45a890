-- Promise. The updates of a trip in a lent slice, in ascending order of sequence: three numbers each, the sequence
-- and the two of the place.
use Rattle.std.specs.Prelude.{ℕ, ◌+◌, ◌*◌, ◌≤◌, ◌≡◌, true, List, length}
use Rattle.decode.specs.Sizes.{updates_length}
use Rattle.maps.specs.Map.{put, ascending}
use Rattle.maps.specs.Order.{numbers}
use Rattle.slices.specs.Promises.Inserted.{inserted}
use Rattle.decode_updates.specs.Line.{laid}

-- the lines of `updates` are one more than a trip may have, of three words each
abbrev pub most_lines : ℕ
most_lines = 129

-- three numbers go in after the first 3 r
abbrev pub three : List ℕ → ℕ → ℕ → ℕ → ℕ → ℕ → List ℕ
three u r n q from to =
    inserted (inserted (inserted u (3 * r) (3 * n) q) (3 * r + 1) (3 * n + 1) from) (3 * r + 2) (3 * n + 2) to

-- the slice has its length, with room for one update more than a trip may have, and the first n are in use
pub record Lined (u : List ℕ) (n : ℕ) : Type 0 where
  pub counted : n ≤ most_lines
  pub long : length u ≡ updates_length
  pub ascends : ascending numbers (laid n u) ≡ true

-- after an update has gone in at its sequence: the map, and how many are in use
pub record Noted (u : List ℕ) (n sequence from to : ℕ) (u' : List ℕ) (r : ℕ) : Type 0 where
  pub map : laid r u' ≡ put numbers sequence (from, to) (laid n u)
  pub lined : Lined u' r
