-- Promise. A feed's trips as they have to be: each key is one of the record behind it, the keys ascend, and the feed's
-- count is that of all keys or of those without '@'.
use Rattle.std.specs.Prelude.{Bool, cond, ◌||◌, List, ◌∷◌, ◌++◌, ℕ, eqb}
use Rattle.formats.specs.Class.{printable}
use Rattle.formats.specs.Format.{text, list}
use Rattle.formats_check.specs.Promises.Checked.{Test, behind, also}
use Rattle.formats_check.specs.Laws.Climbing.{climb_test, by_key}
use Rattle.decode.specs.Trip.{trip_entry}
use Rattle.decode.specs.Key.{key_ok}
use Rattle.decode.specs.Leaves.{has_byte}
use Rattle.overlay_trip.specs.Laws.Trip.{trip_good}

-- a trip of the feed f
abbrev pub entry_good : List ℕ → Test trip_entry
entry_good f = also (behind (text 137 printable) trip_good) (λ e. key_ok f e.0 e.1)

-- what a key adds to the count of those without '@'
unfoldable pub plain : List ℕ → List ℕ → ℕ
plain f k = cond (has_byte 64 (f ++ 58 ∷ k)) 0 1

-- c is the sum m, or the number n of all keys
unfoldable pub is_count : ℕ → ℕ → ℕ → Bool
is_count c n m = eqb c m || eqb c n

abbrev pub trips_good : List ℕ → ℕ → Test (list 2048 trip_entry)
trips_good f c = climb_test 137 printable (entry_good f) (by_key (plain f)) (is_count c) 2048
