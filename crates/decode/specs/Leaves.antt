-- Believe: 01, Overlay. What a message leaves of a feed's trips.
use Rattle.std.specs.Prelude.{ℕ, suc, Bool, false, cond, ◌||◌, List, [], ◌∷◌, ◌++◌, ℤ, eqb}
use Rattle.std.proofs.Math.Option.{map}
use Rattle.realtime.specs.Tree.{Tree, rep}
use Rattle.realtime.specs.Typed.{int64}
use Rattle.realtime.specs.Views.{header}
use Rattle.decode.specs.Trip.{Trip}
use Rattle.basics.specs.Options.{Maybe, maybe}
use Rattle.maps.specs.Map.{puts}
use Rattle.maps.specs.Order.{texts}
use Rattle.decode.specs.Key.{entries_in}

-- the trips of a feed, by the rest of their keys after the feed and ':'
abbrev pub Trips : Type 0
Trips = List (List ℕ × Trip)

abbrev pub differential : Tree → Bool
differential m = (header m).differential

-- the header's timestamp: 64 bits read as signed
abbrev pub timestamp_in : Tree → Maybe ℤ
timestamp_in m = maybe (map int64 (header m).timestamp)

unfoldable pub entries : List ℕ → List Tree → Trips
entries feed [] = []
entries feed (e ∷ l) = entries_in feed e ++ entries feed l

-- WHAT A MESSAGE LEAVES
unfoldable pub leaves : List ℕ → Tree → Trips → Trips
leaves feed m old = puts texts (entries feed (rep 2 m)) (cond (differential m) old [])

-- `trip_update_count` after a message: the keys without '@', the feed's id included
abbrev pub has_byte : ℕ → List ℕ → Bool
has_byte c [] = false
has_byte c (b ∷ s) = eqb b c || has_byte c s

unfoldable pub count_without_at : List ℕ → Trips → ℕ
count_without_at feed [] = 0
count_without_at feed (e ∷ m) =
    cond (has_byte 64 (feed ++ 58 ∷ e.0)) (count_without_at feed m) (suc (count_without_at feed m))
