-- Believe: the probes' answers. What a message leaves of a feed's trips, as the code answers it: the index, or which
-- limit of question 7 it passes.
use Rattle.std.specs.Prelude.{cond, ltb, length}
use Rattle.decode.specs.Sizes.{most_trips}
use Rattle.decode.specs.Leaves.{Trips}
use Rattle.decode_slots.specs.Places.{any_crowded}

-- the trips; or more than 2,048 of them; or one of them with more than 128 updates
pub data Leaving : Type 0 where
  many_trips : Leaving
  many_updates : Leaving
  trips : Trips → Leaving

abbrev pub leaving : Trips → Leaving
leaving t = cond (ltb most_trips (length t)) many_trips (cond (any_crowded t) many_updates (trips t))
