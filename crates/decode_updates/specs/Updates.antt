-- Believe: the probes' answers. The updates that stand at places of a message.
use Rattle.std.specs.Prelude.{ℕ, List}
use Rattle.decode.specs.Trip.{StopUpdate}
use Rattle.maps.specs.Map.{map_values}
use Rattle.decode_slots.specs.Index.{Place}
use Rattle.decode_slots.specs.Places.{update_at}

-- the updates that stand at places of the message s
abbrev pub updates_at : List ℕ → List (ℕ × Place) → List (ℕ × StopUpdate)
updates_at s m = map_values (update_at s) m
