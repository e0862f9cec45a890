-- Believe: the probes' answers. What stands at a place of the index: an entity of the message, or a record of the
-- old overlay.
use Rattle.std.specs.Prelude.{ℕ, ◌-◌, Bool, false, cond, ◌||◌, List, [], ◌∷◌, ltb, length, take, drop}
use Rattle.std.proofs.Math.Option.{Option, none, some}
use Rattle.formats.specs.Format.{read}
use Rattle.realtime.specs.Tree.{Tree, end, tree}
use Rattle.realtime.specs.Schema.{feed_entity, stop_time_update}
use Rattle.realtime.specs.Schema as schema
use Rattle.decode.specs.Sizes.{most_updates, beyond}
use Rattle.decode.specs.Trip.{StopUpdate, Trip, trip, updates_of}
use Rattle.maps.specs.Map.{map_values}
use Rattle.decode.specs.Record.{update_in, trip_in}
use Rattle.decode_slots.specs.Index.{Place}
use Rattle.decode.specs.Leaves.{Trips}

abbrev pub bytes_in : List ℕ → Place → List ℕ
bytes_in s p = take (p.1 - p.0) (drop p.0 s)

-- what is broken counts as empty: no place of the index has it
abbrev pub or_end : Option Tree → Tree
or_end none = end
or_end (some m) = m

unfoldable pub record_at : List ℕ → Place → Trip
record_at s p = trip_in (or_end (tree schema.feed feed_entity (bytes_in s p)))

unfoldable pub update_at : List ℕ → Place → StopUpdate
update_at s p = update_in (or_end (tree schema.feed stop_time_update (bytes_in s p)))

-- a place of the message; the others are those of the old overlay's bytes
abbrev pub is_new : Place → Bool
is_new p = ltb p.0 beyond

abbrev pub or_no_trip : Option (Trip × List ℕ) → Trip
or_no_trip none = trip_in end
or_no_trip (some r) = r.0

unfoldable pub old_at : List ℕ → Place → Trip
old_at o p = or_no_trip (read trip (bytes_in o (p.0 - beyond, p.1 - beyond)))

abbrev pub held_at : List ℕ → List ℕ → Place → Trip
held_at s o p = cond (is_new p) (record_at s p) (old_at o p)

-- THE TRIPS that an index holds, by the message s and the old overlay o
unfoldable pub held : List ℕ → List ℕ → List (List ℕ × Place) → Trips
held s o m = map_values (held_at s o) m

-- more than 128 updates in a record; in one of a feed's trips
abbrev pub crowded : Trip → Bool
crowded t = ltb most_updates (length (updates_of t))

unfoldable pub any_crowded : Trips → Bool
any_crowded [] = false
any_crowded (e ∷ m) = crowded e.1 || any_crowded m
