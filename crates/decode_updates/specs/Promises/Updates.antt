-- Promise. The updates of a trip record by the places of its updates, and the records of the index that have more
-- than 128.
use Rattle.std.specs.Prelude.{ℕ, ◌≤◌, ◌<◌, min, ◌≡◌, Bool, true, false, ◌&&◌, ◌||◌, List, [], ◌∷◌, length, take, drop}
use Rattle.std.proofs.Math.Option.{some}
use Rattle.decode.specs.Sizes.{most_updates, order_length}
use Rattle.decode_updates.specs.Promises.Line.{most_lines, Lined}
use Rattle.basics.specs.Lists.{All}
use Rattle.realtime.specs.Tree.{Tree, tree, sub, rep}
use Rattle.realtime.specs.Schema.{feed_entity, stop_time_update}
use Rattle.realtime.specs.Schema as schema
use Rattle.decode.specs.Record.{updates_in, trip_in}
use Rattle.decode_slots.specs.Index.{Place, slot_place}
use Rattle.decode_updates.specs.Line.{laid}
use Rattle.decode_slots.specs.Places.{record_at, is_new, crowded}
use Rattle.decode_slots.specs.Promises.Places.{Readable}
use Rattle.decode_updates.specs.Updates.{updates_at}

-- the first r places of u are those of the updates of entity e, and each can be read; above 128 are too many, whatever
-- follows
pub record HoldsUpdates (s u : List ℕ) (r : ℕ) (e : Tree) : Type 0 where
  pub few : r ≤ most_updates → updates_at s (laid r u) ≡ updates_in e
  pub many : most_updates < r → most_updates < length (updates_in e)
  pub readable : All (λ x. Readable stop_time_update s x.1) (laid r u)

-- THE UPDATES of the entity in `len` bytes at `start`
pub record ListedUpdates (s : List ℕ) (start len : ℕ) (u : List ℕ) (r : ℕ) : Type 0 where
  pub lined : Lined u r
  pub of : (e : Tree) → tree schema.feed feed_entity (take len (drop start s)) ≡ some e → HoldsUpdates s u r e

-- THE ANSWER r of how many there are, before a later one at a sequence is over an earlier one; above 128 it is 129
pub record Counted (s : List ℕ) (start len : ℕ) (r : ℕ) : Type 0 where
  pub of : (e : Tree) → tree schema.feed feed_entity (take len (drop start s)) ≡ some e
      → r ≡ min most_lines (length (rep 2 (sub 3 e)))

-- THE ANSWER r of whether its record has more than 128
pub record CrowdedRead (s : List ℕ) (start len : ℕ) (r : Bool) : Type 0 where
  pub of : (e : Tree) → tree schema.feed feed_entity (take len (drop start s)) ≡ some e → r ≡ crowded (trip_in e)

-- a place whose record, where it is of the message, is not broken
abbrev pub ReadableNew : List ℕ → Place → Type 0
ReadableNew s p = is_new p ≡ true → Readable feed_entity s p

-- a slot of the index at such a place
abbrev pub ReadableSlot : List ℕ → List ℕ → ℕ → Type 0
ReadableSlot s marks j = (j < order_length) × ReadableNew s (slot_place marks j)

-- whether the record at a place is of the message, and has more than 128 updates
unfoldable pub crowded_at : List ℕ → Place → Bool
crowded_at s p = is_new p && crowded (record_at s p)

-- WHETHER ONE OF THE SLOTS has such a record
unfoldable pub crowded_in : List ℕ → List ℕ → List ℕ → Bool
crowded_in s marks [] = false
crowded_in s marks (j ∷ l) = crowded_at s (slot_place marks j) || crowded_in s marks l
