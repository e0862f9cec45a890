-- Promise. The slots of an index that can be written, and the keys without '@' among them.
use Rattle.std.specs.Prelude.{ℕ, suc, ◌+◌, ◌*◌, ◌≤◌, ◌≡◌, false, cond, List, [], ◌∷◌, length, get_or}
use Rattle.formats.specs.Format.{Value}
use Rattle.decode.specs.Sizes.{key_bytes}
use Rattle.decode.specs.Trip.{trip_entry}
use Rattle.decode.specs.Leaves.{has_byte}
use Rattle.decode_slots.specs.Index.{Place, slot_place, index}
use Rattle.decode_slots.specs.Places.{held_at, held, crowded, any_crowded}
use Rattle.decode_slots.specs.Promises.Index.{SoundIndex}
use Rattle.decode_index.specs.Promises.Message.{Fit, AllFit}

-- what an entry of the index stands for
abbrev pub held_entry : List ℕ → List ℕ → List ℕ × Place → Value trip_entry
held_entry s o e = (e.0, held_at s o e.1)

-- a slot has its key and its marks
pub record KeyLies (keys marks : List ℕ) (j : ℕ) : Type 0 where
  pub marked : 3 * j + 3 ≤ length marks
  pub keyed : key_bytes * j + get_or marks (3 * j) 0 ≤ length keys

-- and a record stands at its place, of at most 128 updates
pub record GoodSlot (s o keys marks : List ℕ) (j : ℕ) : Type 0 where
  pub lies : KeyLies keys marks j
  pub fit : Fit s o (slot_place marks j)
  pub calm : crowded (held_at s o (slot_place marks j)) ≡ false

-- an index as `leave` leaves it
pub record Writable (s o keys marks order : List ℕ) (n : ℕ) : Type 0 where
  pub sound : SoundIndex keys marks order n
  pub fit : AllFit s o (index keys marks order n)
  pub calm : any_crowded (held s o (index keys marks order n)) ≡ false

-- how many keys have no '@'
unfoldable pub plain_keys : List (List ℕ × Place) → ℕ
plain_keys [] = 0
plain_keys (e ∷ m) = cond (has_byte 64 e.0) (plain_keys m) (suc (plain_keys m))
