-- Promise. What a message leaves of a feed's trips, as the code has it: in the index, with the old trips that it
-- began with.
use Rattle.std.specs.Prelude.{ℕ, ◌≤◌, ◌≡◌, Bool, false, cond, List, [], Result, Ok, Err}
use Rattle.decode.specs.Sizes.{most_trips}
use Rattle.basics.specs.Lists.{All}
use Rattle.formats.specs.Format.{list}
use Rattle.formats_read.specs.Promises.Here.{Here}
use Rattle.formats_skip.specs.Promises.Passes.{Passes}
use Rattle.decode.specs.Trip.{trip_entry}
use Rattle.maps.specs.Map.{puts}
use Rattle.maps.specs.Order.{texts}
use Rattle.decode_slots.specs.Index.{index}
use Rattle.decode_slots.specs.Promises.Index.{SoundIndex}
use Rattle.decode.specs.Leaves.{Trips, leaves}
use Rattle.decode_slots.specs.Places.{held, crowded, any_crowded}
use Rattle.decode_old.specs.Promises.Old.{Stands, OldRecord}
use Rattle.decode_index.specs.Message.{message_tree}
use Rattle.decode_index.specs.Promises.Message.{AllFit}
use Rattle.decode_index.specs.declared.TooMany.{TooMany}
use Rattle.decode_index.specs.Leaving.{Leaving, many_trips, many_updates, trips, leaving}

-- what the code's answer says, where n slots hold these trips
abbrev pub view_left : (ℕ → Trips) → Result (ℕ × ℕ) TooMany → Leaving
view_left t (Err TooMany.Trips) = many_trips
view_left t (Err TooMany.Updates) = many_updates
view_left t (Ok (n, next)) = trips (t n)

-- a feed's trips stand in the old overlay, none with more than 128 updates
pub record Old (o : List ℕ) (at : ℕ) : Type 0 where
  pub stands : Stands o at
  pub calm : All (λ e. crowded e.1 ≡ false) stands.trips

-- the index before the entities: the old trips that stand at `at`, or none; they end at `next`
pub record Begun (o : List ℕ) (at : ℕ) (differential : Bool) (keys marks order : List ℕ) (r next : ℕ) : Type 0 where
  pub sound : SoundIndex keys marks order r
  pub few : r ≤ most_trips
  pub old : All (λ e. OldRecord o e.1) (index keys marks order r)
  pub of : (v : Trips) (q : ℕ) → Here (list most_trips trip_entry) o at q v
      → (s : List ℕ) → held s o (index keys marks order r) ≡ cond differential (puts texts v []) []
  pub passes : Passes (list most_trips trip_entry) o at next

-- THE INDEX IS WHAT THE MESSAGE LEAVES, in order. Every place of it lies forward and inside, and can be read: in the
-- message an entity, in the old overlay the record that is left; none has more than 128 updates. The old trips end at
-- `next`; those of a state ascend, and then `puts texts v []` is v (`puts_itself`)
pub record Leaves (feed s o : List ℕ) (at : ℕ) (keys marks order : List ℕ) (r : Result (ℕ × ℕ) TooMany) :
    Type 0 where
  pub sound : {n next : ℕ} → r ≡ Ok (n, next) → SoundIndex keys marks order n
  pub fit : {n next : ℕ} → r ≡ Ok (n, next) → AllFit s o (index keys marks order n)
  pub calm : {n next : ℕ} → r ≡ Ok (n, next) → any_crowded (held s o (index keys marks order n)) ≡ false
  pub passes : {n next : ℕ} → r ≡ Ok (n, next) → Passes (list most_trips trip_entry) o at next
  pub of : (v : Trips) (q : ℕ) → Here (list most_trips trip_entry) o at q v
      → view_left (λ n. held s o (index keys marks order n)) r
      ≡ leaving (leaves feed (message_tree s) (puts texts v []))
