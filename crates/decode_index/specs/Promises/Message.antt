-- Promise. What the entities of a message make of an index.
use Rattle.std.specs.Prelude.{ℕ, ◌≤◌, ◌<◌, ◌≡◌, true, false, List, length}
use Rattle.decode.specs.Sizes.{most_trips}
use Rattle.basics.specs.Lists.{All}
use Rattle.realtime.specs.Tree.{tree, rep}
use Rattle.realtime.specs.Schema.{feed_message, feed_entity}
use Rattle.realtime.specs.Schema as schema
use Rattle.realtime.specs.Judge.{rules, asked}
use Rattle.realtime.specs.declared.Verdict.{Verdict}
use Rattle.maps.specs.Map.{puts}
use Rattle.maps.specs.Order.{texts}
use Rattle.decode_slots.specs.Index.{Place, index}
use Rattle.decode_slots.specs.Promises.Index.{SoundIndex}
use Rattle.decode.specs.Leaves.{Trips, entries}
use Rattle.decode_slots.specs.Places.{old_at, held, is_new, crowded}
use Rattle.decode_slots.specs.Promises.Places.{Readable}
use Rattle.decode_old.specs.Promises.Old.{OldRecord}
use Rattle.decode_index.specs.Message.{message_tree}

-- the message is within questions 4 to 6
abbrev pub JudgedMessage : List ℕ → Type 0
JudgedMessage s = asked rules feed_message (tree schema.feed feed_message s) ≡ Verdict.Fine

-- an entity can be read at a place of the message, and a record copied at one of the old overlay; that has at most 128
-- updates
pub record Fit (s o : List ℕ) (p : Place) : Type 0 where
  pub new : is_new p ≡ true → Readable feed_entity s p
  pub old : is_new p ≡ false → OldRecord o p
  pub calm : is_new p ≡ false → crowded (old_at o p) ≡ false

abbrev pub AllFit : List ℕ → List ℕ → List (List ℕ × Place) → Type 0
AllFit s o m = All (λ e. Fit s o e.1) m

-- the trips of an index, with every entity's record at its keys, over old ones
abbrev pub with_entities : List ℕ → List ℕ → Trips → Trips
with_entities feed s m = puts texts (entries feed (rep 2 (message_tree s))) m

-- every entity is applied to the index m, whatever the old overlay o is; above 2,048 keys are too many, whatever
-- follows
pub record Indexed (feed s : List ℕ) (m : List (List ℕ × Place)) (keys marks order : List ℕ) (r : ℕ) : Type 0 where
  pub sound : SoundIndex keys marks order r
  pub few : r ≤ most_trips → (o : List ℕ) → held s o (index keys marks order r) ≡ with_entities feed s (held s o m)
  pub many : most_trips < r → (o : List ℕ) → most_trips < length (with_entities feed s (held s o m))
  pub fit : r ≤ most_trips → (o : List ℕ) → AllFit s o m → AllFit s o (index keys marks order r)
