-- Promise. What the code finds of an entity, and where its keys go.
use Rattle.std.specs.Prelude.{ℕ, ◌+◌, ◌≤◌, ◌<◌, ◌≡◌, List, [], ◌∷◌, length, take, drop}
use Rattle.std.proofs.Math.Option.{some}
use Rattle.decode.specs.Sizes.{most_trips, most_id, most_date, most_time}
use Rattle.realtime.specs.Views.{trip}
use Rattle.realtime_views.specs.Promises.Views.{part_in, view_direction}
use Rattle.realtime.specs.Tree.{Tree, tree}
use Rattle.realtime.specs.Schema.{feed_entity}
use Rattle.realtime.specs.Schema as schema
use Rattle.realtime_views.specs.declared.Trip.{Trip}
use Rattle.maps.specs.Map.{put, puts}
use Rattle.maps.specs.Order.{texts}
use Rattle.decode_slots.specs.Index.{Place, index}
use Rattle.decode_slots.specs.Promises.Index.{SoundIndex}
use Rattle.decode.specs.Trip as held
use Rattle.basics.specs.Options.{maybe}
use Rattle.decode.specs.Key.{inserts, entries_in}
use Rattle.decode.specs.Leaves.{Trips}

-- key k has gone into the index with its place: the map, and how many slots are in use
pub record Filed (keys marks order : List ℕ) (n : ℕ) (k : List ℕ) (from to : ℕ)
    (keys' marks' order' : List ℕ) (r : ℕ) : Type 0 where
  pub map : index keys' marks' order' r ≡ put texts k (from, to) (index keys marks order n)
  pub sound : SoundIndex keys' marks' order' r

-- entries, each with a place for its record
abbrev pub placed_at : Place → Trips → List (List ℕ × Place)
placed_at p [] = []
placed_at p (e ∷ l) = (e.0, p) ∷ placed_at p l

-- record u has what the keys of an entity are made of
pub record Agrees (s : List ℕ) (t : Trip) (u : held.Trip) : Type 0 where
  pub route : part_in s t.route ≡ held.route_of u
  pub direction : maybe (view_direction t.direction) ≡ held.direction_of u
  pub date : part_in s t.date ≡ held.date_of u
  pub time : part_in s t.time ≡ held.time_of u

-- the index after an entity's entries, with their place
abbrev pub entered_index : List ℕ → List ℕ → Trip → held.Trip → Place → List (List ℕ × Place) → List (List ℕ × Place)
entered_index feed s t u p m = puts texts (placed_at p (inserts feed (part_in s t.id) u)) m

-- all keys of an entity have gone into the index with its place; above 2,048 are too many, whatever follows
pub record Entered (feed s : List ℕ) (t : Trip) (from to : ℕ) (keys marks order : List ℕ) (n : ℕ)
    (keys' marks' order' : List ℕ) (r : ℕ) : Type 0 where
  pub sound : SoundIndex keys' marks' order' r
  pub few : r ≤ most_trips → (u : held.Trip) → Agrees s t u
      → index keys' marks' order' r ≡ entered_index feed s t u (from, to) (index keys marks order n)
  pub many : most_trips < r → (u : held.Trip) → Agrees s t u
      → most_trips < length (entered_index feed s t u (from, to) (index keys marks order n))

-- an entity that is not broken, with texts as long as question 5 lets them be
pub record FineEntity (s : List ℕ) (start len : ℕ) : Type 0 where
  pub entity : Tree
  pub read : tree schema.feed feed_entity (take len (drop start s)) ≡ some entity
  pub id : length (trip entity).id ≤ most_id
  pub date : length (trip entity).date ≤ most_date
  pub time : length (trip entity).time ≤ most_time
  pub route : length (trip entity).route ≤ most_id

-- the index after an entity's entries, with its place
abbrev pub applied : List ℕ → Tree → Place → List (List ℕ × Place) → List (List ℕ × Place)
applied feed e p m = puts texts (placed_at p (entries_in feed e)) m

-- an entity is applied: above 2,048 keys are too many, whatever follows
pub record Applied (feed : List ℕ) (e : Tree) (from to : ℕ) (keys marks order : List ℕ) (n : ℕ)
    (keys' marks' order' : List ℕ) (r : ℕ) : Type 0 where
  pub few : r ≤ most_trips → index keys' marks' order' r ≡ applied feed e (from, to) (index keys marks order n)
  pub many : most_trips < r → most_trips < length (applied feed e (from, to) (index keys marks order n))

pub record Applies (feed s : List ℕ) (start len : ℕ) (keys marks order : List ℕ) (n : ℕ)
    (keys' marks' order' : List ℕ) (r : ℕ) : Type 0 where
  pub sound : SoundIndex keys' marks' order' r
  pub of : (e : Tree) → tree schema.feed feed_entity (take len (drop start s)) ≡ some e
      → Applied feed e start (start + len) keys marks order n keys' marks' order' r
