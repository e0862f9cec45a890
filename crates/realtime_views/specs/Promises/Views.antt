-- Promise. What the code's answers on a header, a trip and a stop time update say of the bytes.
use Rattle.std.specs.Prelude.{ℕ, ◌+◌, ◌≤◌, ◌≡◌, List, Bool, ℤ, length, take, drop, Option, Some, None}
use Rattle.std.proofs.Math.Option.{Option as LogicOption, none, some}
use Rattle.realtime.specs.Tree.{Schema, Tree, tree}
use Rattle.realtime.specs.Schema.{feed_message, feed_entity, stop_time_update}
use Rattle.realtime_views.specs.declared.TextPart.{TextPart}
use Rattle.realtime_views.specs.declared.Header.{Header}
use Rattle.realtime_views.specs.declared.Trip.{Trip}
use Rattle.realtime_views.specs.declared.Event.{Event}
use Rattle.realtime_views.specs.declared.StopUpdate.{StopUpdate}
use Rattle.realtime.specs.Views.{HeaderView, header, deleted, TripView, trip, EventView, StopView}
use Rattle.realtime.specs.Views.{stop_update}

-- what the code's answers say of the bytes s
abbrev pub part_in : List ℕ → TextPart → List ℕ
part_in s p = take p.len (drop p.start s)

abbrev pub view_timestamp : Option ℕ → LogicOption ℕ
view_timestamp (Some n) = some n
view_timestamp None = none

abbrev pub view_direction : Option ℕ → LogicOption ℕ
view_direction (Some n) = some n
view_direction None = none

abbrev pub view_delay : Option ℤ → LogicOption ℤ
view_delay (Some z) = some z
view_delay None = none

abbrev pub view_time : Option ℤ → LogicOption ℤ
view_time (Some z) = some z
view_time None = none

abbrev pub view_header : Header → HeaderView
view_header h = record { differential = h.differential; timestamp = view_timestamp h.timestamp }

abbrev pub view_trip : List ℕ → Trip → TripView
view_trip s t = record {
  id = part_in s t.id;
  time = part_in s t.time;
  date = part_in s t.date;
  route = part_in s t.route;
  cancelled = t.cancelled;
  direction = view_direction t.direction;
  delay = view_delay t.delay;
}

abbrev pub view_event : Event → EventView
view_event e = record { delay = view_delay e.delay; time = view_time e.time }

abbrev pub view_stop : List ℕ → StopUpdate → StopView
view_stop s u = record {
  sequence = u.sequence;
  stop = part_in s u.stop;
  arrival = view_event u.arrival;
  departure = view_event u.departure;
  skipped = u.skipped;
}

abbrev pub PartInside : ℕ → TextPart → Type 0
PartInside n p = p.start + p.len ≤ n

-- THE ANSWERS: where the message is not broken, they say what its tree says, and their texts lie in the bytes
pub record HeaderRead (σ : Schema) (s : List ℕ) (r : Header) : Type 0 where
  pub of : (m : Tree) → tree σ feed_message s ≡ some m → view_header r ≡ header m

pub record DeletedRead (σ : Schema) (s : List ℕ) (i l : ℕ) (r : Bool) : Type 0 where
  pub of : (e : Tree) → tree σ feed_entity (take l (drop i s)) ≡ some e → r ≡ deleted e

pub record TripRead (σ : Schema) (s : List ℕ) (i l : ℕ) (r : Trip) : Type 0 where
  pub of : (e : Tree) → tree σ feed_entity (take l (drop i s)) ≡ some e → view_trip s r ≡ trip e
  pub id : PartInside (length s) r.id
  pub time : PartInside (length s) r.time
  pub date : PartInside (length s) r.date
  pub route : PartInside (length s) r.route

pub record StopRead (σ : Schema) (s : List ℕ) (i l : ℕ) (r : StopUpdate) : Type 0 where
  pub of : (u : Tree) → tree σ stop_time_update (take l (drop i s)) ≡ some u → view_stop s r ≡ stop_update u
  pub stop : PartInside (length s) r.stop

pub record SequenceRead (σ : Schema) (s : List ℕ) (i l : ℕ) (r : ℕ) : Type 0 where
  pub of : (u : Tree) → tree σ stop_time_update (take l (drop i s)) ≡ some u → r ≡ (stop_update u).sequence
