-- Believe: 01, Wire reader. The merged header, trip and stop time update of GTFS Realtime: what the trees say.
use Rattle.std.specs.Prelude.{ℕ, List, Bool, eqb, ℤ}
use Rattle.std.proofs.Math.Option.{Option, map}
use Rattle.realtime.specs.Tree.{Tree, last, sub}
use Rattle.realtime.specs.Typed.{uint32, int32, int64, bool, enum, number_in, text_in, or_zero}
use Rattle.basics.specs.Options.{some_and}

-- The header of a message: incrementality 2, DIFFERENTIAL is 1; timestamp 3
pub record HeaderView : Type 0 where
  pub differential : Bool
  pub timestamp : Option ℕ

abbrev pub header : Tree → HeaderView
header m = record {
  differential = some_and (λ n. eqb (enum n) 1) (number_in (last 2 (sub 1 m)));
  timestamp = number_in (last 3 (sub 1 m));
}

-- is_deleted of an entity
abbrev pub deleted : Tree → Bool
deleted e = some_and bool (number_in (last 2 e))

-- The trip of an entity, by all its trip_updates, 3, and their trips, 1: trip_id 1, start_time 2, start_date 3,
-- schedule_relationship 4, CANCELED is 3, route_id 5, direction_id 6; the delay, 5, of the trip_updates. An absent
-- text is empty
pub record TripView : Type 0 where
  pub id : List ℕ
  pub time : List ℕ
  pub date : List ℕ
  pub route : List ℕ
  pub cancelled : Bool
  pub direction : Option ℕ
  pub delay : Option ℤ

abbrev pub trip_view : Tree → Tree → TripView
trip_view d u = record {
  id = text_in (last 1 d);
  time = text_in (last 2 d);
  date = text_in (last 3 d);
  route = text_in (last 5 d);
  cancelled = some_and (λ n. eqb (enum n) 3) (number_in (last 4 d));
  direction = map uint32 (number_in (last 6 d));
  delay = map int32 (number_in (last 5 u));
}

abbrev pub trip : Tree → TripView
trip e = trip_view (sub 1 (sub 3 e)) (sub 3 e)

-- A stop_time_update: stop_sequence 1, arrival 2, departure 3, stop_id 4, schedule_relationship 5, SKIPPED is 1. Of
-- an event: delay 1, time 2
pub record EventView : Type 0 where
  pub delay : Option ℤ
  pub time : Option ℤ

pub record StopView : Type 0 where
  pub sequence : ℕ
  pub stop : List ℕ
  pub arrival : EventView
  pub departure : EventView
  pub skipped : Bool

abbrev pub event : Tree → EventView
event v = record { delay = map int32 (number_in (last 1 v)); time = map int64 (number_in (last 2 v)) }

abbrev pub stop_update : Tree → StopView
stop_update u = record {
  sequence = uint32 (or_zero (number_in (last 1 u)));
  stop = text_in (last 4 u);
  arrival = event (sub 2 u);
  departure = event (sub 3 u);
  skipped = some_and (λ n. eqb (enum n) 1) (number_in (last 5 u));
}
