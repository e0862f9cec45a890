-- Believe: 01, Times and status. Times: what a trip's record makes of a scheduled event.
use Rattle.std.specs.Prelude.{ℕ, Bool, true, false, List, ℤ, pos, ◌+ℤ◌, ◌-ℤ◌, eqb}
use Rattle.std.proofs.Common.{inl, inr}
use Rattle.std.proofs.Math.Option.{Option, none, some}
use Rattle.decode.specs.Trip.{StopUpdate, Trip, arrival_delay_of, arrival_time_of, departure_delay_of, departure_time_of}
use Rattle.decode.specs.Trip.{delay_of, cancelled_of}
use Rattle.basics.specs.Options.{Maybe, or_other}
use Rattle.overlay.specs.Lookup.{FeedTrip, find_stop_update}
use Rattle.basics.specs.Integers.{wrap32}

pub data Event : Type 0 where
  arrival departure : Event

-- of an update: the event's own time and delay, else the other event's
abbrev pub event_time : Event → StopUpdate → Maybe ℤ
event_time arrival u = or_other (arrival_time_of u) (departure_time_of u)
event_time departure u = or_other (departure_time_of u) (arrival_time_of u)

abbrev pub event_delay : Event → StopUpdate → Maybe ℤ
event_delay arrival u = or_other (arrival_delay_of u) (departure_delay_of u)
event_delay departure u = or_other (departure_delay_of u) (arrival_delay_of u)

-- the event's time and delay, and whether it has realtime
pub record StopRealtime : Type 0 where
  pub time : ℤ
  pub delay : ℤ
  pub has : Bool

-- a delay applies, or else 0; `told` where there is realtime without one
abbrev pub delayed : ℤ → Bool → Maybe ℤ → StopRealtime
delayed at told (inl x) = record { time = at; delay = pos 0; has = told }
delayed at told (inr d) = record { time = at +ℤ d; delay = d; has = true }

-- an absolute time beats any delay
abbrev pub timed : ℤ → Maybe ℤ → StopRealtime → StopRealtime
timed at (inl x) r = r
timed at (inr t) r = record { time = t; delay = wrap32 (t -ℤ at); has = true }

-- by the update that was found: its delay before the trip's
abbrev pub updated : Event → ℤ → Trip → Option StopUpdate → StopRealtime
updated e at t none = delayed at (eqb (cancelled_of t) 1) (delay_of t)
updated e at t (some u) = timed at (event_time e u) (delayed at true (or_other (event_delay e u) (delay_of t)))

-- APPLY_TIME: an event at a stop, by its sequence where one is given, else by the stop id. No record leaves it as
-- scheduled
unfoldable pub apply_time : Option FeedTrip → Event → ℤ → Maybe ℕ → List ℕ → StopRealtime
apply_time none e at sequence stop = delayed at false (inl tt)
apply_time (some r) e at sequence stop = updated e at r.1 (find_stop_update r.0 sequence stop r.1)
