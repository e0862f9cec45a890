-- Promise. Times of an event as the code holds them: what its values stand for.
use Rattle.std.specs.Prelude.{◌≡◌, Bool, true, List, ℕ, ◌<◌, ℤ, eqb, Option, Some, None}
use Rattle.std.proofs.Common.{inl, inr}
use Rattle.std.proofs.Math.Option.{Option as LogicOption, none, some}
use Rattle.std.specs.Int.Signed.{mag}
use Rattle.basics.specs.Options.{Maybe, or_other}
use Rattle.formats.specs.Format.{Format, Value, optional, ◌&◌}
use Rattle.formats_judge.specs.Judged.{ok}
use Rattle.formats_read.specs.Promises.Here.{Here}
use Rattle.formats_write.specs.Promises.Given.{given_signed}
use Rattle.decode.specs.Trip.{delay, instant, stop_update, trip, StopUpdate, Trip, cancelled_of}
use Rattle.overlay.specs.Lookup.{FeedTrip, find_stop_update}
use Rattle.journey.specs.Card.{scheduled}
use Rattle.journey.specs.Times as times
use Rattle.journey_times.specs.declared.StopRealtime.{StopRealtime}
use Rattle.journey_times.specs.declared.EventTimes.{EventTimes}
use Rattle.journey_times.specs.declared.Known.{Known}
use Rattle.journey_times.specs.declared.Known.TheVariants as knowns
use Rattle.journey_times.specs.declared.Event.{Event}
use Rattle.journey_times.specs.declared.Event.TheVariants as events

abbrev pub realtime_of : StopRealtime → times.StopRealtime
realtime_of r = record { time = r.time; delay = r.delay; has = r.has }

abbrev pub given_delay : Option ℤ → Maybe ℤ
given_delay None = inl tt
given_delay (Some d) = inr d

abbrev pub event_of : Event → times.Event
event_of events.Arrival = times.arrival
event_of events.Departure = times.departure

-- a value that stands from p to q, with its numbers within question 6
pub record Ranged (f : Format) (s : List ℕ) (p q : ℕ) (v : Value f) : Type 0 where
  pub here : Here f s p q v
  pub six : ok 6 f v ≡ true

-- the scheduled time at p, which leaves room for a delay
pub record Schedules (s : List ℕ) (p : ℕ) (r : ℤ) : Type 0 where
  pub small : mag r < 4611686018427387904
  pub is : {q : ℕ} {z : ℤ} → Ranged scheduled s p q z → r ≡ z

-- a delay
pub record ReadsDelay (s : List ℕ) (p : ℕ) (r : Option ℤ) : Type 0 where
  pub is : {q : ℕ} {v : Maybe ℤ} → Ranged (optional delay) s p q v → given_delay r ≡ v

-- what an update says of an event, and what stands behind it
abbrev pub event : Format → Format
event f = optional delay & (optional instant & f)

pub record ReadsEvent (s : List ℕ) (p : ℕ) (r : EventTimes) : Type 0 where
  pub late : {f : Format} {q : ℕ} {v : Value (event f)} → Ranged (event f) s p q v → given_delay r.delay ≡ v.0
  pub timed : {f : Format} {q : ℕ} {v : Value (event f)} → Ranged (event f) s p q v → given_signed r.time ≡ v.1.0

pub record PastEvent (s : List ℕ) (p r : ℕ) : Type 0 where
  pub behind : {f : Format} {q : ℕ} {v : Value (event f)} → Ranged (event f) s p q v → Ranged f s r q v.1.1

-- whether a trip is cancelled
pub record Cancels (s : List ℕ) (p : ℕ) (r : Bool) : Type 0 where
  pub is : {q : ℕ} {t : Trip} → Here trip s p q t → r ≡ eqb (cancelled_of t) 1

-- an event by what is told of it, of the stop's other event, and of the trip
abbrev pub event_by : ℤ → EventTimes → EventTimes → Option ℤ → times.StopRealtime
event_by at own other trip =
    times.timed at (or_other (given_signed own.time) (given_signed other.time))
    (times.delayed at true (or_other (or_other (given_delay own.delay) (given_delay other.delay)) (given_delay trip)))

-- an event by the record at p, with no update, and by the update at u
pub record ByTrip (at : ℤ) (s : List ℕ) (p : ℕ) (r : StopRealtime) : Type 0 where
  pub is : {q : ℕ} {t : Trip} → Ranged trip s p q t → (e : times.Event) → realtime_of r ≡ times.updated e at t none

pub record ByUpdate (e : Event) (at : ℤ) (s : List ℕ) (p u : ℕ) (r : StopRealtime) : Type 0 where
  pub is : {q x : ℕ} {t : Trip} {v : StopUpdate} → Ranged trip s p q t → Ranged stop_update s u x v
      → realtime_of r ≡ times.updated (event_of e) at t (some v)

-- what is known of a stop is what look-up finds in the record o: nothing, the record alone, or its update
abbrev pub Knows : List ℕ → Known → LogicOption FeedTrip → Maybe ℕ → List ℕ → Type 0
Knows s knowns.Nothing o sequence stop = o ≡ none
Knows s (knowns.Trip p) o sequence stop =
    (F : FeedTrip) × (o ≡ some F) × ((q : ℕ) × Ranged trip s p q F.1)
    × (find_stop_update F.0 sequence stop F.1 ≡ none)
Knows s (knowns.Update p u) o sequence stop =
    (F : FeedTrip) × (o ≡ some F) × ((q : ℕ) × Ranged trip s p q F.1)
    × ((v : StopUpdate) × (find_stop_update F.0 sequence stop F.1 ≡ some v)
    × ((x : ℕ) × Ranged stop_update s u x v))

pub record Applies (e : Event) (at : ℤ) (s : List ℕ) (k : Known) (r : StopRealtime) : Type 0 where
  pub is : (o : LogicOption FeedTrip) (sequence : Maybe ℕ) (stop : List ℕ) → Knows s k o sequence stop
      → realtime_of r ≡ times.apply_time o (event_of e) at sequence stop
