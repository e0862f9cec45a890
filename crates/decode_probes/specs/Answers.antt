-- Believe: the probes' answers. What the probes answer, by the trees of the messages.
use Rattle.std.specs.Prelude.{ℕ, Bool, false, ◌&&◌, List, ℤ, pos}
use Rattle.std.proofs.Math.Option.{Option, none, some}
use Rattle.realtime.specs.Tree.{Tree}
use Rattle.realtime.specs.declared.Verdict.{Verdict}
use Rattle.basics.specs.Texts.{same}
use Rattle.realtime.specs.Typed.{or_zero}
use Rattle.realtime.specs.Views.{HeaderView, TripView, EventView, StopView}
use Rattle.decode_probes.specs.declared.HeaderNumbers.{HeaderNumbers}
use Rattle.decode_probes.specs.declared.TripNumbers.{TripNumbers}
use Rattle.decode_probes.specs.declared.EventNumbers.{EventNumbers}
use Rattle.decode_probes.specs.declared.StopNumbers.{StopNumbers}
use Rattle.basics.specs.Options.{is_some}

-- the number of the question that has the answer no, else 0
abbrev pub question_of : Verdict → ℕ
question_of Verdict.Fine = 0
question_of Verdict.Broken = 4
question_of Verdict.Text = 5
question_of Verdict.Time = 6

abbrev pub or_nought : Option ℤ → ℤ
or_nought none = pos 0
or_nought (some n) = n

-- what a message says; of a broken one, d
abbrev pub of_whole : {A : Type 0} → A → (Tree → A) → Option Tree → A
of_whole d f none = d
of_whole d f (some m) = f m

abbrev pub header_numbers : HeaderView → HeaderNumbers
header_numbers h =
    record { differential = h.differential; timed = is_some h.timestamp; timestamp = or_zero h.timestamp }

abbrev pub no_header : HeaderNumbers
no_header = record { differential = false; timed = false; timestamp = 0 }

abbrev pub trip_numbers : Bool → Option ℕ → Option ℤ → TripNumbers
trip_numbers c d l =
    record { cancelled = c; directed = is_some d; direction = or_zero d; delayed = is_some l; delay = or_nought l }

abbrev pub trip_numbers_of : TripView → TripNumbers
trip_numbers_of t = trip_numbers t.cancelled t.direction t.delay

abbrev pub no_trip : TripNumbers
no_trip = trip_numbers false none none

-- whether the start time, the start date and the route are these
abbrev pub texts_are : TripView → List ℕ → List ℕ → List ℕ → Bool
texts_are t x y z = (same t.time x && same t.date y) && same t.route z

abbrev pub event_numbers : EventView → EventNumbers
event_numbers e =
    record {
      delayed = is_some e.delay;
      delay = or_nought e.delay;
      timed = is_some e.time;
      time = or_nought
          e.time;
    }

abbrev pub stop_numbers : ℕ → Bool → EventView → EventView → StopNumbers
stop_numbers n s a d = record { sequence = n; skipped = s; arrival = event_numbers a; departure = event_numbers d }

abbrev pub stop_numbers_of : StopView → StopNumbers
stop_numbers_of u = stop_numbers u.sequence u.skipped u.arrival u.departure

abbrev pub no_event : EventView
no_event = record { delay = none; time = none }

abbrev pub no_stop : StopNumbers
no_stop = stop_numbers 0 false no_event no_event
