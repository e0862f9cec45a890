-- Law. Document 01, "Times and status", worked on one leg: a row for each sentence and each likely slip. What is due
-- was written by hand.
use Rattle.std.specs.Prelude.{ℕ, ◌+◌, refl, cond, List, [], ◌∷◌, ℤ, pos, negsuc}
use Prim.Native.String.{String}
use Rattle.std.proofs.Common.{inl, inr}
use Rattle.std.proofs.Math.Option.{none, some}
use Rattle.basics.specs.Rows.{Row, row, Holds}
use Rattle.basics.specs.Laws.Rows.{◌also◌}
use Rattle.formats.specs.Format.{Value}
use Rattle.slices.specs.Lists.{lex_of}
use Rattle.calendar.specs.Civil.{leap_day, year_from, month_from}
use Rattle.calendar.specs.Paris.{is_summer}
use Rattle.decode.specs.Trip.{Trip, StopUpdate, update_with, trip_with}
use Rattle.basics.specs.Options.{Maybe}
use Rattle.decode.specs.Leaves.{Trips}
use Rattle.alerts.specs.Text.{text}
use Rattle.basics.specs.Texts.{same}
use Rattle.alerts.specs.Alert.{Alert}
use Rattle.overlay.specs.State.{Vehicles}
use Rattle.overlay.specs.Records.{Feeds}
use Rattle.overlay.specs.Lookup as lookup
use Rattle.journey.specs.Card.{Transit, middle}
use Rattle.journey.specs.Times as times
use Rattle.journey.specs.Enrich as enrich

-- ---- what the rows speak of: of a delay and of a time only what is given

abbrev pub absent : {A : Type 0} → Maybe A
absent = inl tt

abbrev pub late : ℕ → Maybe ℤ
late n = inr (pos n)

abbrev pub early : ℕ → Maybe ℤ
early n = inr (negsuc n)

-- 12:00 and 12:25 on 1 January 2026 in Paris, and n seconds behind them
abbrev pub noon : ℕ → Maybe ℤ
noon n = inr (pos (1767265200 + n))

abbrev pub end : ℕ → Maybe ℤ
end n = inr (pos (1767266700 + n))

-- an update: its stop; arrival's delay and time, departure's delay and time
abbrev pub update : String → Maybe ℤ → Maybe ℤ → Maybe ℤ → Maybe ℤ → StopUpdate
update stop ad at dd dt = update_with (text stop) ad at dd dt 0

abbrev pub skipped : StopUpdate
skipped = update_with [] absent absent absent absent 1

-- a record of route R on 1 January 2026: delay, cancelled, updates
abbrev pub trip : Maybe ℤ → ℕ → List (ℕ × StopUpdate) → Trip
trip delay cancelled updates = trip_with delay cancelled (text "20260101") (text "R") absent [] updates

-- feed f alone
abbrev pub feed_f : Trips → Vehicles → List Alert → Feeds
feed_f trips vehicles alerts f =
    cond (same f (text "f")) (some (record { trips = trips; vehicles = vehicles; alerts = alerts })) none

abbrev pub on : Maybe ℤ → ℕ → List (ℕ × StopUpdate) → Feeds
on delay cancelled updates = feed_f ((text "1", trip delay cancelled updates) ∷ []) [] []

-- what a leg has besides its schedule: realtime departure, arrival; delays; cancelled; place and time; middle stops
pub record Told : Type 0 where
  pub departure : Maybe ℤ
  pub arrival : Maybe ℤ
  pub departure_delay : Maybe ℤ
  pub arrival_delay : Maybe ℤ
  pub cancelled : ℕ
  pub latitude : Maybe ℕ
  pub longitude : Maybe ℕ
  pub updated : Maybe ℤ
  pub middles : List (Value middle)

-- a leg from f:A, sequence 1, to f:B, sequence 5, by its trip and scheduled departure
abbrev pub leg_of : String → ℕ → Told → Transit
leg_of trip departure t = record {
  mode = text "BUS";
  short = [];
  route = text "f:R";
  trip = text trip;
  direction = inl tt;
  from = text "f:A";
  to = text "f:B";
  from_sequence = 1;
  to_sequence = 5;
  scheduled_departure = pos departure;
  scheduled_arrival = pos 1767266700;
  realtime_departure = t.departure;
  realtime_arrival = t.arrival;
  departure_delay = t.departure_delay;
  arrival_delay = t.arrival_delay;
  cancelled = t.cancelled;
  latitude = t.latitude;
  longitude = t.longitude;
  updated = t.updated;
  middles = t.middles;
  payload = text "p";
}

abbrev pub told_of : Maybe ℤ → Maybe ℤ → Maybe ℤ → Maybe ℤ → ℕ → Told
told_of departure arrival departure_delay arrival_delay cancelled = record {
  departure = departure;
  arrival = arrival;
  departure_delay = departure_delay;
  arrival_delay = arrival_delay;
  cancelled = cancelled;
  latitude = absent;
  longitude = absent;
  updated = absent;
  middles = [];
}

-- a leg that arrived with every part, each of its own value; its middle stop's times
abbrev pub between : Maybe ℤ → Maybe ℤ → List (Value middle)
between arrival departure = (text "f:M", (pos 1767265800, (pos 1767265900, (arrival, departure)))) ∷ []

abbrev pub arrived : Told
arrived = record {
  departure = late 1;
  arrival = late 2;
  departure_delay = late 3;
  arrival_delay = late 4;
  cancelled = 1;
  latitude = inr 5;
  longitude = inr 6;
  updated = late 7;
  middles = between (late 8) (late 9);
}

-- the status of a journey of that leg alone, and the leg
abbrev pub Seen : Type 0
Seen = ℕ × Transit

abbrev pub seen_of : Feeds → String → ℕ → Told → Seen
seen_of B trip departure t =
    let l = leg_of trip departure t in (enrich.status_of B (l ∷ []), enrich.enrich_transit B l)

-- trip f:1 at noon, with nothing told
abbrev pub seen : Feeds → Seen
seen B = seen_of B "f:1" 1767265200 (told_of absent absent absent absent 0)

abbrev pub due : ℕ → Maybe ℤ → Maybe ℤ → Maybe ℤ → Maybe ℤ → ℕ → Seen
due status departure arrival departure_delay arrival_delay cancelled =
    (status, leg_of "f:1" 1767265200 (told_of departure arrival departure_delay arrival_delay cancelled))

-- the same with the leg that arrived with every part
abbrev pub seen_again : Feeds → Seen
seen_again B = seen_of B "f:1" 1767265200 arrived

abbrev pub due_again : ℕ → Told → Seen
due_again status t = (status, leg_of "f:1" 1767265200 t)

-- an event's delay by a time, scheduled at the first second of 2000
abbrev pub apart : ℕ → ℤ
apart t =
    (times.apply_time (some (text "f", trip absent 0 ((1, update "" absent (late t) absent absent) ∷ [])))
    times.arrival (pos 946684800) (inr 1) []).delay

-- the delay of a trip f:9 that only its descriptor finds
abbrev pub by_date : ℕ → Maybe ℤ
by_date at =
    (enrich.enrich_transit (on (late 60) 0 [])
    (leg_of "f:9" at (told_of absent absent absent absent 0))).departure_delay

-- alerts: of the leg's trip; of another date of it, a candidate; one that would apply and is no candidate
abbrev pub alert : List (List ℕ) → List (List ℕ) → Alert
alert trips stops = (inr (text "works"), (inl tt, (inl tt, (trips, ([], stops)))))

abbrev pub applied : Alert
applied = alert (text "f:1" ∷ []) []

abbrev pub other_date : Alert
other_date = alert (text "f:1@20260101" ∷ []) []

abbrev pub no_candidate : Alert
no_candidate = alert [] (text "f:x/A" ∷ [])

abbrev pub alerts_on : Maybe ℤ → ℕ → List Alert → Feeds
alerts_on delay cancelled alerts = feed_f ((text "1", trip delay cancelled []) ∷ []) [] alerts

abbrev pub status_of : Feeds → ℕ
status_of B = (seen B).0

-- ---- the table

unfoldable pub table : List Row
table =
    -- "Stop update: by sequence": each endpoint by its own
    row (seen (on absent 0 ((1, update "" absent absent (late 11) absent)
    ∷ (5, update "" (late 55) absent absent absent) ∷ [])))
    (due 3 (noon 11) (end 55) (late 11) (late 55) 0)
    -- "else by stop id", of several the smallest sequence
    ∷ row (seen (on absent 0 ((2, update "A" absent absent (late 20) absent)
    ∷ (3, update "A" absent absent (late 30) absent)
    ∷ (4, update "B" (late 40) absent absent absent) ∷ [])))
    (due 3 (noon 20) (end 40) (late 20) (late 40) 0)
    -- likely slip: stop id before sequence
    ∷ row (seen (on absent 0 ((1, update "Z" absent absent (late 10) absent)
    ∷ (2, update "A" absent absent (late 20) absent) ∷ [])))
    (due 3 (noon 10) (end 0) (late 10) (late 0) 0)
    -- "own absolute time, else the other event's, beats delay; the delay is the difference": of the departure
    ∷ row (seen (on absent 0 ((1, update "" absent (noon 10) (late 50) (noon 20)) ∷ [])))
    (due 3 (noon 20) (end 0) (late 20) (late 0) 0)
    ∷ row (seen (on absent 0 ((1, update "" (late 60) (noon 10) (late 50) absent) ∷ [])))
    (due 3 (noon 10) (end 0) (late 10) (late 0) 0)
    -- and of the arrival
    ∷ row (seen (on absent 0 ((5, update "" (late 50) (end 10) absent (end 20)) ∷ [])))
    (due 3 (noon 0) (end 10) (late 0) (late 10) 0)
    ∷ row (seen (on absent 0 ((5, update "" (late 50) absent (late 60) (end 20)) ∷ [])))
    (due 3 (noon 0) (end 20) (late 0) (late 20) 0)
    -- a time as scheduled is no delay, an earlier one is
    ∷ row (seen (on (late 60) 0 ((1, update "" absent absent absent (noon 0))
    ∷ (5, update "" absent (end 0) absent absent) ∷ [])))
    (due 1 (noon 0) (end 0) (late 0) (late 0) 0)
    ∷ row (seen (on absent 0 ((1, update "" absent absent absent (inr (pos 1767265190))) ∷ [])))
    (due 3 (inr (pos 1767265190)) (end 0) (early 9) (late 0) 0)
    -- "its low 32 bits read as a signed number"
    ∷ row (apart 3094168447 ∷ apart 3094168448 ∷ apart 0 ∷ [])
    (pos 2147483647 ∷ negsuc 2147483647 ∷ negsuc 946684799 ∷ [])
    -- "Otherwise own delay": of the departure, of the arrival
    ∷ row (seen (on (late 60) 0 ((1, update "" (late 45) absent (late 7) absent) ∷ [])))
    (due 3 (noon 7) (end 60) (late 7) (late 60) 0)
    ∷ row (seen (on (late 60) 0 ((5, update "" (late 45) absent (late 7) absent) ∷ [])))
    (due 3 (noon 60) (end 45) (late 60) (late 45) 0)
    -- "else the other event's, else the trip's"; likely slip: the trip's delay before the other event's
    ∷ row (seen (on (late 60) 0 ((1, update "" (late 45) absent absent absent) ∷ [])))
    (due 3 (noon 45) (end 60) (late 45) (late 60) 0)
    ∷ row (seen (on (late 60) 0 ((5, update "" absent absent (late 7) absent) ∷ [])))
    (due 3 (noon 60) (end 7) (late 60) (late 7) 0)
    ∷ row (seen (on (late 60) 0 ((1, skipped) ∷ []))) (due 3 (noon 60) (end 60) (late 60) (late 60) 0)
    -- a delay of 0 is given, too
    ∷ row (seen (on (late 60) 0 ((1, update "" absent absent (late 0) absent) ∷ [])))
    (due 3 (noon 0) (end 60) (late 0) (late 60) 0)
    -- "else 0"; "An event has realtime where an update is found": at one endpoint,
    -- "the leg takes times and delays of both"
    ∷ row (seen (on absent 0 ((1, skipped) ∷ []))) (due 1 (noon 0) (end 0) (late 0) (late 0) 0)
    ∷ row (seen (on absent 0 ((5, skipped) ∷ []))) (due 1 (noon 0) (end 0) (late 0) (late 0) 0)
    -- "a delay applies": the trip's, also 0
    ∷ row (seen (on (late 0) 0 [])) (due 1 (noon 0) (end 0) (late 0) (late 0) 0)
    ∷ row (seen (on (early 59) 0 [])) (due 3 (inr (pos 1767265140)) (inr (pos 1767266640)) (early 59) (early 59) 0)
    -- "or the trip is cancelled"; "A resolved cancelled trip marks its leg"
    ∷ row (seen (on absent 1 [])) (due 4 (noon 0) (end 0) (late 0) (late 0) 1)
    -- a record that says nothing, and no record
    ∷ row (seen (on absent 0 [])) (due 0 absent absent absent absent 0)
    ∷ row (seen (λ f. none)) (due 0 absent absent absent absent 0)
    -- "What isn't taken stays as it arrived"; likely slip: counting a leg that arrived cancelled as a cancellation
    ∷ row (seen_again (λ f. none)) (due_again 0 arrived)
    ∷ row (seen_again (on absent 0 [])) (due_again 0 arrived)
    ∷ row (seen_again (on absent 0 ((1, skipped) ∷ [])))
    (due_again 1 (record {
      departure = noon 0;
      arrival = end 0;
      departure_delay = late 0;
      arrival_delay = late 0;
      cancelled = 1;
      latitude = inr 5;
      longitude = inr 6;
      updated = late 7;
      middles = between (late 8) (late 9);
    }))
    -- "a middle event takes its own time alone": found by stop id, and not by a sequence; no status by it
    ∷ row (seen_again (on absent 0 ((3, update "M" (late 10) absent (late 20) absent) ∷ [])))
    (due_again 0 (record {
      departure = late 1;
      arrival = late 2;
      departure_delay = late 3;
      arrival_delay = late 4;
      cancelled = 1;
      latitude = inr 5;
      longitude = inr 6;
      updated = late 7;
      middles = between (late 1767265810) (late 1767265920);
    }))
    -- "The first vehicle with the leg's trip id .. gives place and time", without a record too
    ∷ row (seen_again (feed_f [] ((text "v", (inr (text "f:1"), (11, (12, pos 13)))) ∷ []) []))
    (due_again 0 (record {
      departure = late 1;
      arrival = late 2;
      departure_delay = late 3;
      arrival_delay = late 4;
      cancelled = 1;
      latitude = inr 11;
      longitude = inr 12;
      updated = late 13;
      middles = between (late 8) (late 9);
    }))
    -- look-up "with the Paris date of the scheduled departure": the last second before midnight, and midnight
    ∷ row (by_date 1767308399) (late 60)
    ∷ row (by_date 1767308400) absent
    -- "Status is the first that holds": CANCELLED before DELAYED before DISRUPTED before ON_TIME before SCHEDULED
    ∷ row (status_of (alerts_on (late 60) 1 (applied ∷ []))) 4
    ∷ row (status_of (alerts_on (late 60) 0 (applied ∷ []))) 3
    ∷ row (status_of (alerts_on (late 0) 0 (applied ∷ []))) 2
    ∷ row (status_of (alerts_on absent 0 (applied ∷ []))) 2
    ∷ row (status_of (alerts_on (late 0) 0 [])) 1
    ∷ row (status_of (alerts_on absent 0 [])) 0
    -- "an applicable candidate alert": one that isn't applicable, and one that is no candidate
    ∷ row (status_of (alerts_on absent 0 (other_date ∷ no_candidate ∷ []))) 0
    -- it "would apply" to a candidate
    ∷ row (status_of (alerts_on absent 0 (alert (text "f:1@20260101" ∷ []) (text "f:x/A" ∷ []) ∷ []))) 2
    -- "of the trip's feed": the leg's trip of feed g has no alert of f
    ∷ row (seen_of (alerts_on absent 0 (applied ∷ alert [] (text "f:A" ∷ []) ∷ []))
    "g:1" 1767308400 (told_of absent absent absent absent 0)).0 0
    ∷ []

pub worked : Holds table
unfolding table lex_of is_summer leap_day year_from month_from
    lookup.first_that lookup.feed_of lookup.trip_at lookup.get_trip lookup.route_matches lookup.find_trip_by_descriptor
    lookup.resolve_trip_rt lookup.stop_matches lookup.stop_update_by_stop_id lookup.find_stop_update
    lookup.vehicle_for_trip lookup.get_vehicle_for_trip
    times.apply_time enrich.trip_rt enrich.cancels enrich.departs enrich.arrives enrich.live enrich.late enrich.applies
    enrich.alerts_of_transit enrich.disrupted enrich.enrich_middle enrich.enrich_transit enrich.status_of
worked =
    refl also refl also refl also refl also refl also refl also refl also refl also refl
    also refl also refl also refl also refl also refl also refl also refl also refl also refl
    also refl also refl also refl also refl also refl also refl also refl also refl also refl
    also refl also refl also refl also refl also refl also refl also refl also refl also refl
    also refl also refl also refl also tt
