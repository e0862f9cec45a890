-- Believe: 01, Times and status. The finished card: `enrich_with_realtime` on what look-up sees of the feeds.
use Rattle.std.specs.Prelude.{ℕ, Bool, true, false, cond, ◌&&◌, ◌||◌, not, List, [], ◌∷◌, map, ℤ, pos, negsuc, ◌-ℤ◌, eqb}
use Rattle.std.proofs.Common.{inl, inr}
use Rattle.std.proofs.Math.Option.{Option, none, some}
use Rattle.formats.specs.Format.{Value}
use Rattle.calendar.specs.Paris.{paris_digits}
use Rattle.decode.specs.Trip.{cancelled_of}
use Rattle.basics.specs.Options.{Maybe, given_or}
use Rattle.maps.specs.Map.{puts}
use Rattle.maps.specs.Order.{texts}
use Rattle.basics.specs.Lists.{any, filter, is_empty, concat_map}
use Rattle.alerts.specs.Alert.{Alert}
use Rattle.alerts.specs.Index.{candidate}
use Rattle.alerts.specs.Applies.{alert_applies_to_leg_with_mode}
use Rattle.alerts.specs.Label.{label}
use Rattle.overlay.specs.State.{Vehicle, latitude_of, longitude_of, updated_of}
use Rattle.overlay.specs.Records.{Records, Feeds}
use Rattle.overlay.specs.Lookup.{FeedTrip, feed_of, resolve_trip_rt, get_vehicle_for_trip}
use Rattle.journey.specs.Card.{Middle, Transit, Card, leg, middle_of, transit_of, middle_value, transit_value}
use Rattle.journey.specs.Times.{StopRealtime, arrival, departure, apply_time}

-- ---- of a transit leg, on the feeds B

-- the record of the leg's trip. Scheduled times are not below zero
abbrev pub seconds : ℤ → ℕ
seconds (pos n) = n
seconds (negsuc n) = 0

unfoldable pub trip_rt : Feeds → Transit → Option FeedTrip
trip_rt B t = resolve_trip_rt B t.trip t.route t.direction (paris_digits (seconds t.scheduled_departure))

abbrev pub is_cancelled : Option FeedTrip → Bool
is_cancelled none = false
is_cancelled (some r) = eqb (cancelled_of r.1) 1

unfoldable pub cancels : Feeds → Transit → Bool
cancels B t = is_cancelled (trip_rt B t)

-- its endpoints
unfoldable pub departs : Feeds → Transit → StopRealtime
departs B t = apply_time (trip_rt B t) departure t.scheduled_departure (inr t.from_sequence) t.from

unfoldable pub arrives : Feeds → Transit → StopRealtime
arrives B t = apply_time (trip_rt B t) arrival t.scheduled_arrival (inr t.to_sequence) t.to

-- either has realtime: the leg takes times and delays of both
unfoldable pub live : Feeds → Transit → Bool
live B t = (departs B t).has || (arrives B t).has

abbrev pub is_zero : ℤ → Bool
is_zero (pos n) = eqb n 0
is_zero (negsuc n) = false

unfoldable pub late : Feeds → Transit → Bool
late B t = live B t && not (is_zero (departs B t).delay && is_zero (arrives B t).delay)

-- the alerts of the trip's feed that are candidates and apply. The Rust asks the alerts at the numbers that the index
-- gives (`ByIndex`): status and headers are the same (Laws/ByIndex)
abbrev pub alerts_in : Option Records → List Alert
alerts_in none = []
alerts_in (some R) = R.alerts

unfoldable pub applies : Transit → Alert → Bool
applies t a =
    candidate t.trip t.route t.from t.to a
    && alert_applies_to_leg_with_mode a t.trip t.route t.short t.from t.to t.mode

unfoldable pub alerts_of_transit : Feeds → Transit → List Alert
alerts_of_transit B t = filter (applies t) (alerts_in (B (feed_of t.trip)))

unfoldable pub disrupted : Feeds → Transit → Bool
disrupted B t = any (applies t) (alerts_in (B (feed_of t.trip)))

-- ---- the leg, enriched. What isn't taken stays as it arrived

abbrev pub taken : {A : Type 0} → Bool → A → Maybe A → Maybe A
taken true a old = inr a
taken false a old = old

abbrev pub placed : {A : Type 0} → (Vehicle → A) → Option Vehicle → Maybe A → Maybe A
placed f none old = old
placed f (some v) old = inr (f v)

-- a middle stop is found by its stop id alone, and each event takes its own time
unfoldable pub enrich_middle : Option FeedTrip → Middle → Middle
enrich_middle r m =
    let a = apply_time r arrival m.scheduled_arrival (inl tt) m.stop in
    let d = apply_time r departure m.scheduled_departure (inl tt) m.stop in
    record {
      stop = m.stop;
      scheduled_arrival = m.scheduled_arrival;
      scheduled_departure = m.scheduled_departure;
      realtime_arrival = taken a.has a.time m.realtime_arrival;
      realtime_departure = taken d.has d.time m.realtime_departure;
    }

unfoldable pub enrich_transit : Feeds → Transit → Transit
enrich_transit B t =
    let v = get_vehicle_for_trip B t.trip in
    record {
      mode = t.mode;
      short = t.short;
      route = t.route;
      trip = t.trip;
      direction = t.direction;
      from = t.from;
      to = t.to;
      from_sequence = t.from_sequence;
      to_sequence = t.to_sequence;
      scheduled_departure = t.scheduled_departure;
      scheduled_arrival = t.scheduled_arrival;
      realtime_departure = taken (live B t) (departs B t).time t.realtime_departure;
      realtime_arrival = taken (live B t) (arrives B t).time t.realtime_arrival;
      departure_delay = taken (live B t) (departs B t).delay t.departure_delay;
      arrival_delay = taken (live B t) (arrives B t).delay t.arrival_delay;
      cancelled = cond (cancels B t) 1 t.cancelled;
      latitude = placed latitude_of v t.latitude;
      longitude = placed longitude_of v t.longitude;
      updated = placed updated_of v t.updated;
      middles = map (λ m. middle_value (enrich_middle (trip_rt B t) (middle_of m))) t.middles;
      payload = t.payload;
    }

-- a walk leg doesn't change
abbrev pub enrich_leg : Feeds → Value leg → Value leg
enrich_leg B (inl payload) = inl payload
enrich_leg B (inr t) = inr (transit_value (enrich_transit B (transit_of t)))

-- ---- the card

abbrev pub transits : List (Value leg) → List Transit
transits [] = []
transits (inl payload ∷ l) = transits l
transits (inr t ∷ l) = transit_of t ∷ transits l

-- the first status that holds: CANCELLED 4, DELAYED 3, DISRUPTED 2, ON_TIME 1, SCHEDULED 0
unfoldable pub status_of : Feeds → List Transit → ℕ
status_of B ts =
    cond (any (cancels B) ts) 4 (cond (any (late B) ts) 3 (cond (any (disrupted B) ts) 2 (cond (any (live B) ts) 1 0)))

-- the labels of the applied alerts, strictly ascending by bytes; an empty one is none
abbrev pub keys : {K A : Type 0} → List (K × A) → List K
keys [] = []
keys (e ∷ l) = e.0 ∷ keys l

unfoldable pub labels_of : Feeds → List Transit → List (List ℕ)
labels_of B ts = filter (λ x. not (is_empty x)) (concat_map (λ t. map label (alerts_of_transit B t)) ts)

unfoldable pub headers_of : Feeds → List Transit → List (List ℕ)
headers_of B ts = keys (puts texts (map {B = List ℕ × Unit {0}} (λ x. (x, tt)) (labels_of B ts)) [])

-- the first transit leg's realtime departure, and the last one's realtime arrival
abbrev pub first_departure : List Transit → Maybe ℤ
first_departure [] = inl tt
first_departure (t ∷ ts) = t.realtime_departure

abbrev pub last_arrival : List Transit → Maybe ℤ
last_arrival [] = inl tt
last_arrival (t ∷ []) = t.realtime_arrival
last_arrival (t ∷ u ∷ ts) = last_arrival (u ∷ ts)

-- THE FINISHED CARD
unfoldable pub enrich_with_realtime : Feeds → Card → Card
enrich_with_realtime B c =
    let arrived = transits c.legs in
    let legs = map (enrich_leg B) c.legs in
    let departure = given_or c.departure (first_departure (transits legs)) in
    let arrival = given_or c.arrival (last_arrival (transits legs)) in
    record {
      departure = departure;
      arrival = arrival;
      duration = arrival -ℤ departure;
      status = status_of B arrived;
      headers = headers_of B arrived;
      legs = legs;
    }
