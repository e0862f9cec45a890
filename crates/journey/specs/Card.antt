-- Believe: 01, Cards and sheets. The journey card's form, with the limits of questions 5 to 7 on it.
use Rattle.std.specs.Prelude.{ℕ, List, ℤ, pos, negsuc}
use Rattle.formats.specs.Class.{any, utf8}
use Rattle.formats.specs.Format.{Format, number, signed, small, text, float, constant, list, choice, optional, ◌&◌}
use Rattle.formats.specs.Format.{Value}
use Rattle.decode.specs.Trip.{id, delay, number32}
use Rattle.basics.specs.Options.{Maybe}

-- a scheduled time, and any other time of a card
abbrev pub scheduled : Format
scheduled = signed (pos 946684800) (pos 2145916799)

abbrev pub card_time : Format
card_time = signed (negsuc 1200798847) (pos 4293400446)

abbrev pub duration : Format
duration = signed (negsuc 5494199293) (pos 5494199294)

abbrev pub payload : Format
payload = text 2048 any

-- stop; scheduled arrival, departure; realtime arrival, departure
abbrev pub middle : Format
middle = id & scheduled & scheduled & optional card_time & optional card_time

-- mode, short name, route, trip; direction; from, to stop; two sequences; scheduled departure, arrival; realtime
-- departure, arrival; delays likewise;
-- cancelled; latitude, longitude, updated; middle stops; payload
abbrev pub transit : Format
transit =
    id & id & id & id & optional (number 0 255) & id & id & number32 & number32 & scheduled & scheduled
    & optional card_time & optional card_time & optional delay & optional delay & small 1
    & optional float & optional float & optional card_time & list 64 middle & payload

-- a walk's payload, or a transit leg
abbrev pub leg : Format
leg = choice payload transit

-- departure, arrival, duration; status; headers; legs
abbrev pub card : Format
card = constant 1 & card_time & card_time & duration & small 4 & list 1024 (text 512 utf8) & list 16 leg

-- ---- the same with names

pub record Middle : Type 0 where
  pub stop : List ℕ
  pub scheduled_arrival : ℤ
  pub scheduled_departure : ℤ
  pub realtime_arrival : Maybe ℤ
  pub realtime_departure : Maybe ℤ

pub record Transit : Type 0 where
  pub mode : List ℕ
  pub short : List ℕ
  pub route : List ℕ
  pub trip : List ℕ
  pub direction : Maybe ℕ
  pub from : List ℕ
  pub to : List ℕ
  pub from_sequence : ℕ
  pub to_sequence : ℕ
  pub scheduled_departure : ℤ
  pub scheduled_arrival : ℤ
  pub realtime_departure : Maybe ℤ
  pub realtime_arrival : Maybe ℤ
  pub departure_delay : Maybe ℤ
  pub arrival_delay : Maybe ℤ
  pub cancelled : ℕ
  pub latitude : Maybe ℕ
  pub longitude : Maybe ℕ
  pub updated : Maybe ℤ
  pub middles : List (Value middle)
  pub payload : List ℕ

pub record Card : Type 0 where
  pub departure : ℤ
  pub arrival : ℤ
  pub duration : ℤ
  pub status : ℕ
  pub headers : List (List ℕ)
  pub legs : List (Value leg)

abbrev pub middle_of : Value middle → Middle
middle_of (stop, (sa, (sd, (ra, rd)))) = record {
  stop = stop;
  scheduled_arrival = sa;
  scheduled_departure = sd;
  realtime_arrival = ra;
  realtime_departure = rd;
}

abbrev pub transit_of : Value transit → Transit
transit_of
    (m, (s, (r, (t, (d, (f, (o, (fs, (os, (sd, (sa, (rd, (ra, (dd, (da, (c, (la, (lo, (u, (ms, p)))))))))))))))))))) =
    record {
      mode = m;
      short = s;
      route = r;
      trip = t;
      direction = d;
      from = f;
      to = o;
      from_sequence = fs;
      to_sequence = os;
      scheduled_departure = sd;
      scheduled_arrival = sa;
      realtime_departure = rd;
      realtime_arrival = ra;
      departure_delay = dd;
      arrival_delay = da;
      cancelled = c;
      latitude = la;
      longitude = lo;
      updated = u;
      middles = ms;
      payload = p;
    }

abbrev pub card_of : Value card → Card
card_of (x, (d, (a, (u, (s, (h, l)))))) =
    record { departure = d; arrival = a; duration = u; status = s; headers = h; legs = l }

abbrev pub middle_value : Middle → Value middle
middle_value m = (m.stop, (m.scheduled_arrival, (m.scheduled_departure, (m.realtime_arrival, m.realtime_departure))))

abbrev pub transit_value : Transit → Value transit
transit_value t = (
  t.mode,
  (
    t.short,
    (
      t.route,
      (
        t.trip,
        (
          t.direction,
          (
            t.from,
            (
              t.to,
              (
                t.from_sequence,
                (
                  t.to_sequence,
                  (
                    t.scheduled_departure,
                    (
                      t.scheduled_arrival,
                      (
                        t.realtime_departure,
                        (
                          t.realtime_arrival,
                          (
                            t.departure_delay,
                            (
                              t.arrival_delay,
                              (t.cancelled, (t.latitude, (t.longitude, (t.updated, (t.middles, t.payload))))),
                            ),
                          ),
                        ),
                      ),
                    ),
                  ),
                ),
              ),
            ),
          ),
        ),
      ),
    ),
  ),
)

abbrev pub card_value : Card → Value card
card_value c = (tt, (c.departure, (c.arrival, (c.duration, (c.status, (c.headers, c.legs))))))
