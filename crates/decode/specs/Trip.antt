-- Believe: 01, Overlay. The record of a trip, as the state holds it: a value of a format. Route and stop ids stand
-- without the feed's prefix, and an empty text is an absent one.
use Rattle.std.specs.Prelude.{ℕ, List, ℤ, pos, negsuc}
use Rattle.formats.specs.Class.{printable}
use Rattle.formats.specs.Format.{Format, number, signed, small, text, list, ◌&◌, optional, Value}
use Rattle.decode.specs.Sizes.{most_updates, key_bytes, most_id, most_date, most_time}
use Rattle.basics.specs.Options.{Maybe}

-- the limits of questions 5 and 6
abbrev pub id : Format
id = text most_id printable

abbrev pub date : Format
date = text most_date printable

abbrev pub time : Format
time = text most_time printable

abbrev pub delay : Format
delay = signed (negsuc 2147483647) (pos 2147483647)

abbrev pub instant : Format
instant = signed (pos 0) (pos 4102444800)

abbrev pub number32 : Format
number32 = number 0 4294967295

-- stop id; delay and time of the arrival, then of the departure; skipped
abbrev pub stop_update : Format
stop_update = id & optional delay & optional instant & optional delay & optional instant & small 1

-- delay; cancelled; start date; route; direction; start time; updates, ascending by sequence
abbrev pub trip : Format
trip = optional delay & small 1 & date & id & optional number32 & time & list most_updates (number32 & stop_update)

-- a record by the rest of its key after the feed and ':'
abbrev pub trip_entry : Format
trip_entry = text key_bytes printable & trip

abbrev pub StopUpdate : Type 0
StopUpdate = Value stop_update

abbrev pub Trip : Type 0
Trip = Value trip

module _ (u : StopUpdate) where
  abbrev pub stop_of : List ℕ
  stop_of = u.0

  abbrev pub arrival_delay_of : Maybe ℤ
  arrival_delay_of = u.1.0

  abbrev pub arrival_time_of : Maybe ℤ
  arrival_time_of = u.1.1.0

  abbrev pub departure_delay_of : Maybe ℤ
  departure_delay_of = u.1.1.1.0

  abbrev pub departure_time_of : Maybe ℤ
  departure_time_of = u.1.1.1.1.0

module _ (t : Trip) where
  abbrev pub delay_of : Maybe ℤ
  delay_of = t.0

  abbrev pub cancelled_of : ℕ
  cancelled_of = t.1.0

  abbrev pub date_of : List ℕ
  date_of = t.1.1.0

  abbrev pub route_of : List ℕ
  route_of = t.1.1.1.0

  abbrev pub direction_of : Maybe ℕ
  direction_of = t.1.1.1.1.0

  abbrev pub time_of : List ℕ
  time_of = t.1.1.1.1.1.0

  abbrev pub updates_of : List (ℕ × StopUpdate)
  updates_of = t.1.1.1.1.1.1

abbrev pub update_with : List ℕ → Maybe ℤ → Maybe ℤ → Maybe ℤ → Maybe ℤ → ℕ → StopUpdate
update_with stop arrival_delay arrival_time departure_delay departure_time skipped =
    (stop, (arrival_delay, (arrival_time, (departure_delay, (departure_time, skipped)))))

abbrev pub trip_with : Maybe ℤ → ℕ → List ℕ → List ℕ → Maybe ℕ → List ℕ → List (ℕ × StopUpdate) → Trip
trip_with delay cancelled date route direction time updates =
    (delay, (cancelled, (date, (route, (direction, (time, updates))))))
