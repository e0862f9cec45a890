-- Law. Document 01, "Times and status" of a whole card, and the card's form, worked. What is due was written by hand.
use Rattle.std.specs.Prelude.{ℕ, zero, suc, refl, List, [], ◌∷◌, map, ℤ, pos, negsuc}
use Prim.Native.String.{String}
use Rattle.std.proofs.Common.{inl, inr}
use Rattle.std.proofs.Math.Option
use Rattle.std.proofs.Math.Option.{some}
use Rattle.basics.specs.Rows.{Row, row, Holds}
use Rattle.basics.specs.Laws.Rows.{◌also◌}
use Rattle.formats.specs.Format.{Value, read, write}
use Rattle.slices.specs.Lists.{lex_of}
use Rattle.calendar.specs.Civil.{leap_day, year_from, month_from}
use Rattle.calendar.specs.Paris.{is_summer}
use Rattle.basics.specs.Options.{Maybe}
use Rattle.alerts.specs.Text.{text}
use Rattle.alerts.specs.Alert.{Alert}
use Rattle.overlay.specs.Records.{Feeds}
use Rattle.overlay.specs.Lookup as lookup
use Rattle.journey.specs.Card.{Transit, Card, leg, card, transit_value, card_of, card_value}
use Rattle.journey.specs.Times as times
use Rattle.journey.specs.Enrich as enrich
use Rattle.journey.proofs.Laws.Worked.{absent, late, noon, end, trip, feed_f, leg_of, told_of}

-- ---- what the rows speak of

-- feed f: trip 1 is late by 60, trip 2 early by 60, trip 3 says nothing, trip 4 is cancelled
abbrev pub feeds : List Alert → Feeds
feeds alerts =
    feed_f ((text "1", trip (late 60) 0 []) ∷ (text "2", trip (inr (negsuc 59)) 0 []) ∷ (text "3", trip absent 0 [])
    ∷ (text "4", trip absent 1 []) ∷ []) [] alerts

-- a leg by its trip: realtime departure and arrival, their delays, cancelled
abbrev pub ride : String → Maybe ℤ → Maybe ℤ → Maybe ℤ → Maybe ℤ → ℕ → Value leg
ride trip departure arrival departure_delay arrival_delay cancelled =
    inr (transit_value (leg_of trip 1767265200 (told_of departure arrival departure_delay arrival_delay cancelled)))

abbrev pub plain : String → Value leg
plain trip = ride trip absent absent absent absent 0

abbrev pub walk : String → Value leg
walk payload = inl (text payload)

abbrev pub card_with : ℤ → ℤ → ℤ → ℕ → List String → List (Value leg) → Card
card_with departure arrival duration status headers legs = record {
  departure = departure;
  arrival = arrival;
  duration = duration;
  status = status;
  headers = map text headers;
  legs = legs;
}

-- a card that arrives at 100 to 400, with a duration, a status and a header that are dropped
abbrev pub finished : List Alert → List (Value leg) → Card
finished alerts legs =
    enrich.enrich_with_realtime (feeds alerts) (card_with (pos 100) (pos 400) (pos 7) 3 ("old" ∷ []) legs)

-- alerts of a trip, with a header or a description
abbrev pub alert : Maybe (List ℕ) → Maybe (List ℕ) → String → Alert
alert header description trip = (header, (description, (inl tt, (text trip ∷ [], ([], [])))))

abbrev pub headed : String → String → Alert
headed h trip = alert (inr (text h)) absent trip

-- n letters of two bytes each
abbrev pub accented : ℕ → List ℕ
accented zero = []
accented (suc n) = 0xc3 ∷ 0xa9 ∷ accented n

abbrev pub labels : List Alert → List String → List (List ℕ)
labels alerts trips = (finished alerts (map plain trips)).headers

-- every part of a card, each of its own value
abbrev pub whole : Transit
whole = record {
  mode = 66 ∷ [];
  short = 115 ∷ [];
  route = 114 ∷ [];
  trip = 116 ∷ [];
  direction = inr 5;
  from = 102 ∷ [];
  to = 111 ∷ [];
  from_sequence = 7;
  to_sequence = 300;
  scheduled_departure = pos 10;
  scheduled_arrival = pos 11;
  realtime_departure = inr (pos 12);
  realtime_arrival = inr (pos 13);
  departure_delay = inr (negsuc 1);
  arrival_delay = inr (pos 15);
  cancelled = 1;
  latitude = inr 72623859790382856;
  longitude = inr 9;
  updated = inr (pos 16);
  middles =
      (109 ∷ [], (pos 17, (pos 18, (inr (pos 19), inr (pos 20)))))
      ∷ (110 ∷ [], (pos 17, (pos 18, (inl tt, inr (pos 20)))))
      ∷ [];
  payload = 112 ∷ 113 ∷ [];
}

abbrev pub bare : Transit
bare = record {
  mode = [];
  short = [];
  route = [];
  trip = [];
  direction = inl tt;
  from = [];
  to = [];
  from_sequence = 1;
  to_sequence = 2;
  scheduled_departure = pos 3;
  scheduled_arrival = pos 4;
  realtime_departure = inl tt;
  realtime_arrival = inr (pos 5);
  departure_delay = inr (pos 6);
  arrival_delay = inl tt;
  cancelled = 0;
  latitude = inl tt;
  longitude = inl tt;
  updated = inl tt;
  middles = [];
  payload = [];
}

abbrev pub formed : Card
formed = record {
  departure = pos 64;
  arrival = negsuc 0;
  duration = negsuc 64;
  status = 3;
  headers = (97 ∷ []) ∷ (98 ∷ 99 ∷ []) ∷ [];
  legs = inl (119 ∷ []) ∷ inr (transit_value whole) ∷ inr (transit_value bare) ∷ [];
}

-- 1; departure 64, arrival -1, duration -65; status; headers; walk; mode, short name, route, trip; direction; from, to;
-- sequences; schedule; realtime; delays; cancelled; latitude, longitude, updated; middle stops; payload; the bare leg
abbrev pub bytes : List ℕ
bytes =
    1 ∷ 0x80 ∷ 1 ∷ 1 ∷ 0x81 ∷ 1 ∷ 3
    ∷ 2 ∷ 1 ∷ 97 ∷ 2 ∷ 98 ∷ 99
    ∷ 3 ∷ 0 ∷ 1 ∷ 119
    ∷ 1 ∷ 1 ∷ 66 ∷ 1 ∷ 115 ∷ 1 ∷ 114 ∷ 1 ∷ 116 ∷ 1 ∷ 5 ∷ 1 ∷ 102 ∷ 1 ∷ 111
    ∷ 7 ∷ 0xac ∷ 2 ∷ 20 ∷ 22 ∷ 1 ∷ 24 ∷ 1 ∷ 26 ∷ 1 ∷ 3 ∷ 1 ∷ 30 ∷ 1
    ∷ 1 ∷ 8 ∷ 7 ∷ 6 ∷ 5 ∷ 4 ∷ 3 ∷ 2 ∷ 1 ∷ 1 ∷ 9 ∷ 0 ∷ 0 ∷ 0 ∷ 0 ∷ 0 ∷ 0 ∷ 0 ∷ 1 ∷ 32
    ∷ 2 ∷ 1 ∷ 109 ∷ 34 ∷ 36 ∷ 1 ∷ 38 ∷ 1 ∷ 40 ∷ 1 ∷ 110 ∷ 34 ∷ 36 ∷ 0 ∷ 1 ∷ 40
    ∷ 2 ∷ 112 ∷ 113
    ∷ 1 ∷ 0 ∷ 0 ∷ 0 ∷ 0 ∷ 0 ∷ 0 ∷ 0 ∷ 1 ∷ 2 ∷ 6 ∷ 8 ∷ 0 ∷ 1 ∷ 10 ∷ 1 ∷ 12 ∷ 0 ∷ 0 ∷ 0 ∷ 0 ∷ 0 ∷ 0 ∷ 0 ∷ []

-- ---- the table

unfoldable pub table : List Row
table =
    -- "The first transit leg's realtime departure and the last one's realtime arrival .. become the card's; the
    -- duration is always the card's arrival minus departure. Walk legs don't change."
    row (finished [] (walk "a" ∷ plain "f:1" ∷ walk "b" ∷ plain "f:3" ∷ plain "f:2" ∷ walk "c" ∷ []))
    (card_with (pos 1767265260) (pos 1767266640) (pos 1380) 3 []
    (walk "a" ∷ ride "f:1" (noon 60) (end 60) (late 60) (late 60) 0 ∷ walk "b" ∷ plain "f:3"
    ∷ ride "f:2" (inr (pos 1767265140)) (inr (pos 1767266640)) (inr (negsuc 59)) (inr (negsuc 59)) 0 ∷ walk "c" ∷ []))
    -- "where present": the first and the last leg alone are asked
    ∷ row (finished [] (plain "f:3" ∷ plain "f:1" ∷ plain "f:3" ∷ []))
    (card_with (pos 100) (pos 400) (pos 300) 3 []
    (plain "f:3" ∷ ride "f:1" (noon 60) (end 60) (late 60) (late 60) 0 ∷ plain "f:3" ∷ []))
    -- what arrived is present, too
    ∷ row (finished [] (ride "f:3" (late 90) (late 500) absent absent 1 ∷ []))
    (card_with (pos 90) (pos 500) (pos 410) 0 [] (ride "f:3" (late 90) (late 500) absent absent 1 ∷ []))
    ∷ row (finished [] (ride "f:3" absent (late 50) absent absent 0 ∷ []))
    (card_with (pos 100) (pos 50) (negsuc 49) 0 [] (ride "f:3" absent (late 50) absent absent 0 ∷ []))
    -- no transit leg
    ∷ row (finished [] (walk "a" ∷ [])) (card_with (pos 100) (pos 400) (pos 300) 0 [] (walk "a" ∷ []))
    ∷ row (finished [] []) (card_with (pos 100) (pos 400) (pos 300) 0 [] [])
    -- "Status is the first that holds", over all legs
    ∷ row (finished [] (plain "f:1" ∷ plain "f:4" ∷ [])).status 4
    ∷ row (finished (headed "a" "f:3" ∷ []) (plain "f:3" ∷ plain "f:1" ∷ [])).status 3
    ∷ row (finished (headed "a" "f:3" ∷ []) (plain "f:3" ∷ plain "f:3" ∷ [])).status 2
    -- "Headers are strictly ascending by bytes": of every leg, each once, in every status
    ∷ row (labels (headed "b" "f:1" ∷ headed "B" "f:4" ∷ headed "a" "f:1" ∷ headed "ab" "f:1"
    ∷ headed "b" "f:4" ∷ []) ("f:1" ∷ "f:4" ∷ []))
    (text "B" ∷ text "a" ∷ text "ab" ∷ text "b" ∷ [])
    -- "the label is the header itself, or else the description"; "an empty text gives no label"
    ∷ row (labels (alert absent (inr (text "d")) "f:1" ∷ alert (inr (text "h")) (inr (text "e")) "f:1"
    ∷ alert (inr []) (inr (text "x")) "f:1" ∷ alert absent (inr []) "f:1"
    ∷ alert absent absent "f:1" ∷ []) ("f:1" ∷ []))
    (text "d" ∷ text "h" ∷ [])
    -- "or else the description's first 120 characters"; likely slip: cutting at 120 bytes. A header isn't cut
    ∷ row (labels (alert absent (inr (accented 121)) "f:1" ∷ []) ("f:1" ∷ [])) (accented 120 ∷ [])
    ∷ row (labels (alert (inr (accented 121)) absent "f:1" ∷ []) ("f:1" ∷ [])) (accented 121 ∷ [])
    -- one of another trip gives none
    ∷ row (labels (headed "a" "f:2" ∷ []) ("f:1" ∷ [])) []
    -- the card's form, byte for byte, written and read
    ∷ row (write card (card_value formed)) bytes
    ∷ row (Option.map {B = Card × List ℕ} (λ p. (card_of p.0, p.1)) (read card bytes)) (some (formed, []))
    ∷ []

pub worked : Holds table
unfolding table lex_of is_summer leap_day year_from month_from
    lookup.first_that lookup.feed_of lookup.trip_at lookup.get_trip lookup.route_matches lookup.find_trip_by_descriptor
    lookup.resolve_trip_rt lookup.stop_matches lookup.stop_update_by_stop_id lookup.find_stop_update
    lookup.vehicle_for_trip lookup.get_vehicle_for_trip
    times.apply_time enrich.trip_rt enrich.cancels enrich.departs enrich.arrives enrich.live enrich.late enrich.applies
    enrich.alerts_of_transit enrich.disrupted enrich.enrich_middle enrich.enrich_transit enrich.status_of
    enrich.labels_of
    enrich.headers_of enrich.enrich_with_realtime
worked =
    refl also refl also refl also refl also refl also refl also refl also refl also refl
    also refl also refl also refl also refl also refl also refl also refl also tt
