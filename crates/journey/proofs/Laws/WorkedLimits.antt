-- Law. Document 01, questions 5 to 7, worked: each limit met, and passed by one. What is due was written by hand.
use Rattle.std.specs.Prelude.{ℕ, refl, Bool, true, false, List, [], ◌∷◌, pos, negsuc, replicate}
use Rattle.std.proofs.Common.{inl, inr}
use Rattle.basics.specs.Rows.{Row, row, Holds}
use Rattle.basics.specs.Laws.Rows.{◌also◌}
use Rattle.basics.specs.Options.{Maybe}
use Rattle.formats.specs.Format.{Format, Value}
use Rattle.formats_judge.specs.Judged.{ok}
use Rattle.decode.specs.Trip as trips
use Rattle.alerts.specs.Alert as alerts
use Rattle.overlay.specs.State as state
use Rattle.journey.specs.Card.{scheduled, card_time, duration, payload, transit, card, transit_value}

-- ---- what the rows speak of

-- a question's answers at a limit and one past it
abbrev pub asked : ℕ → (f : Format) → Value f → Value f → List Bool
asked q f last past = ok q f last ∷ ok q f past ∷ []

abbrev pub yes_no : List Bool
yes_no = true ∷ false ∷ []

abbrev pub letters : ℕ → List ℕ
letters n = replicate n 97

-- an alert's header, description, cause, and one of its lists
abbrev pub alert : Maybe (List ℕ) → Maybe (List ℕ) → Maybe (List ℕ) → List (List ℕ) → Value alerts.alert
alert header description cause trips = (header, (description, (cause, (trips, ([], [])))))

abbrev pub headed : List ℕ → Value alerts.alert
headed x = alert (inr x) (inl tt) (inl tt) []

-- a leg's direction, sequences and middle stops
abbrev pub ride : ℕ → ℕ → ℕ → ℕ → Value transit
ride direction from to stops = transit_value (record {
  mode = [];
  short = [];
  route = [];
  trip = [];
  direction = inr direction;
  from = [];
  to = [];
  from_sequence = from;
  to_sequence = to;
  scheduled_departure = pos 946684800;
  scheduled_arrival = pos 946684800;
  realtime_departure = inl tt;
  realtime_arrival = inl tt;
  departure_delay = inl tt;
  arrival_delay = inl tt;
  cancelled = 0;
  latitude = inl tt;
  longitude = inl tt;
  updated = inl tt;
  middles = replicate stops ([], (pos 946684800, (pos 946684800, (inl tt, inl tt))));
  payload = [];
})

-- a card's headers and legs
abbrev pub carded : ℕ → ℕ → Value card
carded headers legs = (tt, (pos 0, (pos 0, (pos 0, (0, (replicate headers (letters 1), replicate legs (inl [])))))))

-- a trip's updates; a feed's trips, vehicles and alerts; a state's feeds
abbrev pub updated : ℕ → Value trips.trip
updated n =
    trips.trip_with (inl tt) 0 [] [] (inl tt) []
    (replicate n (0, trips.update_with [] (inl tt) (inl tt) (inl tt) (inl tt) 0))

abbrev pub fed : ℕ → ℕ → ℕ → Value state.feed
fed n vehicles alerts =
    state.feed_with (inl tt) 0 (replicate n ([], updated 0)) (replicate vehicles ([], (inl tt, (0, (0, pos 0)))))
    (replicate alerts (alert (inl tt) (inl tt) (inl tt) []))

-- ---- the table

unfoldable pub table : List Row
table =
    -- "Feed id 1 to 16 bytes of 33 to 126 without ':'?"
    row (asked 5 state.feed_entry (letters 16, state.no_feed) (letters 17, state.no_feed)) yes_no
    ∷ row (asked 5 state.feed_entry (33 ∷ 126 ∷ [], state.no_feed) ([], state.no_feed)) yes_no
    ∷ row (asked 5 state.feed_entry (59 ∷ [], state.no_feed) (58 ∷ [], state.no_feed)) yes_no
    ∷ row (asked 5 state.feed_entry (33 ∷ [], state.no_feed) (32 ∷ [], state.no_feed)) yes_no
    ∷ row (asked 5 state.feed_entry (126 ∷ [], state.no_feed) (127 ∷ [], state.no_feed)) yes_no
    -- "Ids (vehicle keys too), short names, modes at most 64 bytes, dates and start times 16, all of 32 to 126?"
    ∷ row (asked 5 trips.id (letters 64) (letters 65)) yes_no
    ∷ row (asked 5 trips.id (32 ∷ 126 ∷ []) (31 ∷ [])) yes_no
    ∷ row (asked 5 trips.id [] (127 ∷ [])) yes_no
    ∷ row (asked 5 trips.date (letters 16) (letters 17)) yes_no
    ∷ row (asked 5 trips.time (letters 16) (letters 17)) yes_no
    -- "Header (512 bytes), description (2,048), cause (64) in UTF-8?"
    ∷ row (asked 5 alerts.alert (headed (letters 512)) (headed (letters 513))) yes_no
    ∷ row (asked 5 alerts.alert (alert (inl tt) (inr (letters 2048)) (inl tt) [])
    (alert (inl tt) (inr (letters 2049)) (inl tt) [])) yes_no
    ∷ row (asked 5 alerts.alert (alert (inl tt) (inl tt) (inr (letters 64)) [])
    (alert (inl tt) (inl tt) (inr (letters 65)) [])) yes_no
    ∷ row (asked 5 alerts.alert (headed (0xc3 ∷ 0xa9 ∷ [])) (headed (0xc3 ∷ []))) yes_no
    ∷ row (asked 5 alerts.alert (headed (0xed ∷ 0x9f ∷ 0xbf ∷ [])) (headed (0xed ∷ 0xa0 ∷ 0x80 ∷ []))) yes_no
    ∷ row (asked 5 alerts.alert (headed (0xf4 ∷ 0x8f ∷ 0xbf ∷ 0xbf ∷ [])) (headed (0xf4 ∷ 0x90 ∷ 0x80 ∷ 0x80 ∷ [])))
    yes_no
    -- "Payload at most 2,048, of any bytes?"
    ∷ row (asked 5 payload (replicate 2048 255) (replicate 2049 255)) yes_no
    -- "Scheduled 946,684,800 to 2,145,916,799"
    ∷ row (asked 6 scheduled (pos 946684800) (pos 946684799)) yes_no
    ∷ row (asked 6 scheduled (pos 2145916799) (pos 2145916800)) yes_no
    -- "feed, vehicle-sheet and clock times 0 to 4,102,444,800"
    ∷ row (asked 6 trips.instant (pos 0) (negsuc 0)) yes_no
    ∷ row (asked 6 trips.instant (pos 4102444800) (pos 4102444801)) yes_no
    -- "other card times −1,200,798,848 to 4,293,400,446"
    ∷ row (asked 6 card_time (negsuc 1200798847) (negsuc 1200798848)) yes_no
    ∷ row (asked 6 card_time (pos 4293400446) (pos 4293400447)) yes_no
    -- "duration within ±5,494,199,294"
    ∷ row (asked 6 duration (negsuc 5494199293) (negsuc 5494199294)) yes_no
    ∷ row (asked 6 duration (pos 5494199294) (pos 5494199295)) yes_no
    -- "a card's direction 0 to 255, its sequences and delays in 32 bits?"
    ∷ row (asked 6 transit (ride 255 0 0 0) (ride 256 0 0 0)) yes_no
    ∷ row (asked 6 transit (ride 0 4294967295 0 0) (ride 0 4294967296 0 0)) yes_no
    ∷ row (asked 6 transit (ride 0 0 4294967295 0) (ride 0 0 4294967296 0)) yes_no
    ∷ row (asked 6 trips.delay (negsuc 2147483647) (negsuc 2147483648)) yes_no
    ∷ row (asked 6 trips.delay (pos 2147483647) (pos 2147483648)) yes_no
    -- "Header timestamps may be anything"
    ∷ row (asked 6 state.timestamp (negsuc 9223372036854775807) (negsuc 9223372036854775808)) yes_no
    ∷ row (asked 6 state.timestamp (pos 9223372036854775807) (pos 9223372036854775808)) yes_no
    -- "at most 4 feeds; per feed 2,048 trip keys, 256 alerts, 1,024 vehicles; 128 updates a trip, 32 ids a list"
    ∷ row (asked 7 state.overlay (state.state_with 0 (replicate 4 ([], state.no_feed)))
    (state.state_with 0 (replicate 5 ([], state.no_feed)))) yes_no
    ∷ row (asked 7 state.feed (fed 2048 0 0) (fed 2049 0 0)) yes_no
    ∷ row (asked 7 state.feed (fed 0 1024 0) (fed 0 1025 0)) yes_no
    ∷ row (asked 7 state.feed (fed 0 0 256) (fed 0 0 257)) yes_no
    ∷ row (asked 7 trips.trip (updated 128) (updated 129)) yes_no
    ∷ row (asked 7 alerts.alert (alert (inl tt) (inl tt) (inl tt) (replicate 32 []))
    (alert (inl tt) (inl tt) (inl tt) (replicate 33 []))) yes_no
    -- "on a card .. 16 legs, 64 middle stops a leg, 1,024 headers?"
    ∷ row (asked 7 card (carded 0 16) (carded 0 17)) yes_no
    ∷ row (asked 7 transit (ride 0 0 0 64) (ride 0 0 0 65)) yes_no
    ∷ row (asked 7 card (carded 1024 0) (carded 1025 0)) yes_no
    ∷ []

pub worked : Holds table
unfolding table
worked =
    refl also refl also refl also refl also refl also refl also refl also refl also refl also refl also refl also refl
    also refl also refl also refl also refl also refl also refl also refl also refl also refl also refl also refl also
    refl
    also refl also refl also refl also refl also refl also refl also refl also refl also refl also refl also refl also
    refl
    also refl also refl also refl also refl also refl also tt
