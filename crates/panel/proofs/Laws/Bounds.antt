-- Law. WHERE EACH QUESTION TURNS, worked by hand from the papers: call by call, the last input that a question passes
-- and the first that it doesn't. Lengths of a million bytes (question 3) and counts of thousands (7) are
-- `EachQuestion`'s and `Seven`'s.
use Rattle.std.specs.Prelude.{ℕ, ◌+◌, ◌/◌, ◌%◌, refl, Bool, true, false, List, [], ◌∷◌, ◌++◌, map, ℤ, pos, negsuc, length, replicate}
use Rattle.std.proofs.Common.{inl}
use Rattle.basics.specs.Lists.{concat_map}
use Rattle.basics.specs.Rows.{Row, row, Holds}
use Rattle.basics.specs.Laws.Rows.{◌also◌}
use Rattle.slices.specs.Lists.{lex_of}
use Rattle.formats_judge.specs.Judged.{ok}
use Rattle.wire.specs.Wire as wire
use Rattle.realtime.specs.Tree.{tree, nest}
use Rattle.realtime.specs.Schema.{field_rows, feed}
use Rattle.decode.specs.Leaves as leaves
use Rattle.decode.specs.Key as key
use Rattle.decode.specs.Record as trips
use Rattle.alerts.specs.Text.{text}
use Rattle.alerts_feed.specs.Sheet as sheets
use Rattle.overlay.specs.State.{overlay, no_state}
use Rattle.overlay.specs.Valid as valid
use Rattle.overlay.specs.Image as image
use Rattle.overlay.specs.Records.{shown}
use Rattle.overlay.specs.Change as change
use Rattle.overlay.specs.Report as reports
use Rattle.journey.specs.Enrich as enrich
use Rattle.panel.specs.Questions.{Lengths, whole}
use Rattle.panel.specs.Fresh.{fresh_asks}
use Rattle.panel.specs.Message.{tree_asks, message_asks}
use Rattle.panel.specs.AlertSheet.{alerts_ask, alert_sheet_asks}
use Rattle.panel.specs.VehicleSheet.{vehicles_ask, vehicle_sheet_asks}
use Rattle.panel.specs.Card.{finished, arriving_asks, card_asks}
use Rattle.panel.specs.Report.{report_asks}
use Rattle.panel.specs.FeedAlerts.{alert_tree_asks, feed_alerts_asks}
use Rattle.panel.specs.Calls.{Call, fresh, message, alert_sheet, vehicle_sheet, card, report, feed_alerts, gives}
use Rattle.panel.specs.Calls.{run, fresh_overlay, numbers_given}
use Rattle.panel.specs.Rides.{empty_card}

-- ---- what the rows speak of

abbrev pub L : Lengths
L = record {
  overlay = 256;
  card = 64;
  sheet = 128;
  work = record { message = 2 ∷ 1 ∷ []; alert_sheet = []; vehicle_sheet = []; card = 3 ∷ [] };
}

-- the number of a call over a buffer; the numbers of calls over a fresh overlay, each by itself, and one after another
abbrev pub over : List ℕ → Call → ℕ
over old c = (gives L old c).number

abbrev pub numbers : {A : Type 0} → (A → Call) → List A → List ℕ
numbers call l = map (λ x. over (fresh_overlay L) (call x)) l

abbrev pub in_turn : {A : Type 0} → (A → Call) → List A → List ℕ
in_turn call l = numbers_given (run L (fresh_overlay L) (map call l))

-- an overlay's length, one less and one more; a call over zeros, which are no overlay, of these lengths
abbrev pub around : List ℕ
around = 255 ∷ 256 ∷ 257 ∷ []

abbrev pub over_zeros : Call → List ℕ
over_zeros c = map (λ n. over (replicate n 0) c) around

-- feed ids: 16 bytes, 17, none; 33 and 32, 126 and 127; a ':'. What is due of them
abbrev pub feed_ids : List (List ℕ)
feed_ids =
    replicate 16 0x61 ∷ replicate 17 0x61 ∷ [] ∷ (33 ∷ []) ∷ (32 ∷ []) ∷ (126 ∷ []) ∷ (127 ∷ []) ∷ (0x3a ∷ []) ∷ []

abbrev pub ids_due : List ℕ
ids_due = 0 ∷ 5 ∷ 5 ∷ 0 ∷ 5 ∷ 0 ∷ 5 ∷ 5 ∷ []

abbrev pub f : List ℕ
f = text "f"

-- messages: a trip whose id has n bytes; trip 1, which arrives at 4,102,444,800 where b is 0x80
abbrev pub sent : List ℕ → Call
sent m = message f m 256 (2 ∷ 1 ∷ [])

abbrev pub trip_named : ℕ → Call
trip_named n = sent (0x12 ∷ (n + 6) ∷ 0x1a ∷ (n + 4) ∷ 0x0a ∷ (n + 2) ∷ 0x0a ∷ n ∷ replicate n 0x31)

abbrev pub arrives_at : ℕ → Call
arrives_at b =
    sent
    (0x12 ∷ 0x11 ∷ 0x1a ∷ 0x0f ∷ 0x0a ∷ 0x03 ∷ 0x0a ∷ 0x01 ∷ 0x31 ∷ 0x12 ∷ 0x08 ∷ 0x12 ∷ 0x06 ∷ 0x10 ∷ b ∷ 0xae ∷ 0x99
    ∷ 0xa4 ∷ 0x0f ∷ [])

-- a sheet of nothing
abbrev pub no_sheet : List ℕ
no_sheet = 1 ∷ 0 ∷ []

-- alert sheets: of one alert with a cause of n bytes; of one with n empty trip ids
abbrev pub noted : List ℕ → Call
noted sheet = alert_sheet f sheet 256 []

abbrev pub caused : ℕ → Call
caused n = noted (1 ∷ 1 ∷ 0 ∷ 0 ∷ 1 ∷ n ∷ replicate n 0x61 ++ replicate 3 0)

abbrev pub trips_told : ℕ → Call
trips_told n = noted (1 ∷ 1 ∷ 0 ∷ 0 ∷ 0 ∷ n ∷ replicate (n + 2) 0)

abbrev pub alerts_fit : ℕ → Bool
alerts_fit n = ok 7 overlay (change.after_alerts f (replicate n (inl tt, (inl tt, (inl tt, ([], ([], [])))))) no_state)

-- vehicle sheets: the keys a and b; one key of n bytes; one updated at 4,102,444,800 where b is 0x80
abbrev pub placed : List ℕ → ℤ → Call
placed sheet clock = vehicle_sheet f sheet clock 256 []

abbrev pub vehicle : ℕ → ℕ → List ℕ → List ℕ
vehicle n b updated = n ∷ replicate n b ++ replicate 17 0 ++ updated

abbrev pub keyed : ℕ → Call
keyed b = placed (1 ∷ 2 ∷ vehicle 1 0x61 (0 ∷ []) ++ vehicle 1 b (0 ∷ [])) (pos 0)

abbrev pub key_long : ℕ → Call
key_long n = placed (1 ∷ 1 ∷ vehicle n 0x61 (0 ∷ [])) (pos 0)

abbrev pub updated_at : ℕ → Call
updated_at b = placed (1 ∷ 1 ∷ vehicle 1 0x61 (b ∷ 0xdc ∷ 0xb2 ∷ 0xc8 ∷ 0x1e ∷ [])) (pos 0)

-- cards: of a departure, of headers, of legs; n bytes of header above 384, n empty headers above 896; n walks, and one
-- with a payload of n bytes
abbrev pub card_of : List ℕ → List ℕ → List ℕ → Call
card_of departure headers legs =
    card (1 ∷ departure ++ 0x80 ∷ 0xe4 ∷ 0xad ∷ 0x95 ∷ 0x0d ∷ 0 ∷ 0 ∷ headers ++ legs) 64 (3 ∷ [])

abbrev pub departure : List ℕ
departure = 0x80 ∷ 0xe4 ∷ 0xad ∷ 0x95 ∷ 0x0d ∷ []

abbrev pub headed : ℕ → Call
headed n = card_of departure (1 ∷ n ∷ 0x04 ∷ replicate (384 + n) 0x61) (0 ∷ [])

abbrev pub headers : ℕ → Call
headers n = card_of departure (n ∷ 0x08 ∷ replicate (896 + n) 0) (0 ∷ [])

abbrev pub legs : List ℕ → Call
legs l = card_of departure (0 ∷ []) l

abbrev pub walks : ℕ → Call
walks n = legs (n ∷ replicate (n + n) 0)

abbrev pub walk : ℕ → Call
walk n = legs (1 ∷ 0 ∷ n ∷ replicate n 0)

-- messages of alerts: a field of bytes, its length in two bytes; bytes n times; an entity with an alert, and one that
-- is deleted; a header or a description of n bytes; n alerts; an alert with n stops; a route of n bytes in a feed of k
abbrev pub field : ℕ → List ℕ → List ℕ
field key x = key ∷ (128 + length x % 128) ∷ (length x / 128) ∷ x

abbrev pub times : ℕ → List ℕ → List ℕ
times n x = concat_map (λ y. y) (replicate n x)

abbrev pub entity : List ℕ → List ℕ
entity alert = field 0x12 (field 0x2a alert)

abbrev pub gone : List ℕ
gone = field 0x12 (0x10 ∷ 0x01 ∷ field 0x2a [])

abbrev pub told : List ℕ → Call
told m = feed_alerts f m 128

abbrev pub words : ℕ → ℕ → Call
words key n = told (entity (field key (field 0x0a (field 0x0a (replicate n 0x61)))))

abbrev pub alerts : ℕ → List ℕ → Call
alerts n more = told (times n (entity []) ++ more)

abbrev pub stops : ℕ → List ℕ → Call
stops n more = told (entity (times n (field 0x2a (field 0x2a (0x61 ∷ []))) ++ more))

abbrev pub route_in : ℕ → ℕ → Call
route_in k n = feed_alerts (replicate k 0x61) (entity (field 0x2a (field 0x12 (replicate n 0x61)))) 128

-- ---- the table

unfoldable pub table : List Row
table =
    row (numbers fresh around) (1 ∷ 0 ∷ 1 ∷ [])
    -- a message
    ∷ row (numbers (λ n. message f [] n (2 ∷ 1 ∷ [])) around) (1 ∷ 0 ∷ 1 ∷ [])
    ∷ row (numbers (message f [] 256) ((2 ∷ 1 ∷ []) ∷ (2 ∷ 2 ∷ []) ∷ (2 ∷ []) ∷ (2 ∷ 1 ∷ 0 ∷ []) ∷ []))
    (0 ∷ 1 ∷ 1 ∷ 1 ∷ [])
    ∷ row (over_zeros (sent [])) (1 ∷ 2 ∷ 1 ∷ [])
    ∷ row (numbers sent ([] ∷ (0x00 ∷ []) ∷ [])) (0 ∷ 4 ∷ [])
    ∷ row (numbers (λ g. message g [] 256 (2 ∷ 1 ∷ [])) feed_ids) ids_due
    ∷ row (numbers trip_named (64 ∷ 65 ∷ [])) (0 ∷ 5 ∷ [])
    ∷ row (numbers arrives_at (0x80 ∷ 0x81 ∷ [])) (0 ∷ 6 ∷ [])
    ∷ row (in_turn (λ b. message (b ∷ []) [] 256 (2 ∷ 1 ∷ [])) (97 ∷ 98 ∷ 99 ∷ 100 ∷ 101 ∷ 100 ∷ []))
    (0 ∷ 0 ∷ 0 ∷ 0 ∷ 7 ∷ 0 ∷ [])
    -- an alert sheet
    ∷ row (numbers (λ n. alert_sheet f no_sheet n []) around) (1 ∷ 0 ∷ 1 ∷ [])
    ∷ row (over_zeros (noted no_sheet)) (1 ∷ 2 ∷ 1 ∷ [])
    ∷ row (numbers noted (no_sheet ∷ [] ∷ (2 ∷ 0 ∷ []) ∷ (1 ∷ 0 ∷ 0 ∷ []) ∷ [])) (0 ∷ 4 ∷ 4 ∷ 4 ∷ [])
    ∷ row (numbers (λ g. alert_sheet g no_sheet 256 []) feed_ids) ids_due
    ∷ row (numbers caused (64 ∷ 65 ∷ [])) (0 ∷ 5 ∷ [])
    ∷ row (numbers trips_told (32 ∷ 33 ∷ [])) (0 ∷ 7 ∷ [])
    ∷ row (map alerts_fit (256 ∷ 257 ∷ [])) (true ∷ false ∷ [])
    -- a vehicle sheet
    ∷ row (numbers (λ n. vehicle_sheet f no_sheet (pos 0) n []) around) (1 ∷ 0 ∷ 1 ∷ [])
    ∷ row (over_zeros (placed no_sheet (pos 0))) (1 ∷ 2 ∷ 1 ∷ [])
    ∷ row (numbers keyed (0x62 ∷ 0x61 ∷ 0x60 ∷ [])) (0 ∷ 4 ∷ 4 ∷ [])
    ∷ row (numbers (λ g. vehicle_sheet g no_sheet (pos 0) 256 []) feed_ids) ids_due
    ∷ row (numbers key_long (64 ∷ 65 ∷ [])) (0 ∷ 5 ∷ [])
    ∷ row (numbers updated_at (0x80 ∷ 0x82 ∷ [])) (0 ∷ 6 ∷ [])
    ∷ row (numbers (placed no_sheet) (pos 0 ∷ negsuc 0 ∷ pos 4102444800 ∷ pos 4102444801 ∷ [])) (0 ∷ 6 ∷ 0 ∷ 6 ∷ [])
    -- a card
    ∷ row (numbers (λ n. card empty_card n (3 ∷ [])) (63 ∷ 64 ∷ 65 ∷ [])) (1 ∷ 0 ∷ 1 ∷ [])
    ∷ row (numbers (card empty_card 64) ((3 ∷ []) ∷ (2 ∷ []) ∷ [] ∷ [])) (0 ∷ 1 ∷ 1 ∷ [])
    ∷ row (over_zeros (legs (0 ∷ []))) (1 ∷ 2 ∷ 1 ∷ [])
    ∷ row (numbers legs ((0 ∷ []) ∷ [] ∷ (0 ∷ 0 ∷ []) ∷ [])) (0 ∷ 4 ∷ 4 ∷ [])
    ∷ row (numbers headed (128 ∷ 129 ∷ [])) (0 ∷ 5 ∷ [])
    -- departures at -1,200,798,848 and a second before
    ∷ row (numbers (λ d. card_of d (0 ∷ []) (0 ∷ []))
    ((0xff ∷ 0xf1 ∷ 0x95 ∷ 0xf9 ∷ 0x08 ∷ []) ∷ (0x81 ∷ 0xf2 ∷ 0x95 ∷ 0xf9 ∷ 0x08 ∷ []) ∷ [])) (0 ∷ 6 ∷ [])
    ∷ row (numbers headers (128 ∷ 129 ∷ [])) (0 ∷ 7 ∷ [])
    ∷ row (numbers walks (16 ∷ 17 ∷ [])) (0 ∷ 7 ∷ [])
    ∷ row (numbers walk (47 ∷ 48 ∷ [])) (0 ∷ 8 ∷ [])
    -- a report
    ∷ row (numbers (report f) (24 ∷ 25 ∷ 26 ∷ [])) (1 ∷ 0 ∷ 1 ∷ [])
    ∷ row (over_zeros (report f 25)) (1 ∷ 2 ∷ 1 ∷ [])
    ∷ row (numbers (λ g. report g 25) feed_ids) ids_due
    -- a message's alerts as a sheet; where 5 and 7 turn on long input, 8 stands behind them
    ∷ row (numbers (feed_alerts f []) (127 ∷ 128 ∷ 129 ∷ [])) (1 ∷ 0 ∷ 1 ∷ [])
    ∷ row (numbers told ([] ∷ (0x00 ∷ []) ∷ (0x12 ∷ 0x02 ∷ 0x28 ∷ 0x00 ∷ []) ∷ [])) (0 ∷ 4 ∷ 4 ∷ [])
    ∷ row (numbers (λ g. feed_alerts g [] 128) feed_ids) ids_due
    ∷ row (numbers (route_in 1) (62 ∷ 63 ∷ [])) (0 ∷ 5 ∷ [])
    ∷ row (numbers (route_in 16) (47 ∷ 48 ∷ [])) (0 ∷ 5 ∷ [])
    ∷ row (numbers (words 0x52) (512 ∷ 513 ∷ [])) (8 ∷ 5 ∷ [])
    ∷ row (numbers (words 0x5a) (2048 ∷ 2049 ∷ [])) (8 ∷ 5 ∷ [])
    ∷ row (numbers (alerts 256) ([] ∷ gone ∷ entity [] ∷ [])) (8 ∷ 8 ∷ 7 ∷ [])
    ∷ row (numbers (stops 32) ([] ∷ field 0x2a [] ∷ field 0x2a (field 0x2a (0x61 ∷ [])) ∷ [])) (8 ∷ 8 ∷ 7 ∷ [])
    ∷ row (numbers (words 0x52) (119 ∷ 120 ∷ [])) (0 ∷ 8 ∷ [])
    ∷ []

pub bounds : Holds table
unfolding table run fresh_asks message_asks tree_asks alert_sheet_asks alerts_ask vehicle_sheet_asks vehicles_ask
    card_asks
    arriving_asks finished report_asks feed_alerts_asks alert_tree_asks sheets.sheet_in sheets.alert_in whole
    image.state_of image.filled image.room valid.valid valid.within valid.feed_valid shown
    change.after_message change.after_alerts change.after_vehicles change.without_stale change.feed_at change.put_feed
    reports.report
    leaves.leaves leaves.entries leaves.count_without_at key.entries_in key.incomplete_key key.key_ok
    trips.trip_in trips.updates_in trips.update_in
    tree nest feed field_rows wire.fields wire.many wire.field wire.value wire.payload wire.until
    wire.length_delimited wire.bytes wire.key wire.varint wire.digits lex_of
    enrich.enrich_with_realtime enrich.status_of enrich.labels_of enrich.headers_of enrich.cancels enrich.late
    enrich.disrupted enrich.live enrich.alerts_of_transit
bounds =
    refl also refl also refl also refl also refl also refl also refl also refl also refl also refl
    also refl also refl also refl also refl also refl also refl also refl also refl also refl also refl
    also refl also refl also refl also refl also refl also refl also refl also refl also refl also refl
    also refl also refl also refl also refl also refl also refl also refl also refl also refl also refl
    also refl also refl also refl also refl also refl also tt
