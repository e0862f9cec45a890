-- Law. A worked instance of `history_gains`: a supplier's message, accepted twice, gains a field in its entity, and a
-- message of alerts one that only messages of trips list.
use Rattle.std.specs.Prelude.{ℕ, ◌≡◌, refl, List, [], ◌∷◌, ◌++◌}
use Rattle.std.proofs.Common.{arith}
use Rattle.wire.specs.Wire as wire
use Rattle.wire.specs.Wire.{VARINT, LEN}
use Rattle.wire.specs.Laws.Fields.{fields_nil}
use Rattle.slices.specs.Lists.{lex_of}
use Rattle.realtime.specs.Tree.{tree, nest}
use Rattle.realtime.specs.Schema.{field_rows, feed, feed_message, alert_message}
use Rattle.realtime.proofs.Laws.Places.{AddsFields, added, reached, places}
use Rattle.decode.specs.Leaves as leaves
use Rattle.decode.specs.Key as key
use Rattle.decode.specs.Record as trips
use Rattle.alerts.specs.Text.{text}
use Rattle.alerts_feed.specs.Sheet as sheet
use Rattle.overlay.specs.Valid as valid
use Rattle.overlay.specs.Image as image
use Rattle.overlay.specs.Records.{shown}
use Rattle.overlay.specs.Change as change
use Rattle.overlay.specs.Report as reports
use Rattle.panel.specs.Fresh.{fresh_asks}
use Rattle.panel.specs.Message.{tree_asks, message_asks}
use Rattle.panel.specs.Report.{report_asks}
use Rattle.panel.specs.FeedAlerts.{alert_tree_asks, feed_alerts_asks}
use Rattle.panel.specs.Calls.{Call, message, report, feed_alerts, fresh_overlay, run, numbers_given}
use Rattle.panel.specs.Rides.{small}
use Rattle.panel.specs.Gained.{AlikeAll, equal, gained, gained_alerts}
use Rattle.panel.proofs.Laws.Gained.{history_gains}

-- what stands in an entity: a trip update whose trip is "1"
abbrev update : List ℕ
update = 0x1a ∷ 0x05 ∷ 0x0a ∷ 0x03 ∷ 0x0a ∷ 0x01 ∷ 0x31 ∷ []

abbrev few : List ℕ
few = 0x12 ∷ 0x07 ∷ update

-- the same behind field 1 of the entity, 5, which document 01 doesn't list; the entity's length in two bytes
abbrev more : List ℕ
more = 0x12 ∷ 0x89 ∷ 0x00 ∷ 0x08 ∷ 0x05 ∷ update

few_more : AddsFields feed feed_message few more
unfolding feed field_rows wire.field wire.value wire.payload wire.until wire.length_delimited wire.bytes
    wire.key wire.varint wire.digits
few_more =
    reached 2 2 [] (0x12 ∷ []) (0x07 ∷ []) (0x89 ∷ 0x00 ∷ []) update (0x08 ∷ 0x05 ∷ update) [] []
    fields_nil refl refl refl refl
    (added [] (0x08 ∷ 0x05 ∷ []) update [] (record { number = 1; value = VARINT 5 }) fields_nil refl refl)

-- an entity with an alert, and the same behind a trip update, 3, which document 02 doesn't list for alerts
abbrev alert : List ℕ
alert = 0x2a ∷ 0x00 ∷ []

abbrev few_alerts : List ℕ
few_alerts = 0x12 ∷ 0x02 ∷ alert

abbrev more_alerts : List ℕ
more_alerts = 0x12 ∷ 0x84 ∷ 0x00 ∷ 0x1a ∷ 0x00 ∷ alert

few_more_alerts : AddsFields feed alert_message few_alerts more_alerts
unfolding feed field_rows wire.field wire.value wire.payload wire.until wire.length_delimited wire.bytes
    wire.key wire.varint wire.digits
few_more_alerts =
    reached 2 8 [] (0x12 ∷ []) (0x02 ∷ []) (0x84 ∷ 0x00 ∷ []) alert (0x1a ∷ 0x00 ∷ alert) [] []
    fields_nil refl refl refl refl
    (added [] (0x1a ∷ 0x00 ∷ []) alert [] (record { number = 3; value = LEN [] }) fields_nil refl refl)

-- a message, a broken one, a report, a message of alerts, the message again
abbrev calls : List ℕ → List ℕ → List Call
calls m a =
    message (text "f") m 64 [] ∷ message (text "f") (0x00 ∷ []) 64 [] ∷ report (text "f") 25
    ∷ feed_alerts (text "f") a 64 ∷ message (text "f") m 64 [] ∷ []

few_numbers : numbers_given (run small (fresh_overlay small) (calls few few_alerts)) ≡ 0 ∷ 4 ∷ 0 ∷ 0 ∷ 0 ∷ []
unfolding run fresh_asks message_asks tree_asks report_asks feed_alerts_asks alert_tree_asks sheet.sheet_in
    sheet.alert_in
    image.state_of image.filled image.room valid.valid valid.within valid.feed_valid shown
    change.after_message change.feed_at change.put_feed reports.report
    leaves.leaves leaves.entries leaves.count_without_at key.entries_in key.incomplete_key key.key_ok
    trips.trip_in trips.updates_in trips.update_in
    tree nest feed field_rows wire.fields wire.many wire.field wire.value wire.payload wire.until
    wire.length_delimited wire.bytes wire.key wire.varint wire.digits lex_of
few_numbers = refl

alike : AlikeAll (calls few few_alerts) (0 ∷ 4 ∷ 0 ∷ 0 ∷ 0 ∷ []) (calls more more_alerts)
alike =
    let g = (places feed feed_message few more).0 few_more in
    let a = (places feed alert_message few_alerts more_alerts).0 few_more_alerts in (
      gained g refl (omega arith),
      (equal, (equal, (gained_alerts a refl (omega arith), (gained g refl (omega arith), tt)))),
    )

more_same : run small (fresh_overlay small) (calls few few_alerts)
    ≡ run small (fresh_overlay small) (calls more more_alerts)
more_same =
    history_gains small (fresh_overlay small) (calls few few_alerts) (calls more more_alerts) (rw few_numbers alike)

-- an entity's alert, 5, be it broken, in a message of trips: it is read as without
alert_unread : tree feed feed_message (0x12 ∷ 0x0a ∷ update ++ 0x2a ∷ 0x01 ∷ 0xff ∷ []) ≡ tree feed feed_message few
unfolding tree nest feed field_rows wire.fields wire.many wire.field wire.value wire.payload wire.until
    wire.length_delimited wire.bytes wire.key wire.varint wire.digits
alert_unread = refl
