-- Law. Messages of alerts, worked: their sheets, and what is refused. What is due was written by hand.
use Rattle.std.specs.Prelude.{ℕ, refl, List, [], ◌∷◌, ◌++◌, length, replicate}
use Prim.Native.String.{String}
use Rattle.std.proofs.Math.Option.{Option, some, map}
use Rattle.basics.specs.Rows.{Row, row, Holds}
use Rattle.basics.specs.Laws.Rows.{◌also◌}
use Rattle.formats.specs.Format.{write}
use Rattle.wire.specs.Wire as wire
use Rattle.realtime.specs.Tree.{tree, nest}
use Rattle.realtime.specs.Schema.{field_rows, feed, alert_message}
use Rattle.realtime.specs.Judge.{asked, rules_by}
use Rattle.realtime.specs.declared.Verdict.{Verdict}
use Rattle.alerts.specs.Text.{text}
use Rattle.alerts.specs.Alert.{alert_sheet}
use Rattle.alerts_feed.specs.Sheet as sheet

-- ---- what the rows speak of

-- the bytes of a message's sheet, for the feed f, and the verdict on its form and its texts
abbrev pub sheet_of : List ℕ → Option (List ℕ)
sheet_of m = map (λ t. write alert_sheet (sheet.sheet_in (text "f") t)) (tree feed alert_message m)

abbrev pub verdict : List ℕ → Verdict
verdict m = asked (rules_by 62) alert_message (tree feed alert_message m)

-- a field of bytes behind its key
abbrev pub field : ℕ → List ℕ → List ℕ
field key x = key ∷ length x ∷ x

-- a message's entity, with an alert; is_deleted
abbrev pub entity : List ℕ → List ℕ
entity x = field 0x12 x

abbrev pub alert : List ℕ → List ℕ
alert x = field 0x2a x

abbrev pub noted : List ℕ → List ℕ
noted x = entity (alert x)

abbrev pub deleted : List ℕ
deleted = 0x10 ∷ 0x01 ∷ []

-- an alert's header_text and description_text, their translations, and of one its text and language
abbrev pub header : List ℕ → List ℕ
header x = field 0x52 x

abbrev pub description : List ℕ → List ℕ
description x = field 0x5a x

abbrev pub translation : List ℕ → List ℕ
translation x = field 0x0a x

abbrev pub words : String → List ℕ
words x = field 0x0a (text x)

abbrev pub language : String → List ℕ
language x = field 0x12 (text x)

-- an alert's informed_entity, its route_id, trip and stop_id
abbrev pub selector : List ℕ → List ℕ
selector x = field 0x2a x

abbrev pub route : List ℕ → List ℕ
route x = field 0x12 x

abbrev pub trip : List ℕ → List ℕ
trip x = field 0x22 x

abbrev pub stop : List ℕ → List ℕ
stop x = field 0x2a x

-- sheets: without an alert, and of one alert that says nothing, a header or a description
abbrev pub no_alert : Option (List ℕ)
no_alert = some (1 ∷ 0 ∷ [])

abbrev pub blank : Option (List ℕ)
blank = some (1 ∷ 1 ∷ 0 ∷ 0 ∷ 0 ∷ 0 ∷ 0 ∷ 0 ∷ [])

abbrev pub headed : ℕ → Option (List ℕ)
headed b = some (1 ∷ 1 ∷ 1 ∷ 1 ∷ b ∷ 0 ∷ 0 ∷ 0 ∷ 0 ∷ 0 ∷ [])

-- ---- the sheets

unfoldable pub sheets : List Row
sheets =
    row (sheet_of []) no_alert
    -- an entity without an alert; an empty alert is one
    ∷ row (sheet_of (entity [])) no_alert
    ∷ row (sheet_of (noted [])) blank
    -- deleted, wherever it stands; by the last is_deleted; by 2^32, all of whose 64 bits count
    ∷ row (sheet_of (entity (alert [] ++ deleted))) no_alert
    ∷ row (sheet_of (entity (deleted ++ alert [] ++ 0x10 ∷ 0x00 ∷ []))) blank
    ∷ row (sheet_of (entity (alert [] ++ 0x10 ∷ 0x80 ∷ 0x80 ∷ 0x80 ∷ 0x80 ∷ 0x10 ∷ []))) no_alert
    -- a header; a description
    ∷ row (sheet_of (noted (header (translation (words "A"))))) (headed 0x41)
    ∷ row (sheet_of (noted (description (translation (words "A")))))
    (some (1 ∷ 1 ∷ 0 ∷ 1 ∷ 1 ∷ 0x41 ∷ 0 ∷ 0 ∷ 0 ∷ 0 ∷ []))
    -- the first translation counts, though the second is French
    ∷ row (sheet_of
    (noted (header (translation (words "A" ++ language "de") ++ translation (words "B" ++ language "fr")))))
    (headed 0x41)
    -- the first without a text is absent, whatever the second has; with an empty text it is given and empty
    ∷ row (sheet_of (noted (header (translation (language "fr") ++ translation (words "B"))))) blank
    ∷ row (sheet_of (noted (header (translation (words "") ++ translation (words "B")))))
    (some (1 ∷ 1 ∷ 1 ∷ 0 ∷ 0 ∷ 0 ∷ 0 ∷ 0 ∷ 0 ∷ []))
    -- no translation; header_texts are merged first; of two texts of one translation the last counts
    ∷ row (sheet_of (noted (header []))) blank
    ∷ row (sheet_of (noted (header [] ++ header (translation (words "B"))))) (headed 0x42)
    ∷ row (sheet_of (noted (header (translation (words "A" ++ words "B"))))) (headed 0x42)
    -- two alerts of one entity are merged: the first header, the one description, both routes
    ∷ row (sheet_of
    (entity
    (alert (header (translation (words "A")) ++ selector (route (text "R")))
    ++ alert
    (header (translation (words "B")) ++ description (translation (words "D")) ++ selector (route (text "Q"))))))
    (some
    (1 ∷ 1 ∷ 1 ∷ 1 ∷ 0x41 ∷ 1 ∷ 1 ∷ 0x44 ∷ 0 ∷ 0 ∷ 2 ∷ 3 ∷ 0x66 ∷ 0x3a ∷ 0x52 ∷ 3 ∷ 0x66 ∷ 0x3a ∷ 0x51 ∷ 0 ∷ []))
    -- a selector's ids go into three lists: trips, routes, stops
    ∷ row (sheet_of (noted (selector (route (text "R") ++ trip (words "T") ++ stop (text "S")))))
    (some
    (1 ∷ 1 ∷ 0 ∷ 0 ∷ 0 ∷ 1 ∷ 3 ∷ 0x66 ∷ 0x3a ∷ 0x54 ∷ 1 ∷ 3 ∷ 0x66 ∷ 0x3a ∷ 0x52 ∷ 1 ∷ 3 ∷ 0x66 ∷ 0x3a ∷ 0x53 ∷ []))
    -- ids keep the selectors' order, and stay twice
    ∷ row (sheet_of (noted (selector (stop (text "b")) ++ selector (stop (text "a")) ++ selector (stop (text "b")))))
    (some
    (1 ∷ 1 ∷ 0 ∷ 0 ∷ 0 ∷ 0 ∷ 0 ∷ 3
    ∷ 3 ∷ 0x66 ∷ 0x3a ∷ 0x62 ∷ 3 ∷ 0x66 ∷ 0x3a ∷ 0x61 ∷ 3 ∷ 0x66 ∷ 0x3a ∷ 0x62 ∷ []))
    -- an empty id is passed over, also where it is the last of two
    ∷ row (sheet_of (noted (selector (route []) ++ selector (stop (text "a") ++ stop []) ++ selector []))) blank
    -- trips of a selector are merged, and of a trip the trip_id alone is listed
    ∷ row (sheet_of (noted (selector (trip (words "T") ++ trip (stop (text "R"))))))
    (some (1 ∷ 1 ∷ 0 ∷ 0 ∷ 0 ∷ 1 ∷ 3 ∷ 0x66 ∷ 0x3a ∷ 0x54 ∷ 0 ∷ 0 ∷ []))
    -- a header, a trip_update and an id aren't listed: of any wire type, with anything inside
    ∷ row (sheet_of (0x08 ∷ 0x05 ∷ entity (0x1a ∷ 0x01 ∷ 0xff ∷ 0x08 ∷ 0x07 ∷ alert []))) blank
    -- two entities, in their order
    ∷ row (sheet_of (noted (header (translation (words "B"))) ++ noted (header (translation (words "A")))))
    (some (1 ∷ 2 ∷ 1 ∷ 1 ∷ 0x42 ∷ 0 ∷ 0 ∷ 0 ∷ 0 ∷ 0 ∷ 1 ∷ 1 ∷ 0x41 ∷ 0 ∷ 0 ∷ 0 ∷ 0 ∷ 0 ∷ []))
    ∷ []

pub worked_sheets : Holds sheets
unfolding sheets sheet.sheet_in sheet.alert_in tree nest feed field_rows wire.fields wire.many wire.field wire.value
    wire.payload wire.until wire.length_delimited wire.bytes wire.key wire.varint wire.digits
worked_sheets =
    refl also refl also refl also refl also refl also refl also refl also refl also refl also refl
    also refl also refl also refl also refl also refl also refl also refl also refl also refl also refl
    also refl also tt

-- ---- what is refused

unfoldable pub verdicts : List Row
verdicts =
    -- alert, stop_id and header_text as numbers, is_deleted as bytes
    row (verdict (entity (0x28 ∷ 0x05 ∷ []))) Verdict.Broken
    ∷ row (verdict (noted (selector (0x28 ∷ 0x05 ∷ [])))) Verdict.Broken
    ∷ row (verdict (noted (0x50 ∷ 0x01 ∷ []))) Verdict.Broken
    ∷ row (verdict (entity (field 0x12 []))) Verdict.Broken
    -- cut inside a translation; a broken alert in a deleted entity
    ∷ row (verdict (noted (header (0x0a ∷ 0x02 ∷ 0x0a ∷ [])))) Verdict.Broken
    ∷ row (verdict (entity (deleted ++ alert (0x52 ∷ [])))) Verdict.Broken
    -- a header in UTF-8, and one that is none; in the second translation too; a description in a deleted entity
    ∷ row (verdict (noted (header (translation (field 0x0a (0xc3 ∷ 0xa9 ∷ [])))))) Verdict.Fine
    ∷ row (verdict (noted (header (translation (field 0x0a (0xff ∷ [])))))) Verdict.Text
    ∷ row (verdict (noted (header (translation (words "A") ++ translation (field 0x0a (0xff ∷ [])))))) Verdict.Text
    ∷ row (verdict (entity (deleted ++ alert (description (translation (field 0x0a (0xc3 ∷ []))))))) Verdict.Text
    -- a route_id with a byte above 126; an overwritten stop_id with one below 32
    ∷ row (verdict (noted (selector (route (0x7f ∷ []))))) Verdict.Text
    ∷ row (verdict (noted (selector (stop (0x1f ∷ []) ++ stop (text "a"))))) Verdict.Text
    -- with f and the colon 62 bytes make 64, 63 make 65
    ∷ row (verdict (noted (selector (route (replicate 62 0x61))))) Verdict.Fine
    ∷ row (verdict (noted (selector (route (replicate 63 0x61))))) Verdict.Text
    ∷ []

pub worked_verdicts : Holds verdicts
unfolding verdicts tree nest feed field_rows wire.fields wire.many wire.field wire.value wire.payload wire.until
    wire.length_delimited wire.bytes wire.key wire.varint wire.digits
worked_verdicts =
    refl also refl also refl also refl also refl also refl also refl also refl also refl also refl
    also refl also refl also refl also refl also tt
