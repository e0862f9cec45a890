-- Law. Document 01, "Overlay", worked: what the three calls make of a state, and the report. What is due was written
-- by hand.
use Rattle.std.specs.Prelude.{ℕ, refl, List, [], ◌∷◌, ◌++◌, pos, negsuc}
use Prim.Native.String.{String}
use Rattle.std.proofs.Common.{inl, inr}
use Rattle.basics.specs.Rows.{Row, row, Holds}
use Rattle.basics.specs.Laws.Rows.{◌also◌}
use Rattle.slices.specs.Lists.{lex_of}
use Rattle.realtime.specs.Tree.{Tree, end, num, txt, msg}
use Rattle.decode.specs.Trip.{Trip, StopUpdate, update_with, trip_with}
use Rattle.decode.specs.Record as entities
use Rattle.decode.specs.Key as keys
use Rattle.decode.specs.Leaves as leaves
use Rattle.alerts.specs.Text.{text}
use Rattle.formats.specs.Format.{write}
use Rattle.alerts.specs.Alert.{Alert, alert_sheet}
use Rattle.overlay.specs.State.{Vehicle, Vehicles, Feed, State, vehicle_sheet, feed_with, state_with, no_state}
use Rattle.overlay.specs.Change as change
use Rattle.overlay.specs.Report.{report}
use Rattle.overlay.proofs.Laws.WorkedLookup.{at}

-- ---- what the rows speak of

-- records that a delay tells apart
abbrev pub late : ℕ → String → List (ℕ × StopUpdate) → Trip
late n date updates = trip_with (inr (pos n)) 0 (text date) [] (inl tt) [] updates

-- an update's stop, and nothing else
abbrev pub calling : String → StopUpdate
calling stop = update_with (text stop) (inl tt) (inl tt) (inl tt) (inl tt) 0

-- entities of trip 1: with a delay; with a date too; and deleted. Of trip 2: with three updates, two without a sequence
abbrev pub one : ℕ → Tree
one n = msg 3 3 (msg 1 4 (txt 1 (text "1") end) (num 5 n end)) end

abbrev pub dated : ℕ → Tree
dated n = msg 3 3 (msg 1 4 (txt 1 (text "1") (txt 3 (text "20260101") end)) (num 5 n end)) end

abbrev pub deleted : ℕ → Tree
deleted n = msg 3 3 (msg 1 4 (txt 1 (text "1") end) (num 5 n end)) (num 2 1 end)

abbrev pub two : ℕ → Tree
two n =
    msg 3 3 (msg 1 4 (txt 1 (text "2") end) (num 5 n
    (msg 2 5 (txt 4 (text "A") end) (msg 2 5 (num 1 3 (txt 4 (text "B") end))
    (msg 2 5 (txt 4 (text "C") end) end))))) end

-- a message: its entities, and its header
abbrev pub message : List Tree → Tree → Tree
message [] header = msg 1 1 header end
message (e ∷ l) header = msg 2 2 e (message l header)

-- what a message for feed f makes of a state
abbrev pub after : List Tree → Tree → State → State
after entities header s = change.after_message (text "f") (message entities header) s

abbrev pub differential : Tree
differential = num 2 1 end

abbrev pub stamped : ℕ → Tree
stamped n = num 3 n end

-- a vehicle that its latitude tells apart, and when it was updated
abbrev pub vehicle : ℕ → ℕ → Vehicle
vehicle n updated = (inl tt, (n, (0, pos updated)))

abbrev pub saying : String → Alert
saying h = (inr (text h), (inl tt, (inl tt, ([], ([], [])))))

-- the state of feed f alone, and its trips alone
abbrev pub only : ℕ → Feed → State
only version F = state_with version (at "f" F ∷ [])

abbrev pub trips : ℕ → leaves.Trips → State
trips count l = only 5 (feed_with (inl tt) count l [] [])

-- every part of feed f
abbrev pub full : State
full =
    only 5
    (feed_with (inr (pos 7)) 1 (at "1" (late 60 "" []) ∷ at "1@20260101" (late 60 "20260101" []) ∷ [])
    (at "v" (vehicle 1 1000) ∷ []) (saying "a" ∷ []))

-- the vehicles of feed f, and what a sheet makes of them
abbrev pub driving : ℕ → Vehicles → State
driving version l = only version (feed_with (inl tt) 0 [] l [])

abbrev pub sheet : Vehicles → ℕ → State → State
sheet l clock s = change.after_vehicles (text "f") l (pos clock) s

-- eight bytes, low first, of a number below 256
abbrev pub eight : ℕ → List ℕ
eight b = b ∷ 0 ∷ 0 ∷ 0 ∷ 0 ∷ 0 ∷ 0 ∷ 0 ∷ []

-- ---- the table

unfoldable pub table : List Row
table =
    -- "Each of the three makes a feed that isn't there yet"
    row (change.after_message (text "f") end no_state) (only 0 (feed_with (inl tt) 0 [] [] []))
    ∷ row (change.after_alerts (text "f") [] no_state) (only 0 (feed_with (inl tt) 0 [] [] []))
    ∷ row (sheet [] 0 no_state) (only 1 (feed_with (inl tt) 0 [] [] []))
    -- feeds stand by id, and a call for one leaves the others
    ∷ row (change.after_alerts (text "e") [] full).1.1 (at "e" (feed_with (inl tt) 0 [] [] []) ∷ full.1.1)
    -- "the later record at a key wins", in one message
    ∷ row (after (one 1 ∷ one 2 ∷ []) end (trips 0 [])) (trips 1 (at "1" (late 2 "" []) ∷ []))
    -- and over old ones where it is DIFFERENTIAL, which leaves the others; else the feed's trips go first
    ∷ row (after (one 2 ∷ []) differential (trips 2 (at "1" (late 1 "" []) ∷ at "3" (late 3 "" []) ∷ [])))
    (trips 2 (at "1" (late 2 "" []) ∷ at "3" (late 3 "" []) ∷ []))
    ∷ row (after (one 2 ∷ []) end (trips 2 (at "1" (late 1 "" []) ∷ at "3" (late 3 "" []) ∷ [])))
    (trips 1 (at "1" (late 2 "" []) ∷ []))
    -- "deleted entities are passed over": the record before stays
    ∷ row (after (one 1 ∷ deleted 2 ∷ []) end (trips 0 [])) (trips 1 (at "1" (late 1 "" []) ∷ []))
    -- "an absent sequence is 0", and the later update at a sequence wins too
    ∷ row (after (two 4 ∷ []) end (trips 0 []))
    (trips 1 (at "2" (late 4 "" ((0, calling "C") ∷ (3, calling "B") ∷ [])) ∷ []))
    -- "`trip_update_count` counts keys without '@' after a message"; vehicles and alerts stay, and so does the version
    ∷ row (after (dated 60 ∷ []) (stamped 9) full)
    (only 5 (feed_with (inr (pos 9)) 1 (at "1" (late 60 "20260101" []) ∷ at "1@20260101" (late 60 "20260101" []) ∷ [])
    (at "v" (vehicle 1 1000) ∷ []) (saying "a" ∷ [])))
    -- also where the feed's id has one
    ∷ row (change.after_message (text "a@b") (message (one 1 ∷ []) end) no_state)
    (state_with 0 (at "a@b" (feed_with (inl tt) 0 (at "1" (late 1 "" []) ∷ []) [] []) ∷ []))
    -- "all keys after a vehicle sheet", which "adds 1 to the version"; trips, alerts and timestamp stay
    ∷ row (sheet [] 1900 full)
    (only 6 (feed_with (inr (pos 7)) 2 (at "1" (late 60 "" []) ∷ at "1@20260101" (late 60 "20260101" []) ∷ [])
    (at "v" (vehicle 1 1000) ∷ []) (saying "a" ∷ [])))
    -- "wrapping at 2^64"
    ∷ row (sheet [] 0 (driving 18446744073709551615 [])) (driving 0 [])
    -- "A vehicle sheet inserts over old entries"
    ∷ row (sheet (at "b" (vehicle 2 1000) ∷ at "c" (vehicle 3 1000) ∷ []) 1000
    (driving 5 (at "a" (vehicle 4 1000) ∷ at "b" (vehicle 5 1000) ∷ [])))
    (driving 6 (at "a" (vehicle 4 1000) ∷ at "b" (vehicle 2 1000) ∷ at "c" (vehicle 3 1000) ∷ []))
    -- "drops those updated before clock − 900": old and new ones, 900 seconds stay; the clock may be below 900
    ∷ row (sheet (at "c" (vehicle 3 1000) ∷ at "d" (vehicle 4 999) ∷ []) 1900
    (driving 5 (at "a" (vehicle 1 1000) ∷ at "b" (vehicle 2 999) ∷ [])))
    (driving 6 (at "a" (vehicle 1 1000) ∷ at "c" (vehicle 3 1000) ∷ []))
    ∷ row (sheet (at "a" (vehicle 1 999) ∷ []) 1900 (driving 5 (at "a" (vehicle 2 1900) ∷ []))) (driving 6 [])
    ∷ row (sheet [] 899 (driving 5 (at "a" (vehicle 1 0) ∷ []))) (driving 6 (at "a" (vehicle 1 0) ∷ []))
    -- "An alert sheet replaces the feed's alerts"; "Messages and alert sheets leave the version"
    ∷ row (change.after_alerts (text "f") (saying "b" ∷ saying "c" ∷ []) full)
    (only 5 (feed_with (inr (pos 7)) 1 (at "1" (late 60 "" []) ∷ at "1@20260101" (late 60 "20260101" []) ∷ [])
    (at "v" (vehicle 1 1000) ∷ []) (saying "b" ∷ saying "c" ∷ [])))
    -- the header timestamp, "kept when a message has none"
    ∷ row (after [] differential (only 5 (feed_with (inr (pos 7)) 0 [] [] [])))
    (only 5 (feed_with (inr (pos 7)) 0 [] [] []))
    -- "(64 bits read as signed ..)"
    ∷ row (after [] (stamped 18446744073709551615) no_state) (only 0 (feed_with (inr (negsuc 0)) 0 [] [] []))
    -- "A report call gives the version and, for a feed id, `trip_update_count` and the header timestamp"
    ∷ row (report (text "f") (only 5 (feed_with (inr (pos 7)) 2 [] [] []))) (eight 5 ++ (eight 2 ++ 1 ∷ eight 7))
    ∷ row (report (text "f") (only 5 (feed_with (inl tt) 2 [] [] []))) (eight 5 ++ (eight 2 ++ 0 ∷ eight 0))
    ∷ row (report (text "f") (only 258 (feed_with (inr (negsuc 1)) 772 [] [] [])))
    (2 ∷ 1 ∷ 0 ∷ 0 ∷ 0 ∷ 0 ∷ 0 ∷ 0 ∷ 4 ∷ 3 ∷ 0 ∷ 0 ∷ 0 ∷ 0 ∷ 0 ∷ 0
    ∷ 1 ∷ 254 ∷ 255 ∷ 255 ∷ 255 ∷ 255 ∷ 255 ∷ 255 ∷ 255 ∷ [])
    -- "an unknown feed gives 0 and absent"
    ∷ row (report (text "g") (only 5 (feed_with (inr (pos 7)) 2 [] [] []))) (eight 5 ++ (eight 0 ++ 0 ∷ eight 0))
    -- the forms of the sheets: an alert's header, description, cause; trip, route, stop lists
    ∷ row (write alert_sheet (
      tt,
      (inr (1 ∷ []), (inl tt, (inr (2 ∷ []), ((3 ∷ []) ∷ [], ([], (4 ∷ []) ∷ (5 ∷ []) ∷ []))))) ∷ [],
    ))
    (1 ∷ 1 ∷ 1 ∷ 1 ∷ 1 ∷ 0 ∷ 1 ∷ 1 ∷ 2 ∷ 1 ∷ 1 ∷ 3 ∷ 0 ∷ 2 ∷ 1 ∷ 4 ∷ 1 ∷ 5 ∷ [])
    -- a vehicle's key, trip, latitude, longitude, updated
    ∷ row (write vehicle_sheet (
      tt,
      (7 ∷ [], (inr (8 ∷ []), (258, (9, pos 10)))) ∷ (8 ∷ [], (inl tt, (0, (1, pos 2)))) ∷ [],
    ))
    (1 ∷ 2 ∷ 1 ∷ 7 ∷ 1 ∷ 1 ∷ 8 ∷ 2 ∷ 1 ∷ 0 ∷ 0 ∷ 0 ∷ 0 ∷ 0 ∷ 0
    ∷ eight 9 ++ 20 ∷ 1 ∷ 8 ∷ 0 ∷ eight 0 ++ (eight 1 ++ 4 ∷ []))
    ∷ []

pub worked : Holds table
unfolding table lex_of keys.entries_in keys.incomplete_key entities.trip_in entities.updates_in entities.update_in
    leaves.entries leaves.leaves leaves.count_without_at change.feed_at change.put_feed
    change.after_message change.after_alerts change.without_stale change.after_vehicles report
worked =
    refl also refl also refl also refl also refl also refl also refl also refl also refl
    also refl also refl also refl also refl also refl also refl also refl also refl also refl
    also refl also refl also refl also refl also refl also refl also refl also refl also tt
