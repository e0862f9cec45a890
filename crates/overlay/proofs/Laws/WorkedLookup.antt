-- Law. Document 01, "Overlay", worked: the keys of a record, and look-up. What is due was written by hand.
use Rattle.std.specs.Prelude.{ℕ, refl, Bool, true, false, cond, List, [], ◌∷◌, map, ℤ, pos, eqb}
use Prim.Native.String.{String}
use Rattle.std.proofs.Common.{inl, inr}
use Rattle.std.proofs.Math.Option
use Rattle.std.proofs.Math.Option.{Option, none, some}
use Rattle.basics.specs.Rows.{Row, row, Holds}
use Rattle.basics.specs.Laws.Rows.{◌also◌}
use Rattle.slices.specs.Lists.{lex_of}
use Rattle.realtime.specs.Tree.{Tree, end, num, txt, msg}
use Rattle.decode.specs.Trip.{Trip, StopUpdate, arrival_delay_of, update_with, trip_with}
use Rattle.basics.specs.Options.{Maybe}
use Rattle.decode.specs.Record as entities
use Rattle.decode.specs.Key as keys
use Rattle.decode.specs.Leaves.{Trips}
use Rattle.alerts.specs.Text.{text}
use Rattle.overlay.specs.State.{Vehicle}
use Rattle.overlay.specs.Records.{Feeds}
use Rattle.overlay.specs.Lookup as lookup

-- ---- what the rows speak of

abbrev pub at : {A : Type 0} → String → A → List ℕ × A
at k a = (text k, a)

-- the keys after `f:` that an entity of feed f with this trip is put at
abbrev pub keys_of : Tree → List (List ℕ)
keys_of trip = map (λ e. e.0) (keys.entries_in (text "f") (msg 3 3 (msg 1 4 trip end) end))

abbrev pub deleted_keys : Tree → List (List ℕ)
deleted_keys trip = map (λ e. e.0) (keys.entries_in (text "f") (msg 3 3 (msg 1 4 trip end) (num 2 1 end)))

-- records that a delay tells apart: start date, route, direction
abbrev pub run : ℕ → String → String → Maybe ℕ → Trip
run n date route direction = trip_with (inr (pos n)) 0 (text date) (text route) direction [] []

abbrev pub late : ℕ → Trip
late n = run n "" "" (inl tt)

-- feed f: trip 1 undated and dated, and a key that falls back to it
abbrev pub by_key : Trips
by_key = at "1" (late 1) ∷ at "1@20260101" (late 2) ∷ at "1@a" (late 3) ∷ []

abbrev pub found : String → Option Trip
found k = lookup.get_trip (text "f") (text k) by_key

-- feed g: trips by route, date and direction; the last one's route ends with ':'
abbrev pub by_route : Trips
by_route =
    at "2" (run 1 "" "R" (inr 0)) ∷ at "3" (run 2 "20260102" "R" (inr 0)) ∷ at "4" (run 3 "20260101" "R" (inr 1))
    ∷ at "5" (run 4 "20260101" "R" (inr 0)) ∷ at "6" (run 5 "20260101" "Q" (inl tt))
    ∷ at "7" (run 6 "20260101" "S:" (inl tt)) ∷ []

-- vehicles that a latitude tells apart, by the trip that they make
abbrev pub vehicle : ℕ → Maybe (List ℕ) → Vehicle
vehicle n trip = (trip, (n, (0, pos 0)))

abbrev pub running : List (List ℕ × Vehicle)
running =
    at "a" (vehicle 1 (inr (text "f:2"))) ∷ at "b" (vehicle 2 (inr (text "f:1")))
    ∷ at "c" (vehicle 3 (inr (text "f:1"))) ∷ at "f:1" (vehicle 4 (inl tt)) ∷ at "f:3" (vehicle 5 (inl tt))
    ∷ at "f:4" (vehicle 6 (inr (text "f:5"))) ∷ []

-- any other feed has g's trips, the one without a name too
abbrev pub feeds : Feeds
feeds [] = some (record { trips = by_route; vehicles = []; alerts = [] })
feeds (b ∷ f) = cond (eqb b 102)
    (some (record { trips = by_key; vehicles = running; alerts = [] }))
    (some (record { trips = by_route; vehicles = []; alerts = [] }))

abbrev pub resolved : String → String → Maybe ℕ → String → Option lookup.FeedTrip
resolved trip route direction date = lookup.resolve_trip_rt feeds (text trip) (text route) direction (text date)

abbrev pub routes : String → String → Bool
routes r q = lookup.route_matches (text r) (text q)

-- feed f's update for a stop, and a card's stop
abbrev pub stops : String → String → Bool
stops i stop =
    lookup.stop_matches (text "f") (text stop) (update_with (text i) (inl tt) (inl tt) (inl tt) (inl tt) 0)

-- an update's stop and arrival delay; the delay of the update that is found, by sequence and stop
abbrev pub calling : String → ℕ → StopUpdate
calling i n = update_with (text i) (inr (pos n)) (inl tt) (inl tt) (inl tt) 0

abbrev pub three : Trip
three =
    trip_with (inl tt) 0 [] [] (inl tt) [] ((1, calling "Z" 10) ∷ (2, calling "A" 20) ∷ (3, calling "A" 30) ∷ [])

abbrev pub delay_at : Maybe ℕ → String → Option (Maybe ℤ)
delay_at sequence stop = Option.map arrival_delay_of (lookup.find_stop_update (text "f") sequence (text stop) three)

abbrev pub seen : String → Option Vehicle
seen trip = lookup.get_vehicle_for_trip feeds (text trip)

-- ---- the table

unfoldable pub table : List Row
table =
    -- "Keys follow `insert_trip`": the trip id, and with a date that one too, whatever else is there
    row (keys_of (txt 1 (text "1") end)) (text "1" ∷ [])
    ∷ row (keys_of (txt 1 (text "1") (txt 3 (text "20260101") end))) (text "1@20260101" ∷ text "1" ∷ [])
    ∷ row (keys_of (txt 1 (text "1") (txt 5 (text "R") (num 6 1 end)))) (text "1" ∷ [])
    -- "and `incomplete_trip_key`": route, direction, start date, start time; the absent ones empty, direction 0 isn't
    ∷ row (keys_of (txt 2 (text "08:00:00") (txt 3 (text "20260101") (txt 5 (text "R") (num 6 10 end)))))
    (text "#r=f:R&d=10&sd=20260101&st=08:00:00" ∷ [])
    ∷ row (keys_of (txt 5 (text "R") end)) (text "#r=f:R&d=&sd=&st=" ∷ [])
    ∷ row (keys_of (txt 5 (text "R") (num 6 0 end))) (text "#r=f:R&d=0&sd=&st=" ∷ [])
    -- neither trip id nor route: no key
    ∷ row (keys_of (txt 3 (text "20260101") (num 6 1 end))) []
    -- "deleted entities are passed over"
    ∷ row (deleted_keys (txt 1 (text "1") end)) []
    -- "lookup follows `get_trip`": by the key, else without what follows the last '@', once
    ∷ row (found "f:1") (some (late 1))
    ∷ row (found "f:1@20260101") (some (late 2))
    ∷ row (found "f:1@20260102") (some (late 1))
    ∷ row (found "f:1@a@b") (some (late 3))
    ∷ row (found "f:1@b@c") none
    ∷ row (found "f:2") none
    ∷ row (found "g:1") none
    -- in the trip's feed, and before any descriptor
    ∷ row (resolved "f:1" "g:R" (inl tt) "20260101") (some (text "f", late 1))
    -- "then `find_trip_by_descriptor` in the route's feed": of that route and date the smallest key
    ∷ row (resolved "f:9" "g:R" (inl tt) "20260101") (some (text "g", run 3 "20260101" "R" (inr 1)))
    -- by the direction too, where the leg has one; a record without one is another's
    ∷ row (resolved "f:9" "g:R" (inr 0) "20260101") (some (text "g", run 4 "20260101" "R" (inr 0)))
    ∷ row (resolved "f:9" "g:R" (inr 2) "20260101") none
    ∷ row (resolved "f:9" "g:Q" (inl tt) "20260101") (some (text "g", run 5 "20260101" "Q" (inl tt)))
    ∷ row (resolved "f:9" "g:Q" (inr 0) "20260101") none
    -- another date, a date of no record, another route
    ∷ row (resolved "f:9" "g:R" (inl tt) "20260102") (some (text "g", run 2 "20260102" "R" (inr 0)))
    ∷ row (resolved "f:9" "g:R" (inl tt) "20260103") none
    ∷ row (resolved "f:9" "g:T" (inl tt) "20260101") none
    -- "(none for an empty route)"
    ∷ row (resolved "f:9" "" (inl tt) "20260101") none
    -- two routes are one where they are equal, or one ends with ':' and the other
    ∷ row (routes "f:R" "f:R") true
    ∷ row (routes "f:x:f:R" "f:R") true
    ∷ row (routes "f:R" "f:f:R") true
    ∷ row (routes "f:R" "f:x:R") false
    ∷ row (routes "" "") false
    -- "by stop id as `stop_update_by_stop_id` matches": the update's id is the stop's, or ends with ':' and it
    ∷ row (stops "A" "f:A") true
    ∷ row (stops "A" "A") true
    ∷ row (stops "x:A" "A") true
    ∷ row (stops "A" "x:f:A") false
    ∷ row (stops "xA" "A") false
    ∷ row (stops "A:" "") true
    ∷ row (stops "" "") false
    -- "Stop update: by sequence .., else by stop id", the smallest sequence's
    ∷ row (delay_at (inr 1) "f:A") (some (inr (pos 10)))
    ∷ row (delay_at (inr 3) "f:A") (some (inr (pos 30)))
    ∷ row (delay_at (inr 5) "f:A") (some (inr (pos 20)))
    ∷ row (delay_at (inl tt) "f:A") (some (inr (pos 20)))
    ∷ row (delay_at (inr 5) "f:B") none
    -- "The first vehicle with the leg's trip id, else the one keyed by it, in the trip's feed"
    ∷ row (seen "f:1") (some (vehicle 2 (inr (text "f:1"))))
    ∷ row (seen "f:3") (some (vehicle 5 (inl tt)))
    ∷ row (seen "f:4") (some (vehicle 6 (inr (text "f:5"))))
    ∷ row (seen "f:5") (some (vehicle 6 (inr (text "f:5"))))
    ∷ row (seen "f:1@20260101") none
    ∷ row (seen "g:1") none
    ∷ []

pub worked : Holds table
unfolding table lex_of keys.entries_in keys.incomplete_key entities.trip_in entities.updates_in entities.update_in
    lookup.first_that lookup.feed_of lookup.trip_at lookup.get_trip lookup.route_matches lookup.find_trip_by_descriptor
    lookup.resolve_trip_rt lookup.stop_matches lookup.stop_update_by_stop_id
    lookup.find_stop_update lookup.vehicle_for_trip lookup.get_vehicle_for_trip
worked =
    refl also refl also refl also refl also refl also refl also refl also refl also refl
    also refl also refl also refl also refl also refl also refl also refl also refl also refl
    also refl also refl also refl also refl also refl also refl also refl also refl also refl
    also refl also refl also refl also refl also refl also refl also refl also refl also refl
    also refl also refl also refl also refl also refl also refl also refl also refl also refl
    also refl also refl also refl also tt
