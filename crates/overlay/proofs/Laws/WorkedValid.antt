-- Law. Document 01, question 2, worked: which states an overlay holds, and which buffers one. What is due was written
-- by hand.
use Rattle.std.specs.Prelude.{ℕ, refl, Bool, true, false, List, [], ◌∷◌, ◌++◌, replicate}
use Prim.Native.String.{String}
use Rattle.std.proofs.Common.{inl}
use Rattle.std.proofs.Math.Option.{none, some}
use Rattle.basics.specs.Rows.{Row, row, Holds}
use Rattle.basics.specs.Laws.Rows.{◌also◌}
use Rattle.slices.specs.Lists.{lex_of}
use Rattle.decode.specs.Trip.{Trip, StopUpdate, update_with, trip_with}
use Rattle.decode.specs.Key.{incomplete_key, key_ok}
use Rattle.decode.specs.Leaves.{Trips, count_without_at}
use Rattle.alerts.specs.Text.{text}
use Rattle.overlay.specs.State.{Vehicles, State, feed_with, state_with, no_feed, no_state}
use Rattle.overlay.specs.Valid.{feed_valid, within, valid}
use Rattle.overlay.specs.Image.{state_of}
use Rattle.overlay.proofs.Laws.WorkedLookup.{at, vehicle}

-- ---- what the rows speak of

-- a record by its route and its updates; an update that says nothing
abbrev pub running : List ℕ → List (ℕ × StopUpdate) → Trip
running route updates = trip_with (inl tt) 0 [] route (inl tt) [] updates

abbrev pub silent : StopUpdate
silent = update_with [] (inl tt) (inl tt) (inl tt) (inl tt) 0

abbrev pub plain : Trip
plain = running [] []

-- feed f alone: its count, its trips, its vehicles
abbrev pub held : ℕ → Trips → Vehicles → Bool
held count trips vehicles = valid (state_with 0 (at "f" (feed_with (inl tt) count trips vehicles []) ∷ []))

-- trip 1, dated and not
abbrev pub both : Trips
both = at "1" plain ∷ at "1@a" (trip_with (inl tt) 0 (text "a") [] (inl tt) [] []) ∷ []

-- the longest route, and the key of feed f's record that has it alone: longer than a trip id may be
abbrev pub route : List ℕ
route = replicate 64 82

abbrev pub key_of : String → List ℕ
key_of feed = text "#r=" ++ (text feed ++ (58 ∷ route ++ text "&d=&sd=&st="))

-- ---- the table

unfoldable pub table : List Row
table =
    -- feeds ascend by id, each once
    row (valid (state_with 0 (at "f" no_feed ∷ at "g" no_feed ∷ []))) true
    ∷ row (valid (state_with 0 (at "g" no_feed ∷ at "f" no_feed ∷ []))) false
    ∷ row (valid (state_with 0 (at "f" no_feed ∷ at "f" no_feed ∷ []))) false
    -- so do the keys of its trips, of its vehicles, and the sequences of a trip's updates
    ∷ row (held 2 (at "1" plain ∷ at "2" plain ∷ []) []) true
    ∷ row (held 2 (at "2" plain ∷ at "1" plain ∷ []) []) false
    ∷ row (held 0 [] (at "b" (vehicle 0 (inl tt)) ∷ at "a" (vehicle 0 (inl tt)) ∷ [])) false
    ∷ row (held 1 (at "1" (running [] ((1, silent) ∷ (2, silent) ∷ [])) ∷ []) []) true
    ∷ row (held 1 (at "1" (running [] ((2, silent) ∷ (2, silent) ∷ [])) ∷ []) []) false
    -- the count is that of the keys without '@', or that of all, and no other
    ∷ row (held 1 both []) true
    ∷ row (held 2 both []) true
    ∷ row (held 0 both []) false
    ∷ row (held 3 both []) false
    -- a key is its record's: a trip id of 64 bytes, the id with its date, the incomplete key with the feed's own id
    ∷ row (held 1 ((replicate 64 97, plain) ∷ []) []) true
    ∷ row (held 1 ((replicate 65 97, plain) ∷ []) []) false
    ∷ row (held 0 ((replicate 64 97 ++ text "@a", plain) ∷ []) []) false
    ∷ row (held 1 ((key_of "f", running route []) ∷ []) []) true
    ∷ row (held 1 ((key_of "g", running route []) ∷ []) []) false
    -- a buffer: the byte 1, version, feeds, and zeros alone
    ∷ row (state_of (1 ∷ 0 ∷ 0 ∷ 0 ∷ [])) (some no_state)
    ∷ row (state_of (2 ∷ 0 ∷ 0 ∷ 0 ∷ [])) none
    ∷ row (state_of (1 ∷ 0 ∷ 0 ∷ 1 ∷ [])) none
    ∷ []

pub worked : Holds table
unfolding table lex_of incomplete_key key_ok count_without_at feed_valid within valid state_of
worked =
    refl also refl also refl also refl also refl also refl also refl also refl also refl
    also refl also refl also refl also refl also refl also refl also refl also refl also refl
    also refl also refl also tt
