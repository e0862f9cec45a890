-- Law. What the code answers of a message's trips is question 7 of them, as a value of the overlay's format.
use Rattle.std.specs.Prelude.{ℕ, ◌≡◌, refl, Bool, true, false, cond, not, ◌&&◌, ◌||◌, List, [], ◌∷◌, ◌↔◌, leb, ltb, length}
use Rattle.std.proofs.Common.{sym, ap, ap₂, ◌∙◌, inl, inr, ltb-true, ltb-false, le-leb}
use Rattle.std.proofs.lemmas.Bool.{lt-leb}
use Rattle.basics.specs.Lists.{all}
use Rattle.basics.specs.Laws.Booleans.{and_yes, false_true}
use Rattle.formats.specs.Format.{Format, list, optional, ◌&◌, Value}
use Rattle.formats_judge.specs.Judged.{ok}
use Rattle.decode.specs.Trip.{delay, instant, number32, stop_update, trip_entry, delay_of, direction_of, updates_of}
use Rattle.decode.specs.Trip.{arrival_delay_of, arrival_time_of, departure_delay_of, departure_time_of}
use Rattle.decode.specs.Leaves.{Trips}
use Rattle.decode_slots.specs.Places.{crowded, any_crowded}
use Rattle.decode_index.specs.Leaving.{Leaving, many_trips, many_updates, trips, leaving}

-- a value that may be absent, of a format that question 7 does not ask
optional_yes : (f : Format) → ((v : Value f) → ok 7 f v ≡ true) → (v : Value (optional f)) → ok 7 (optional f) v ≡ true
optional_yes f h (inl v) = refl
optional_yes f h (inr v) = h v

delay_yes : (v : Value (optional delay)) → ok 7 (optional delay) v ≡ true
delay_yes = optional_yes delay (λ v. refl)

instant_yes : (v : Value (optional instant)) → ok 7 (optional instant) v ≡ true
instant_yes = optional_yes instant (λ v. refl)

update_yes : (u : Value (number32 & stop_update)) → ok 7 (number32 & stop_update) u ≡ true
update_yes u =
    rw (
      delay_yes (arrival_delay_of u.1),
      instant_yes (arrival_time_of u.1),
      delay_yes (departure_delay_of u.1),
      instant_yes (departure_time_of u.1),
    ) refl

updates_yes : (l : List (Value (number32 & stop_update))) → all (ok 7 (number32 & stop_update)) l ≡ true
updates_yes [] = refl
updates_yes (u ∷ l) = rw (update_yes u, updates_yes l) refl

within : (n l : ℕ) → leb n l ≡ not (ltb l n)
within n l = go (ltb l n) refl
  where
    go : (b : Bool) → ltb l n ≡ b → leb n l ≡ not b
    go true e = lt-leb n l (ltb-true l n e)
    go false e = le-leb n l (ltb-false l n e)

-- a record: its updates are counted
trip_seven : (e : Value trip_entry) → ok 7 trip_entry e ≡ not (crowded e.1)
trip_seven e =
    let t = e.1 in
    let u = updates_of t in
    rw (delay_yes (delay_of t), optional_yes number32 (λ v. refl) (direction_of t), updates_yes u)
    (and_yes (leb (length u) 128) ∙ within (length u) 128)

not_or : (a b : Bool) → (not a && not b) ≡ not (a || b)
not_or true b = refl
not_or false b = refl

each_seven : (t : Trips) → all (ok 7 trip_entry) t ≡ not (any_crowded t)
unfolding any_crowded
each_seven [] = refl
each_seven (e ∷ t) = ap₂ ◌&&◌ (trip_seven e) (each_seven t) ∙ not_or (crowded e.1) (any_crowded t)

-- whether an answer is trips
abbrev pub is_trips : Leaving → Bool
is_trips many_trips = false
is_trips many_updates = false
is_trips (trips t) = true

answer_trips : (many crowd : Bool) (t : Trips)
    → (not many && not crowd) ≡ is_trips (cond many many_trips (cond crowd many_updates (trips t)))
answer_trips true crowd t = refl
answer_trips false true t = refl
answer_trips false false t = refl

answered : (many crowd : Bool) (t : Trips) → is_trips (cond many many_trips (cond crowd many_updates (trips t))) ≡ true
    → cond many many_trips (cond crowd many_updates (trips t)) ≡ trips t
answered true crowd t e = false_true e
answered false true t e = false_true e
answered false false t e = refl

-- QUESTION 7 OF THE TRIPS IS THE CODE'S ANSWER
pub leaving_seven : (t : Trips) → ok 7 (list 2048 trip_entry) t ≡ is_trips (leaving t)
leaving_seven t =
    ap₂ ◌&&◌ (within (length t) 2048) (each_seven t) ∙ answer_trips (ltb 2048 (length t)) (any_crowded t) t

-- and then it answers these trips, and no others
pub leaving_yes : (t : Trips) → (ok 7 (list 2048 trip_entry) t ≡ true) ↔ (leaving t ≡ trips t)
leaving_yes t =
    let said = answered (ltb 2048 (length t)) (any_crowded t) t in
    (λ e. said (sym (leaving_seven t) ∙ e), λ e. leaving_seven t ∙ ap is_trips e)
