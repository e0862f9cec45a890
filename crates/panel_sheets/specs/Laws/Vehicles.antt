-- Law. A vehicle sheet's questions in their order.
use Rattle.std.specs.Prelude.{◌≡◌, Bool, ◌&&◌, List, ℕ, ℤ, pos, ◌-ℤ◌, leb, length, Option}
use Rattle.std.proofs.Math.Path.{refl, sym, ap}
use Rattle.std.proofs.Common.{◌∙◌, arith}
use Rattle.std.proofs.Math.Bool.{true, false, cond}
use Rattle.std.proofs.Math.Option.{Option as LogicOption, none, some}
use Rattle.basics.specs.Laws.Options.{none_some}
use Rattle.maps.specs.Map.{ascending}
use Rattle.maps.specs.Order.{texts}
use Rattle.formats.specs.Number.{zag}
use Rattle.formats.specs.Format.{Value}
use Rattle.formats_judge.specs.Judged.{ok, first_failing, verdict}
use Rattle.formats_read.specs.Laws.Here.{whole_here, halves}
use Rattle.decode.specs.Trip.{instant}
use Rattle.overlay.specs.State.{State, Vehicles, vehicle_sheet}
use Rattle.overlay.specs.Image.{state_of}
use Rattle.overlay.specs.Change.{after_vehicles}
use Rattle.overlay_bodies.specs.Promises.Bodies.{VehiclesAlone}
use Rattle.overlay_frame.specs.Promises.Changes.{Changes}
use Rattle.panel.specs.Outcome.{Outcome, refused, need, need_some}
use Rattle.panel.specs.Questions.{Lengths, whole, feed_ok, lengths_ok}
use Rattle.panel.specs.VehicleSheet.{keys_ascend, vehicles_in, vehicle_sheet_asks, vehicles_ask}
use Rattle.panel.specs.Promises.Ends.{changed_state, vehicles_outcome, vehicle_sheet_of}
use Rattle.panel.proofs.Laws.Lawful.{due_is}
use Rattle.panel_output.specs.declared.Ending.{Ending}
use Rattle.panel_output.specs.Promises.Ending.{outcome_of, put_ending}
use Rattle.panel_output.specs.Laws.Changed.{changed_outcome}
use Rattle.panel_questions.specs.Promises.Numbers.{formed, timed, vehicle_number, ClockIs}
use Rattle.panel_questions.specs.Laws.Whole.{some_is, all_read}

-- a sheet that is whole and whose keys ascend: its vehicles
module _ (sheet : List ℕ) (v : Value vehicle_sheet) where
  alone : whole vehicle_sheet sheet ≡ some v → ascending texts v.1 ≡ true → VehiclesAlone sheet v.1
  alone e t = record {
    here = (halves (whole_here vehicle_sheet sheet v (all_read vehicle_sheet sheet v e))).second;
    ascends = t;
  }

  vehicles_of : vehicles_in sheet ≡ some v → VehiclesAlone sheet v.1
  vehicles_of e = go (whole vehicle_sheet sheet) refl e
    where
      pick : (u : Value vehicle_sheet) (b : Bool) → whole vehicle_sheet sheet ≡ some u → ascending texts u.1 ≡ b
          → cond b (some u) none ≡ some v → VehiclesAlone sheet v.1
      pick u true k t h =
          let i = some_is h in alone (k ∙ ap some i) (ap (λ u. ascending texts u.1) (sym i) ∙ t)
      pick u false k t h = none_some h

      go : (o : LogicOption (Value vehicle_sheet)) → whole vehicle_sheet sheet ≡ o → keys_ascend o ≡ some v
          → VehiclesAlone sheet v.1
      go none k h = none_some h
      go (some u) k h = pick u (ascending texts u.1) k refl h

-- one value's questions 5 and 6
value_refused : (b five six seven c : Bool) {n : ℕ} (o : Outcome)
    → n ≡ cond b (timed (first_failing five six seven) c) 5 → (n ≡ 0 → ⊥)
    → need (b && five) 5 (need (six && c) 6 o) ≡ refused n
value_refused false five six seven c o e z = ap refused (sym e)
value_refused true false six seven c o e z = ap refused (sym e)
value_refused true true false seven c o e z = ap refused (sym e)
value_refused true true true true true o e z = absurd (z e)
value_refused true true true true false o e z = ap refused (sym e)
value_refused true true true false true o e z = absurd (z e)
value_refused true true true false false o e z = ap refused (sym e)

record Fine (b five six c : Bool) : Type 0 where
  feed : b ≡ true
  fifth : five ≡ true
  sixth : six ≡ true
  clock : c ≡ true

value_fine : (b five six seven c : Bool) → 0 ≡ cond b (timed (first_failing five six seven) c) 5 → Fine b five six c
value_fine false five six seven c e = absurd (omega (arith, e))
value_fine true false six seven c e = absurd (omega (arith, e))
value_fine true true false seven c e = absurd (omega (arith, e))
value_fine true true true true true e = record { feed = refl; fifth = refl; sixth = refl; clock = refl }
value_fine true true true true false e = absurd (omega (arith, e))
value_fine true true true false true e = record { feed = refl; fifth = refl; sixth = refl; clock = refl }
value_fine true true true false false e = absurd (omega (arith, e))

-- QUESTION 1
pub vehicles_unsized : (L : Lengths) (old f sheet : List ℕ) (clock : ℤ) (new : ℕ) (work : List ℕ)
    → lengths_ok L old new L.overlay work L.work.vehicle_sheet ≡ false
    → refused 1 ≡ vehicle_sheet_of L old f sheet clock new work
unfolding vehicle_sheet_asks
vehicles_unsized L old f sheet clock new work h = rw h refl

module _ (L : Lengths) (old f sheet : List ℕ) (clock : ℤ) (new : ℕ) (work : List ℕ)
    (h : lengths_ok L old new L.overlay work L.work.vehicle_sheet ≡ true) where
  abbrev asks : State → Outcome
  asks s = need (leb (length sheet) 1048576) 3 (need_some (vehicles_in sheet) 4 (vehicles_outcome L old f clock s))

  -- QUESTION 2
  pub vehicles_closed : state_of old ≡ none → refused 2 ≡ vehicle_sheet_of L old f sheet clock new work
  unfolding vehicle_sheet_asks
  vehicles_closed e = rw (h, e) refl

  vehicles_open : {s : State} → state_of old ≡ some s → vehicle_sheet_of L old f sheet clock new work ≡ asks s
  unfolding vehicle_sheet_asks
  vehicles_open e = rw (h, e) refl

  -- QUESTIONS 3 TO 6
  module _ {n limit : ℕ} {c : Bool} (T : ClockIs clock c limit) (N : n ≡ vehicle_number f sheet c) {s : State}
      (i : state_of old ≡ some s) where
    numbered : n ≡ vehicle_number f sheet (ok 6 instant clock)
    numbered = N ∙ ap (vehicle_number f sheet) T.six

    pub vehicles_refused : (n ≡ 0 → ⊥) → refused n ≡ vehicle_sheet_of L old f sheet clock new work
    unfolding vehicle_number vehicles_ask
    vehicles_refused z = sym (vehicles_open i ∙ go (leb (length sheet) 1048576) (vehicles_in sheet) numbered)
      where
        go : (b : Bool) (o : LogicOption (Value vehicle_sheet))
            → n ≡ cond b
            (formed o (λ v. cond (feed_ok f) (timed (verdict vehicle_sheet v) (ok 6 instant clock)) 5)) 3
            → need b 3 (need_some o 4 (vehicles_outcome L old f clock s)) ≡ refused n
        go false o e = ap refused (sym e)
        go true none e = ap refused (sym e)
        go true (some v) e =
            value_refused (feed_ok f) (ok 5 vehicle_sheet v) (ok 6 vehicle_sheet v) (ok 7 vehicle_sheet v)
            (ok 6 instant clock) (changed_state L old (after_vehicles f v.1 clock s)) e z

    -- or all are answered by yes
    record Sheet : Type 0 where
      vehicles : Vehicles
      stand : VehiclesAlone sheet vehicles
      limited : zag limit ≡ clock -ℤ pos 900
      is : vehicle_sheet_of L old f sheet clock new work ≡ changed_state L old (after_vehicles f vehicles clock s)

    vehicles_asked : n ≡ 0 → Sheet
    unfolding vehicle_number vehicles_ask
    vehicles_asked z =
        go (leb (length sheet) 1048576) (vehicles_in sheet) refl (sym z ∙ numbered) (vehicles_open i)
      where
        go : (b : Bool) (o : LogicOption (Value vehicle_sheet)) → vehicles_in sheet ≡ o
            → 0 ≡ cond b
            (formed o (λ v. cond (feed_ok f) (timed (verdict vehicle_sheet v) (ok 6 instant clock)) 5)) 3
            → vehicle_sheet_of L old f sheet clock new work
            ≡ need b 3 (need_some o 4 (vehicles_outcome L old f clock s))
            → Sheet
        go false o w e k = absurd (omega (arith, e))
        go true none w e k = absurd (omega (arith, e))
        go true (some v) w e k =
            let F = value_fine (feed_ok f) (ok 5 vehicle_sheet v) (ok 6 vehicle_sheet v) (ok 7 vehicle_sheet v)
            (ok 6 instant clock) e in
            record {
              vehicles = v.1;
              stand = vehicles_of sheet v w;
              limited = T.limited (T.six ∙ F.clock);
              is = k ∙ rw (F.feed, F.fifth, F.sixth, F.clock) refl;
            }

    -- accepted, or without room
    pub vehicles_accepted : {l m : List ℕ} {q : Option ℕ} {r : Ending} → n ≡ 0 → new ≡ length l
        → ((xs : Vehicles) → zag limit ≡ clock -ℤ pos 900 → VehiclesAlone sheet xs
        → Changes l m q (after_vehicles f xs clock s))
        → r ≡ put_ending q → outcome_of m r ≡ vehicle_sheet_of L old f sheet clock new work
    vehicles_accepted {m} z k C e =
        let S = vehicles_asked z in
        let d = due_is L old new L.overlay work L.work.vehicle_sheet h in
        let s' = after_vehicles f S.vehicles clock s in
        ap (outcome_of m) e ∙ changed_outcome L old s' (sym k ∙ d) (C S.vehicles S.limited S.stand)
        ∙ sym S.is
