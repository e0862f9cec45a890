-- Promise. A transit leg finished by look-ups in a state.
use Rattle.std.specs.Prelude.{◌≡◌, true, List, map, ℕ, ◌-◌, ◌≤◌, length, take, drop, Option}
use Rattle.basics.specs.Lists.{All}
use Rattle.maps.specs.Map.{ascending}
use Rattle.maps.specs.Order.{texts}
use Rattle.formats.specs.Readers.{many_w}
use Rattle.formats.specs.Format.{Value, list, write}
use Rattle.formats_read.specs.Promises.Lists.{Many}
use Rattle.formats_read.specs.Promises.Here.{Here}
use Rattle.formats_write.specs.Promises.Adds.{Adds}
use Rattle.overlay.specs.State.{State, overlay, feeds_of}
use Rattle.overlay.specs.Records.{shown}
use Rattle.overlay.specs.Lookup.{get_vehicle_for_trip}
use Rattle.overlay.proofs.Laws.Within.{Judged56}
use Rattle.overlay_resolve.specs.Promises.Shown.{FoundIn}
use Rattle.overlay_vehicle.specs.Promises.Vehicle.{Sees}
use Rattle.journey.specs.Card.{transit, leg, transit_of, transit_value}
use Rattle.journey.specs.Enrich.{trip_rt, departs, arrives, cancels, enrich_transit, enrich_leg}
use Rattle.journey.proofs.Laws.Found.{FeedsJudged}
use Rattle.journey_times.specs.Promises.Realtime.{realtime_of}
use Rattle.journey_leg.specs.declared.LegRealtime.{LegRealtime}
use Rattle.journey_stops.specs.Promises.Stops.{Holds}
use Rattle.journey_finish.specs.declared.RowPlace.{RowPlace}
use Rattle.vehicle_place.specs.declared.VehiclePlace.{VehiclePlace}

-- the state that stands in b, whose feeds ascend and are within the questions
pub record StateIn (b : List ℕ) (st : State) : Type 0 where
  pub end : ℕ
  pub here : Here overlay b 0 end st
  pub up : ascending texts (feeds_of st) ≡ true
  pub judged : FeedsJudged (shown st)

-- the record of the leg at p
pub record LegResolved (s : List ℕ) (p : ℕ) (b : List ℕ) (r : Option (ℕ × ℕ)) : Type 0 where
  pub to : {q : ℕ} {v : Value transit} → Here transit s p q v → Judged56 transit v → {st : State} → StateIn b st
      → FoundIn b (trip_rt (shown st) (transit_of v)) r

-- where it stands, and the id of its feed
pub record RowAt (s : List ℕ) (p : ℕ) (b : List ℕ) (r : RowPlace) : Type 0 where
  pub forward : r.from ≤ r.to
  pub within : r.to ≤ length b
  pub holds : {q : ℕ} {v : Value transit} → Here transit s p q v → Judged56 transit v → {st : State} → StateIn b st
      → Holds b r.row (take (r.to - r.from) (drop r.from b)) (trip_rt (shown st) (transit_of v))

-- what look-ups give for the leg at p
pub record Looks (s : List ℕ) (p : ℕ) (b : List ℕ) (R : LegRealtime) : Type 0 where
  pub departs : {q : ℕ} {v : Value transit} → Here transit s p q v → Judged56 transit v → {st : State} → StateIn b st
      → realtime_of R.departs ≡ departs (shown st) (transit_of v)
  pub arrives : {q : ℕ} {v : Value transit} → Here transit s p q v → Judged56 transit v → {st : State} → StateIn b st
      → realtime_of R.arrives ≡ arrives (shown st) (transit_of v)
  pub cancels : {q : ℕ} {v : Value transit} → Here transit s p q v → Judged56 transit v → {st : State} → StateIn b st
      → R.cancels ≡ cancels (shown st) (transit_of v)

-- its vehicle
pub record LegVehicle (s : List ℕ) (p : ℕ) (b : List ℕ) (r : Option VehiclePlace) : Type 0 where
  pub to : {q : ℕ} {v : Value transit} → Here transit s p q v → {st : State} → StateIn b st
      → Sees r (get_vehicle_for_trip (shown st) (transit_of v).trip)

-- the leg from p to q, finished, where the record's place is known, and without that
pub record FinishesBy (s : List ℕ) (p q : ℕ) (b : List ℕ) (x : Option ℕ) (f : List ℕ) (l : List ℕ) (w : Option ℕ)
    (m : List ℕ) (r : Option ℕ) : Type 0 where
  pub adds : {v : Value transit} → Here transit s p q v → Judged56 transit v → {st : State} → StateIn b st
      → Holds b x f (trip_rt (shown st) (transit_of v))
      → Adds l w m r (write transit (transit_value (enrich_transit (shown st) (transit_of v))))

pub record Finishes (s : List ℕ) (p q : ℕ) (b : List ℕ) (l : List ℕ) (w : Option ℕ) (m : List ℕ)
    (r : Option ℕ) : Type 0 where
  pub adds : {v : Value transit} → Here transit s p q v → Judged56 transit v → {st : State} → StateIn b st
      → Adds l w m r (write transit (transit_value (enrich_transit (shown st) (transit_of v))))

-- any leg, the n legs from p on, and the list of them
pub record LegDone (s : List ℕ) (p q : ℕ) (b : List ℕ) (l : List ℕ) (w : Option ℕ) (m : List ℕ)
    (r : Option ℕ) : Type 0 where
  pub adds : {v : Value leg} → Here leg s p q v → Judged56 leg v → {st : State} → StateIn b st
      → Adds l w m r (write leg (enrich_leg (shown st) v))

pub record EachDone (s : List ℕ) (p n : ℕ) (b : List ℕ) (l : List ℕ) (w : Option ℕ) (m : List ℕ)
    (r : Option ℕ) : Type 0 where
  pub adds : {st : State} → StateIn b st → (vs : List (Value leg)) (q : ℕ) → length vs ≡ n → Many leg s p q vs
      → All (Judged56 leg) vs → Adds l w m r (many_w (λ v. write leg (enrich_leg (shown st) v)) vs)

pub record LegsDone (s : List ℕ) (p : ℕ) (b : List ℕ) (l : List ℕ) (w : Option ℕ) (m : List ℕ)
    (r : Option ℕ) : Type 0 where
  pub adds : {st : State} → StateIn b st → {q : ℕ} {vs : List (Value leg)} → Here (list 16 leg) s p q vs
      → Judged56 (list 16 leg) vs → Adds l w m r (write (list 16 leg) (map (enrich_leg (shown st)) vs))
