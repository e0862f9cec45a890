-- Promise. A transit leg written anew: what stands in it by what look-ups gave.
use Rattle.std.specs.Prelude.{Bool, cond, ◌||◌, List, ◌++◌, ℕ, ℤ, Option}
use Rattle.std.proofs.Common.{inr}
use Rattle.std.proofs.Math.Option.{Option as LogicOption}
use Rattle.basics.specs.Options.{Maybe}
use Rattle.formats.specs.Number.{zig, number_w}
use Rattle.formats.specs.Format.{Value, signed, optional, write}
use Rattle.formats_read.specs.Promises.Fields.{part, tail, with}
use Rattle.formats_read.specs.Promises.Here.{Here, Field}
use Rattle.formats_write.specs.Promises.Adds.{Adds}
use Rattle.formats_write.specs.Promises.Given.{optional_w}
use Rattle.overlay.specs.State.{Vehicle, latitude_of, longitude_of, updated_of}
use Rattle.overlay_vehicle.specs.Promises.Vehicle.{Sees}
use Rattle.journey.specs.Card.{transit, middle}
use Rattle.journey.specs.Enrich.{taken, placed}
use Rattle.journey_times.specs.declared.StopRealtime.{StopRealtime}
use Rattle.journey_places.specs.declared.ChangingPlaces.{ChangingPlaces}
use Rattle.journey_places.specs.Promises.Places.{ChangingAt}
use Rattle.journey_leg.specs.declared.LegRealtime.{LegRealtime}
use Rattle.journey_leg.specs.Promises.Opens.{Opens}
use Rattle.vehicle_place.specs.declared.VehiclePlace.{VehiclePlace}

-- either endpoint has realtime
abbrev pub live_of : LegRealtime → Bool
live_of R = R.departs.has || R.arrives.has

-- the writing of an optional signed number that is there, and of the times and delays of two events
abbrev pub given_w : ℤ → List ℕ
given_w z = optional_w (λ z. number_w (zig z)) (inr z)

abbrev pub told_w : StopRealtime → StopRealtime → List ℕ
told_w d a = given_w d.time ++ (given_w a.time ++ (given_w d.delay ++ given_w a.delay))

-- the realtime times and delays; whether the leg is cancelled; the vehicle's place
abbrev pub new_times : Bool → StopRealtime → StopRealtime → Value (part 11 transit) → Value (part 15 transit)
    → Value (part 11 transit)
new_times b d a x u = (
  taken b d.time x.0,
  (taken b a.time x.1.0, (taken b d.delay x.1.1.0, (taken b a.delay x.1.1.1.0, u))),
)

abbrev pub new_flag : Bool → Value (part 15 transit) → Value (part 16 transit) → Value (part 15 transit)
new_flag b x u = (cond b 1 x.0, u)

abbrev pub new_place : LogicOption Vehicle → Value (part 16 transit) → Value (part 19 transit) → Value (part 16 transit)
new_place o x u =
    (placed latitude_of o x.0, (placed longitude_of o x.1.0, (placed updated_of o x.1.1.0, u)))

-- what each writer adds, where the part that it writes stands from p on and ends at t
pub record PutsTimes (b : Bool) (d a : StopRealtime) (s : List ℕ) (p t : ℕ) (l : List ℕ) (w : Option ℕ) (m : List ℕ)
    (r : Option ℕ) : Type 0 where
  pub opens : {e : ℕ} {x : Value (part 11 transit)} → Field 4 (part 11 transit) tt s p e x t
      → Opens (part 11 transit) (part 15 transit) l w m r (new_times b d a x)

pub record PutsFlag (b : Bool) (s : List ℕ) (p t : ℕ) (l : List ℕ) (w : Option ℕ) (m : List ℕ)
    (r : Option ℕ) : Type 0 where
  pub opens : {e : ℕ} {x : Value (part 15 transit)} → Field 1 (part 15 transit) tt s p e x t
      → Opens (part 15 transit) (part 16 transit) l w m r (new_flag b x)

pub record PutsPlace (v : Option VehiclePlace) (s : List ℕ) (p t : ℕ) (l : List ℕ) (w : Option ℕ) (m : List ℕ)
    (r : Option ℕ) : Type 0
  where
    pub opens : (o : LogicOption Vehicle) → Sees v o → {e : ℕ} {x : Value (part 16 transit)}
        → Field 3 (part 16 transit) tt s p e x t
        → Opens (part 16 transit) (part 19 transit) l w m r (new_place o x)

pub record PutsMarks (R : LegRealtime) (s : List ℕ) (p n t : ℕ) (l : List ℕ) (w : Option ℕ) (m : List ℕ)
    (r : Option ℕ) : Type 0
  where
    pub opens : {e : ℕ} {x : Value (part 11 transit)} → Field 4 (part 11 transit) tt s p e x n
        → Field 1 (part 15 transit) tt s n e (tail 4 (part 11 transit) tt x) t
        → Opens (part 11 transit) (part 16 transit) l w m r
        (λ u. new_times (live_of R) R.departs R.arrives x (new_flag R.cancels (tail 4 (part 11 transit) tt x) u))

-- the leg up to its middle stops, with u from them on
abbrev pub new_leg : LegRealtime → LogicOption Vehicle → Value transit → Value (part 19 transit) → Value transit
new_leg R o v u =
    with 11 transit tt v (new_times (live_of R) R.departs R.arrives (tail 11 transit tt v)
    (new_flag R.cancels (tail 15 transit tt v) (new_place o (tail 16 transit tt v) u)))

pub record PutsFore (R : LegRealtime) (y : Option VehiclePlace) (s : List ℕ) (p : ℕ) (c : ChangingPlaces) (l : List ℕ)
    (w : Option ℕ) (m : List ℕ) (r : Option ℕ) : Type 0 where
  pub opens : ChangingAt s p c → (o : LogicOption Vehicle) → Sees y o → {e : ℕ} {v : Value transit}
      → Here transit s p e v
      → Opens transit (part 19 transit) l w m r (new_leg R o v)

-- an event of a middle stop, and the stop
pub record PutsEvent (x : StopRealtime) (s : List ℕ) (p q : ℕ) (l : List ℕ) (w : Option ℕ) (m : List ℕ)
    (r : Option ℕ) : Type 0
  where
    pub adds : {lo hi : ℤ} {v : Maybe ℤ} → Here (optional (signed lo hi)) s p q v
        → Adds l w m r (write (optional (signed lo hi)) (taken x.has x.time v))

abbrev pub new_middle : StopRealtime → StopRealtime → Value middle → Value middle
new_middle a d v =
    with 3 middle tt v (taken a.has a.time v.1.1.1.0, taken d.has d.time v.1.1.1.1)

pub record PutsMiddle (a d : StopRealtime) (s : List ℕ) (p q : ℕ) (l : List ℕ) (w : Option ℕ) (m : List ℕ)
    (r : Option ℕ)
    : Type 0 where
  pub adds : {v : Value middle} → Here middle s p q v → Adds l w m r (write middle (new_middle a d v))
