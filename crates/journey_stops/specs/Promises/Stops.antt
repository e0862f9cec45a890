-- Promise. Look-ups for the stops of a leg, by the record of its trip; its middle stops, and the leg, written anew.
use Rattle.std.specs.Prelude.{◌≡◌, Bool, List, map, ℕ, ℤ, length, Option, Some, None}
use Rattle.std.proofs.Common.{inl, inr}
use Rattle.std.proofs.Math.Option.{Option as LogicOption, none, some}
use Rattle.basics.specs.Lists.{All}
use Rattle.basics.specs.Options.{Maybe}
use Rattle.formats.specs.Readers.{many_w}
use Rattle.formats.specs.Format.{Format, Value, list, ◌&◌, write}
use Rattle.formats_read.specs.Promises.Fields.{tail}
use Rattle.formats_read.specs.Promises.Here.{Here}
use Rattle.formats_read.specs.Promises.Lists.{Many}
use Rattle.formats_write.specs.Promises.Adds.{Adds}
use Rattle.decode.specs.Trip.{id, number32, trip}
use Rattle.overlay.specs.Lookup.{FeedTrip}
use Rattle.overlay.specs.State.{Vehicle}
use Rattle.overlay.proofs.Laws.Within.{Judged56}
use Rattle.overlay_vehicle.specs.Promises.Vehicle.{Sees}
use Rattle.journey.specs.Card.{scheduled, middle, transit, middle_of, middle_value, transit_of}
use Rattle.journey.specs.Times.{arrival, departure, apply_time}
use Rattle.journey.specs.Enrich.{is_cancelled, enrich_middle}
use Rattle.journey_times.specs.declared.Event.{Event}
use Rattle.journey_times.specs.declared.StopRealtime.{StopRealtime}
use Rattle.journey_times.specs.declared.Known.{Known}
use Rattle.journey_times.specs.Promises.Realtime.{realtime_of, event_of, Knows}
use Rattle.journey_leg.specs.declared.LegRealtime.{LegRealtime}
use Rattle.journey_leg.specs.Promises.Leg.{new_leg}
use Rattle.journey_stops.specs.declared.StopEvents.{StopEvents}
use Rattle.vehicle_place.specs.declared.VehiclePlace.{VehiclePlace}

-- the record o of a trip stands in the overlay b at the place that was found, in feed f
abbrev pub Holds : List ℕ → Option ℕ → List ℕ → LogicOption FeedTrip → Type 0
Holds b None f o = o ≡ none
Holds b (Some p) f o =
    (F : FeedTrip) × (o ≡ some F) × (F.0 ≡ f) × Judged56 trip F.1 × ((q : ℕ) × Here trip b p q F.1)

-- what is known of a stop
pub record LooksUp (b : List ℕ) (x : Option ℕ) (f : List ℕ) (n : Maybe ℕ) (y : List ℕ) (k : Known) : Type 0 where
  pub knows : (o : LogicOption FeedTrip) → Holds b x f o → Knows b k o n y

-- arrival and departure of a stop whose scheduled times stand at p
pub record EventsAt (s : List ℕ) (p : ℕ) (b : List ℕ) (k : Known) (r : StopEvents) : Type 0 where
  pub arrives : {f : Format} {q : ℕ} {x : Value (scheduled & (scheduled & f))}
      → Here (scheduled & (scheduled & f)) s p q x
      → Judged56 (scheduled & (scheduled & f)) x → (o : LogicOption FeedTrip) (n : Maybe ℕ) (y : List ℕ)
      → Knows b k o n y
      → realtime_of r.arrival ≡ apply_time o arrival x.0 n y
  pub departs : {f : Format} {q : ℕ} {x : Value (scheduled & (scheduled & f))}
      → Here (scheduled & (scheduled & f)) s p q x
      → Judged56 (scheduled & (scheduled & f)) x → (o : LogicOption FeedTrip) (n : Maybe ℕ) (y : List ℕ)
      → Knows b k o n y
      → realtime_of r.departure ≡ apply_time o departure x.1.0 n y

-- the events of the middle stop at p
pub record MiddleEvents (s : List ℕ) (p : ℕ) (b : List ℕ) (x : Option ℕ) (f : List ℕ) (r : StopEvents) : Type 0 where
  pub arrives : {q : ℕ} {v : Value middle} → Here middle s p q v → Judged56 middle v → (o : LogicOption FeedTrip)
      → Holds b x f o → realtime_of r.arrival ≡ apply_time o arrival v.1.0 (inl tt) v.0
  pub departs : {q : ℕ} {v : Value middle} → Here middle s p q v → Judged56 middle v → (o : LogicOption FeedTrip)
      → Holds b x f o → realtime_of r.departure ≡ apply_time o departure v.1.1.0 (inl tt) v.0

abbrev pub stop_by : LogicOption FeedTrip → Value middle → Value middle
stop_by o v = middle_value (enrich_middle o (middle_of v))

pub record StopAnew (s : List ℕ) (p q : ℕ) (b : List ℕ) (x : Option ℕ) (f : List ℕ) (l : List ℕ) (w : Option ℕ)
    (m : List ℕ) (r : Option ℕ) : Type 0 where
  pub adds : (o : LogicOption FeedTrip) → Holds b x f o → {v : Value middle} → Here middle s p q v → Judged56 middle v
      → Adds l w m r (write middle (stop_by o v))

pub record StopsAnew (s : List ℕ) (p n : ℕ) (b : List ℕ) (x : Option ℕ) (f : List ℕ) (l : List ℕ) (w : Option ℕ)
    (m : List ℕ) (r : Option ℕ) : Type 0 where
  pub adds : (o : LogicOption FeedTrip) → Holds b x f o → (vs : List (Value middle)) (q : ℕ) → length vs ≡ n
      → Many middle s p q vs → All (Judged56 middle) vs
      → Adds l w m r (many_w (λ v. write middle (stop_by o v)) vs)

pub record ListAnew (s : List ℕ) (p : ℕ) (b : List ℕ) (x : Option ℕ) (f : List ℕ) (l : List ℕ) (w : Option ℕ)
    (m : List ℕ) (r : Option ℕ) : Type 0 where
  pub adds : (o : LogicOption FeedTrip) → Holds b x f o → {q : ℕ} {vs : List (Value middle)}
      → Here (list 64 middle) s p q vs
      → Judged56 (list 64 middle) vs → Adds l w m r (write (list 64 middle) (map (stop_by o) vs))

-- a leg by what look-ups gave for it
pub record LegAnew (R : LegRealtime) (y : Option VehiclePlace) (s : List ℕ) (p q : ℕ) (b : List ℕ) (x : Option ℕ)
    (f : List ℕ) (l : List ℕ) (w : Option ℕ) (m : List ℕ) (r : Option ℕ) : Type 0 where
  pub adds : (o : LogicOption FeedTrip) → Holds b x f o → (u : LogicOption Vehicle) → Sees y u → {v : Value transit}
      → Here transit s p q v → Judged56 transit v
      → Adds l w m r (write transit (new_leg R u v (map (stop_by o) (tail 19 transit tt v).0, tail 20 transit tt v)))

-- an endpoint of a leg, whose stop, sequence and scheduled time stand at y, n and z
pub record EndpointAt (s : List ℕ) (e : Event) (y n z : ℕ) (b : List ℕ) (x : Option ℕ) (f : List ℕ)
    (r : StopRealtime) : Type 0 where
  pub is : (o : LogicOption FeedTrip) → Holds b x f o → {i j k m : ℕ} {stop : List ℕ} {at : ℤ} → Here id s y i stop
      → Here number32 s n j m → Here scheduled s z k at → Judged56 scheduled at
      → realtime_of r ≡ apply_time o (event_of e) at (inr m) stop

pub record CancelsBy (b : List ℕ) (x : Option ℕ) (r : Bool) : Type 0 where
  pub is : (f : List ℕ) (o : LogicOption FeedTrip) → Holds b x f o → r ≡ is_cancelled o

-- what look-ups give for the leg at p
pub record LegKnown (s : List ℕ) (p : ℕ) (b : List ℕ) (x : Option ℕ) (f : List ℕ) (R : LegRealtime) : Type 0 where
  pub departs : (o : LogicOption FeedTrip) → Holds b x f o → {q : ℕ} {v : Value transit} → Here transit s p q v
      → Judged56 transit v → (let t = transit_of v in realtime_of R.departs
      ≡ apply_time o departure t.scheduled_departure (inr t.from_sequence) t.from)
  pub arrives : (o : LogicOption FeedTrip) → Holds b x f o → {q : ℕ} {v : Value transit} → Here transit s p q v
      → Judged56 transit v → (let t = transit_of v in realtime_of R.arrives
      ≡ apply_time o arrival t.scheduled_arrival (inr t.to_sequence) t.to)
  pub cancels : (o : LogicOption FeedTrip) → Holds b x f o → R.cancels ≡ is_cancelled o
