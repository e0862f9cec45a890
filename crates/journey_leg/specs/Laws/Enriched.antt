-- Law. The leg and the middle stop that are written are those of the definition.
use Rattle.std.specs.Prelude.{◌≡◌, map}
use Rattle.std.proofs.Math.Path.{refl}
use Rattle.std.proofs.Common.{inl}
use Rattle.std.proofs.Math.Option.{Option}
use Rattle.formats.specs.Format.{Value}
use Rattle.overlay.specs.Records.{Feeds}
use Rattle.overlay.specs.Lookup.{FeedTrip, get_vehicle_for_trip}
use Rattle.journey.specs.Card.{transit, middle, transit_of, transit_value, middle_of, middle_value}
use Rattle.journey.specs.Times.{arrival, departure, apply_time}
use Rattle.journey.specs.Enrich.{trip_rt, cancels, departs, arrives, live, enrich_middle, enrich_transit}
use Rattle.journey_times.specs.Promises.Realtime.{realtime_of}
use Rattle.journey_times.specs.declared.StopRealtime.{StopRealtime}
use Rattle.journey_leg.specs.declared.LegRealtime.{LegRealtime}
use Rattle.journey_leg.specs.Promises.Leg.{new_leg, new_middle}

pub middle_is : (r : Option FeedTrip) (v : Value middle) (a d : StopRealtime)
    → realtime_of a ≡ apply_time r arrival v.1.0 (inl tt) v.0
    → realtime_of d ≡ apply_time r departure v.1.1.0 (inl tt) v.0
    → new_middle a d v ≡ middle_value (enrich_middle r (middle_of v))
unfolding enrich_middle
middle_is r v a d e f = rw (← e, ← f) refl

module _ (B : Feeds) (v : Value transit) where
  pub leg_is : (R : LegRealtime) → realtime_of R.departs ≡ departs B (transit_of v)
      → realtime_of R.arrives ≡ arrives B (transit_of v) → R.cancels ≡ cancels B (transit_of v)
      → new_leg R (get_vehicle_for_trip B (transit_of v).trip) v (
        map (λ m. middle_value (enrich_middle (trip_rt B (transit_of v)) (middle_of m))) (transit_of v).middles,
        (transit_of v).payload,
      )
      ≡ transit_value (enrich_transit B (transit_of v))
  unfolding enrich_transit live
  leg_is R e f g = rw (← e, ← f, ← g) refl
