-- Law. The endpoints of a leg by look-ups, and the leg that is written is the definition's.
use Rattle.std.specs.Prelude.{◌≡◌, refl, Bool, false, List, ℕ, ◌-◌, ℤ, take, drop, Option, Some, None}
use Rattle.std.proofs.Common.{ap, ◌∙◌, inr, SFits, to_z, of_z, to_z-of_z}
use Rattle.std.specs.Int.{w64}
use Rattle.formats.specs.Format.{Value, write}
use Rattle.formats_write.specs.Promises.Adds.{Adds}
use Rattle.formats_write.specs.Laws.Adds.{same}
use Rattle.formats_write.specs.Laws.Slices.{slice_is}
use Rattle.formats_read.specs.Promises.Here.{Here}
use Rattle.formats_read.specs.Promises.Reads.{ReadsNumber, ReadsText}
use Rattle.formats_read.specs.Laws.Here.{halves, number_here}
use Rattle.formats_skip.specs.Laws.Leads.{lead_field}
use Rattle.overlay.specs.Lookup.{get_vehicle_for_trip}
use Rattle.overlay.specs.Records.{Feeds}
use Rattle.overlay.proofs.Laws.Within.{Judged56, left, right}
use Rattle.overlay_vehicle.specs.Promises.Vehicle.{Sees}
use Rattle.journey.specs.Card.{transit, transit_of, transit_value}
use Rattle.journey.specs.Times.{apply_time}
use Rattle.journey.specs.Enrich.{trip_rt, cancels, departs, arrives, enrich_transit}
use Rattle.journey_places.specs.declared.LegPlaces.{LegPlaces}
use Rattle.journey_places.specs.Promises.Places.{LegAt}
use Rattle.journey_times.specs.declared.Event.{Event}
use Rattle.journey_times.specs.declared.Event.TheVariants as events
use Rattle.journey_times.specs.declared.Known.{Known}
use Rattle.journey_times.specs.declared.StopRealtime.{StopRealtime}
use Rattle.journey_times.specs.Promises.Realtime.{event_of, Schedules, Applies, Cancels}
use Rattle.journey_leg.specs.declared.LegRealtime.{LegRealtime}
use Rattle.journey_leg.specs.Laws.Enriched.{leg_is}
use Rattle.journey_stops.specs.Promises.Stops.{Holds, LooksUp, EndpointAt, CancelsBy, LegKnown, LegAnew}
use Rattle.vehicle_place.specs.declared.VehiclePlace.{VehiclePlace}

pub endpoint_in : {s : List ℕ} {e : Event} {y n z : ℕ} {b : List ℕ} {x : Option ℕ} {f : List ℕ} {r : StopRealtime}
    {a i m j : ℕ} {k : Known} {at : ℤ} → SFits w64 at → ReadsText s y a i → ReadsNumber s n m j
    → LooksUp b x f (inr m) (take (i - a) (drop a s)) k → Schedules s z at
    → Applies e (to_z w64 (of_z w64 at)) b k r → EndpointAt s e y n z b x f r
endpoint_in {s} {e} {a} {i} {m} {at} g T N L S A = record {
  is = λ o X {m = c} {stop} {at = t} H I K J.
      let p : take (i - a) (drop a s) ≡ stop = slice_is a i s T.forward T.within ∙ T.bytes H in
      let q : m ≡ c = N.value (number_here I) in
      let u : at ≡ t = S.is (record { here = K; six = J.six }) in
      A.is o (inr m) (take (i - a) (drop a s)) (L.knows o X)
      ∙ ap (λ d. apply_time o (event_of e) d (inr m) (take (i - a) (drop a s))) (to_z-of_z g ∙ u)
      ∙ ap (λ d. apply_time o (event_of e) t (inr d) (take (i - a) (drop a s))) q
      ∙ ap (apply_time o (event_of e) t (inr c)) p;
}

module _ {b : List ℕ} {x : Option ℕ} where
  pub cancels_none : x ≡ None → CancelsBy b x false
  cancels_none e = rw e (record { is = λ f o H. rw H refl })

  pub cancels_found : {p : ℕ} {r : Bool} → x ≡ Some p → Cancels b p r → CancelsBy b x r
  cancels_found e C = rw e (record { is = λ f o H. rw H.1 (C.is H.4.1) })

module _ {s : List ℕ} {p : ℕ} {b : List ℕ} {x : Option ℕ} {f : List ℕ} {P : LegPlaces} (L : LegAt s p P)
    {d a : StopRealtime} {c : Bool} where
  pub leg_known : EndpointAt s events.Departure P.from P.board P.departure b x f d
      → EndpointAt s events.Arrival P.to P.alight P.arrival b x f a → CancelsBy b x c
      → LegKnown s p b x f (record { departs = d; arrives = a; cancels = c })
  leg_known D A C = record {
    departs = λ o X {q} {v} H J.
        let y = (halves (lead_field L.from tt H).here).first in
        let n = (halves (lead_field L.board tt H).here).first in
        let z = (halves (lead_field L.departure tt H).here).first in
        D.is o X y n z (left (right (right (right (right (right (right (right (right (right J))))))))));
    arrives = λ o X {q} {v} H J.
        let y = (halves (lead_field L.to tt H).here).first in
        let n = (halves (lead_field L.alight tt H).here).first in
        let z = (halves (lead_field L.arrival tt H).here).first in
        A.is o X y n z (left (right (right (right (right (right (right (right (right (right (right J)))))))))));
    cancels = λ o X. C.is f o X;
  }

-- THE LEG: what is written is the leg of the definition, where the record and the vehicle are those of look-up
module _ (B : Feeds) {s : List ℕ} {p q : ℕ} {v : Value transit} (H : Here transit s p q v)
    (J : Judged56 transit v) where
  pub leg_written : {R : LegRealtime} {y : Option VehiclePlace} {b : List ℕ} {x : Option ℕ} {f : List ℕ} {l m : List ℕ}
      {w r : Option ℕ} → Holds b x f (trip_rt B (transit_of v)) → Sees y (get_vehicle_for_trip B (transit_of v).trip)
      → LegKnown s p b x f R → LegAnew R y s p q b x f l w m r
      → Adds l w m r (write transit (transit_value (enrich_transit B (transit_of v))))
  unfolding departs arrives cancels
  leg_written {R} X Y K A =
      let o = trip_rt B (transit_of v) in
      same (A.adds o X (get_vehicle_for_trip B (transit_of v).trip) Y H J)
      (ap (write transit) (leg_is B v R (K.departs o X H J) (K.arrives o X H J) (K.cancels o X)))
