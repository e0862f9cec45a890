-- Law. Look-ups for the stops of a leg, its middle stops and the leg whole: one for each way out of the code.
use Rattle.std.specs.Prelude.{◌≡◌, List, map, ℕ, ◌-◌, ◌≤◌, ℤ, length, take, drop, Option, Some, None}
use Rattle.std.proofs.Common.{ap, ◌∙◌, inl, SFits, to_z, of_z, to_z-of_z}
use Rattle.std.proofs.Math.Option.{Option as LogicOption, some}
use Rattle.std.proofs.Math.Seq.{slice}
use Rattle.std.specs.Int.{w64}
use Rattle.basics.specs.Options.{Maybe}
use Rattle.formats.specs.Number.{number_w}
use Rattle.formats.specs.Format.{Value, number, list, ◌&◌, write}
use Rattle.formats_write.specs.Promises.Adds.{Adds}
use Rattle.formats_write.specs.Laws.Adds.{then, same}
use Rattle.formats_write.specs.Laws.Slices.{slice_is}
use Rattle.formats_read.specs.Promises.Fields.{part, tail}
use Rattle.formats_read.specs.Promises.Here.{Here}
use Rattle.formats_read.specs.Promises.Reads.{ReadsNumber, ReadsText}
use Rattle.formats_read.specs.Laws.Here.{halves}
use Rattle.formats_read.specs.Laws.Rewriting.{kept}
use Rattle.formats_skip.specs.Promises.Passes.{Passes}
use Rattle.formats_skip.specs.Laws.Passes.{any_signed}
use Rattle.formats_skip.specs.Laws.Leads.{lead_field}
use Rattle.decode.specs.Trip.{stop_update}
use Rattle.overlay.specs.Lookup.{find_stop_update}
use Rattle.overlay.proofs.Laws.Within.{Judged56, left, right, elements}
use Rattle.overlay_updates.specs.Promises.Updates.{FindsUpdate}
use Rattle.journey.specs.Card.{scheduled, middle, transit}
use Rattle.journey.specs.Times.{arrival, departure, apply_time}
use Rattle.journey.proofs.Laws.Found.{Gives, update_gives}
use Rattle.journey_places.specs.declared.ChangingPlaces.{ChangingPlaces}
use Rattle.journey_places.specs.Promises.Places.{ChangingAt}
use Rattle.journey_times.specs.declared.Event.TheVariants as events
use Rattle.journey_times.specs.declared.Known.{Known}
use Rattle.journey_times.specs.declared.Known.TheVariants as knowns
use Rattle.journey_times.specs.declared.StopRealtime.{StopRealtime}
use Rattle.journey_times.specs.Promises.Realtime.{Schedules, Applies}
use Rattle.journey_leg.specs.declared.LegRealtime.{LegRealtime}
use Rattle.journey_leg.specs.Promises.Leg.{PutsMiddle, PutsFore}
use Rattle.journey_leg.specs.Laws.Enriched.{middle_is}
use Rattle.journey_leg.specs.Laws.Opens.{closes}
use Rattle.journey_stops.specs.declared.StopEvents.{StopEvents}
use Rattle.journey_stops.specs.Promises.Stops.{LooksUp, EventsAt, MiddleEvents, StopAnew, StopsAnew, ListAnew}
use Rattle.journey_stops.specs.Promises.Stops.{LegAnew, stop_by}
use Rattle.journey_stops.specs.Laws.Advance.{list_mapped}
use Rattle.vehicle_place.specs.declared.VehiclePlace.{VehiclePlace}

-- what holds of whatever is found holds of what was
pub found_so : {A : Type 0} (P : A → Type 0) {o : LogicOption A} {a : A} → o ≡ some a → Gives P o → P a
found_so P e g = rw e at g.is

-- what is known of a stop
module _ {b : List ℕ} {x : Option ℕ} {f : List ℕ} {n : Maybe ℕ} {y : List ℕ} where
  pub known_none : x ≡ None → LooksUp b x f n y knowns.Nothing
  known_none e = rw e (record { knows = λ o H. H })

  module _ {p : ℕ} {r : Option ℕ} (e : x ≡ Some p) (U : FindsUpdate b p f n y r) where
    pub known_trip : r ≡ None → LooksUp b x f n y (knowns.Trip p)
    known_trip g = rw e (record {
      knows = λ o H. (
        H.0,
        H.1,
        (H.4.0, record { here = H.4.1; six = H.3.six }),
        ap (λ h. find_stop_update h n y H.0.1) H.2 ∙ (U.to H.4.1).missing g,
      );
    })

    pub known_update : {u : ℕ} → r ≡ Some u → LooksUp b x f n y (knowns.Update p u)
    known_update {u} g = rw e (record {
      knows = λ o H.
          let S = (U.to H.4.1).found u g in
          let z = S.is in
          let j : Judged56 stop_update S.it =
          found_so (Judged56 stop_update) z (update_gives f y H.0.1 H.3 n) in (
            H.0,
            H.1,
            (H.4.0, record { here = H.4.1; six = H.3.six }),
            (
              S.it,
              ap (λ h. find_stop_update h n y H.0.1) H.2 ∙ z,
              (S.end, record { here = S.here; six = j.six }),
            ),
          );
    })

-- the two events of a stop
pub events_in : {s : List ℕ} {p m : ℕ} {b : List ℕ} {k : Known} {a d : ℤ} {r t : StopRealtime} → SFits w64 a
    → SFits w64 d → Schedules s p a → Passes (number 0 0) s p m → Schedules s m d
    → Applies events.Arrival (to_z w64 (of_z w64 a)) b k r → Applies events.Departure (to_z w64 (of_z w64 d)) b k t
    → EventsAt s p b k (record { arrival = r; departure = t })
events_in {s} {p} {m} {a} {d} f g A P D R T = record {
  arrives = λ {f = h} {q} {x} H J o n y K.
      let e : a ≡ x.0 = A.is (record { here = (halves H).first; six = (left J).six }) in
      R.is o n y K ∙ ap (λ z. apply_time o arrival z n y) (to_z-of_z f ∙ e);
  departs = λ {f = h} {q} {x} H J o n y K.
      let z = (any_signed P).to (halves H).first in
      let G : Here (scheduled & h) s m q x.1 = rw z (halves H).second in
      let e : d ≡ x.1.0 = D.is (record { here = (halves G).first; six = (left (right J)).six }) in
      T.is o n y K ∙ ap (λ z. apply_time o departure z n y) (to_z-of_z g ∙ e);
}

-- those of a middle stop, whose id stands from a up to e
pub middle_in : {s : List ℕ} {p a e : ℕ} {b : List ℕ} {x : Option ℕ} {f : List ℕ} {k : Known} {r : StopEvents}
    → ReadsText s p a e → LooksUp b x f (inl tt) (take (e - a) (drop a s)) k → EventsAt s e b k r
    → MiddleEvents s p b x f r
middle_in {s} {p} {a} {e} T L E = record {
  arrives = λ {q} {v} H J o X.
      let z = T.next (halves H).first in
      let G : Here (part 1 middle) s e q v.1 = rw z (halves H).second in
      let i : take (e - a) (drop a s) ≡ v.0 =
      slice_is a e s T.forward T.within ∙ T.bytes (halves H).first in
      E.arrives G (right J) o (inl tt) (take (e - a) (drop a s)) (L.knows o X)
      ∙ ap (apply_time o arrival v.1.0 (inl tt)) i;
  departs = λ {q} {v} H J o X.
      let z = T.next (halves H).first in
      let G : Here (part 1 middle) s e q v.1 = rw z (halves H).second in
      let i : take (e - a) (drop a s) ≡ v.0 =
      slice_is a e s T.forward T.within ∙ T.bytes (halves H).first in
      E.departs G (right J) o (inl tt) (take (e - a) (drop a s)) (L.knows o X)
      ∙ ap (apply_time o departure v.1.1.0 (inl tt)) i;
}

-- a middle stop, and the list of them
pub stop_put : {s : List ℕ} {p q : ℕ} {b : List ℕ} {x : Option ℕ} {f : List ℕ} {e : StopEvents} {l m : List ℕ}
    {w r : Option ℕ} → MiddleEvents s p b x f e → PutsMiddle e.arrival e.departure s p q l w m r
    → StopAnew s p q b x f l w m r
stop_put {e} M P = record {
  adds = λ o X {v} H J. same (P.adds H)
      (ap (write middle) (middle_is o v e.arrival e.departure (M.arrives H J o X) (M.departs H J o X)));
}

pub list_put : {s : List ℕ} {p n e : ℕ} {b : List ℕ} {x : Option ℕ} {f : List ℕ} {l m k : List ℕ} {w r t : Option ℕ}
    → ReadsNumber s p n e → Adds l w m r (number_w n) → StopsAnew s e n b x f m r k t → ListAnew s p b x f l w k t
list_put N A S = record {
  adds = λ o X {q} {vs} H J.
      list_mapped (Judged56 middle) 64 (stop_by o) H (elements 64 middle vs J) N A (S.adds o X);
}

-- the leg
judged_middles : {v : Value transit} → Judged56 transit v → Judged56 (part 19 transit) (tail 19 transit tt v)
judged_middles J =
    right (right (right (right (right (right (right (right (right (right
    (right (right (right (right (right (right (right (right (right J))))))))))))))))))

pub leg_put : {R : LegRealtime} {y : Option VehiclePlace} {s : List ℕ} {p q t : ℕ} {c : ChangingPlaces} {b : List ℕ}
    {x : Option ℕ} {f : List ℕ} {l m n o : List ℕ} {w r i k : Option ℕ} → ChangingAt s p c → PutsFore R y s p c l w m r
    → ListAnew s c.middles b x f m r n i → Passes (list 64 middle) s c.middles t
    → (t ≤ q → q ≤ length s → Adds n i o k (slice t q s)) → LegAnew R y s p q b x f l w o k
leg_put {s} {q} {t} C F L P A = record {
  adds = λ o X u Y {v} H J.
      let f1 = lead_field C.realtime tt H in
      let f2 = lead_field C.cancelled tt f1.here in
      let f3 = lead_field C.place tt f2.here in
      let f4 = lead_field C.middles tt f3.here in
      let h = halves f4.here in
      let j = judged_middles J in
      let z = P.to h.first in
      let pay : Here (part 20 transit) s t q (tail 20 transit tt v) = rw z h.second in
      closes (F.opens C u Y H) (map (stop_by o) (tail 19 transit tt v).0, tail 20 transit tt v)
      (then (L.adds o X h.first (left j)) (kept pay A));
}
