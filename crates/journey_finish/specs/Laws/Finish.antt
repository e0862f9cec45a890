-- Law. A leg finished by look-ups.
use Rattle.std.specs.Prelude.{◌≡◌, List, ℕ, ◌-◌, ◌/◌, ℤ, pos, negsuc, take, drop, Option, Some, None}
use Rattle.std.proofs.Math.Path.{sym, ap}
use Rattle.std.proofs.Common.{◌∙◌, arith}
use Rattle.basics.specs.Options.{Maybe}
use Rattle.basics.specs.Laws.Booleans.{false_true}
use Rattle.calendar.specs.Paris.{paris_digits}
use Rattle.formats.specs.Number.{zig}
use Rattle.formats.specs.Class.{Class}
use Rattle.formats.specs.Format.{number, text, optional}
use Rattle.formats_read.specs.Promises.Here.{Here}
use Rattle.formats_read.specs.Promises.Reads.{ReadsNumber, ReadsText}
use Rattle.formats_read.specs.Laws.Here.{halves, signed_here}
use Rattle.formats_skip.specs.Laws.Leads.{lead_field}
use Rattle.formats_write.specs.Laws.Slices.{slice_is}
use Rattle.formats_write.specs.Promises.Given.{given_number}
use Rattle.overlay.specs.Records.{shown}
use Rattle.overlay.proofs.Laws.Within.{Judged56, left, right}
use Rattle.overlay_resolve.specs.Promises.Shown.{Resolves, ShowsVehicle, record_for}
use Rattle.journey.specs.Card.{scheduled}
use Rattle.journey.specs.Enrich.{seconds, trip_rt, departs, arrives, cancels}
use Rattle.journey.proofs.Laws.Found.{FoundJudged, resolve_gives}
use Rattle.journey_places.specs.declared.LegPlaces.{LegPlaces}
use Rattle.journey_places.specs.Promises.Places.{LegAt}
use Rattle.journey_leg.specs.declared.LegRealtime.{LegRealtime}
use Rattle.journey_stops.specs.Promises.Stops.{LegKnown, LegAnew}
use Rattle.journey_stops.specs.Laws.Endpoints.{leg_written}
use Rattle.journey_stops.specs.Laws.Stops.{found_so}
use Rattle.journey_finish.specs.declared.RowPlace.{RowPlace}
use Rattle.journey_finish.specs.Promises.Finish.{LegResolved, RowAt, Looks, LegVehicle, FinishesBy, Finishes}
use Rattle.vehicle_place.specs.declared.VehiclePlace.{VehiclePlace}

-- a text's bytes as a part of a slice
part_is : {s : List ℕ} {p a e q : ℕ} {v : List ℕ} {l : ℕ} {c : Class} → ReadsText s p a e → Here (text l c) s p q v
    → take (e - a) (drop a s) ≡ v
part_is {s} {p} {a} {e} T H = slice_is a e s T.forward T.within ∙ T.bytes H

half : (z : ℤ) → Judged56 scheduled z → zig z / 2 ≡ seconds z
half (pos n) J = omega arith
half (negsuc n) J = false_true J.six

module _ {s : List ℕ} {p : ℕ} {P : LegPlaces} (L : LegAt s p P) {b : List ℕ} where
  pub resolved_in : {a e g i n j : ℕ} (d : Option ℕ) {r : Option (ℕ × ℕ)} → ReadsText s P.trip a e
      → ReadsText s P.route g i
      → ((lo hi : ℕ) (v : Maybe ℕ) (q : ℕ) → Here (optional (number lo hi)) s P.direction q v → given_number d ≡ v)
      → ReadsNumber s P.departure n j
      → Resolves
      (record_for (take (e - a) (drop a s)) (take (i - g) (drop g s)) (given_number d) (paris_digits (n / 2))) b r
      → LegResolved s p b r
  unfolding record_for trip_rt
  resolved_in {a} {e} {g} {i} {n} d T R D N Q = record {
    to = λ {q} {v} H J S.
        let t = part_is T (halves (lead_field L.trip tt H).here).first in
        let o = part_is R (halves (lead_field L.route tt H).here).first in
        let m = D 0 255 _ _ (halves (lead_field L.direction tt H).here).first in
        let k = N.value (signed_here (halves (lead_field L.departure tt H).here).first) in
        let h = ap (λ y. y / 2) k
        ∙ half _ (left (right (right (right (right (right (right (right (right (right J)))))))))) in
        rw (t, o, m, h) at (Q.to S.here S.up);
  }

  pub vehicle_in : {a e : ℕ} {r : Option VehiclePlace} → ReadsText s P.trip a e
      → ShowsVehicle b (take (e - a) (drop a s)) r
      → LegVehicle s p b r
  vehicle_in T Q = record {
    to = λ {q} {v} H S.
        let t = part_is T (halves (lead_field L.trip tt H).here).first in rw t at (Q.to S.here S.up);
  }

pub finished_by : {s : List ℕ} {p q : ℕ} {b : List ℕ} {x : Option ℕ} {f : List ℕ} {R : LegRealtime}
    {y : Option VehiclePlace} {l m : List ℕ} {w r : Option ℕ} → LegKnown s p b x f R → LegVehicle s p b y
    → LegAnew R y s p q b x f l w m r
    → FinishesBy s p q b x f l w m r
finished_by K Y A = record { adds = λ H J {st} S X. leg_written (shown st) H J X (Y.to H S) K A }

-- where the record stands
module _ {s : List ℕ} {p : ℕ} {b : List ℕ} {x : Option (ℕ × ℕ)} (L : LegResolved s p b x) where
  pub row_none : x ≡ None → RowAt s p b (record { row = None; from = 0; to = 0 })
  row_none e =
      record { forward = omega arith; within = omega arith; holds = λ H J S. (L.to H J S).missing e }

  pub row_found : {i j a e : ℕ} → x ≡ Some (i, j) → ReadsText b j a e
      → RowAt s p b (record { row = Some i; from = a; to = e })
  unfolding trip_rt
  row_found {i} {j} g T = record {
    forward = T.forward;
    within = T.within;
    holds = λ H J {st} S.
        let A = (L.to H J S).found i j g in (
          (A.feed, A.it),
          A.is,
          sym (part_is T A.id_here),
          found_so FoundJudged A.is (resolve_gives (shown st) S.judged _ _ _ _),
          (A.end, A.here),
        );
  }

module _ {s : List ℕ} {p : ℕ} {b : List ℕ} {x : RowPlace} (X : RowAt s p b x) where
  abbrev feed : List ℕ
  feed = take (x.to - x.from) (drop x.from b)

  pub looked : {R : LegRealtime} → LegKnown s p b x.row feed R → Looks s p b R
  unfolding departs arrives cancels
  looked K = record {
    departs = λ H J S. K.departs _ (X.holds H J S) H J;
    arrives = λ H J S. K.arrives _ (X.holds H J S) H J;
    cancels = λ H J S. K.cancels _ (X.holds H J S);
  }

  pub finished : {q : ℕ} {l m : List ℕ} {w r : Option ℕ} → FinishesBy s p q b x.row feed l w m r
      → Finishes s p q b l w m r
  finished F = record { adds = λ H J S. F.adds H J S (X.holds H J S) }
