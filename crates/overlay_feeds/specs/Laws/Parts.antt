-- Law. The parts of a feed, by the passes over them.
use Rattle.std.specs.Prelude.{◌≡◌, List, ℕ, ℤ, Option}
use Rattle.std.proofs.Common.{sym}
use Rattle.formats.specs.Format.{number, signed, list, optional, Value}
use Rattle.formats_write.specs.Promises.Given.{given_signed}
use Rattle.formats_read.specs.Promises.Here.{Here}
use Rattle.formats_read.specs.Promises.Reads.{ReadsNumber}
use Rattle.formats_read.specs.Laws.Here.{halves, number_here}
use Rattle.formats_skip.specs.Promises.Passes.{Passes}
use Rattle.formats_skip.specs.Laws.Passes.{any_optional_signed}
use Rattle.decode.specs.Sizes.{most_trips}
use Rattle.decode.specs.Trip.{trip_entry}
use Rattle.alerts.specs.Alert.{alert}
use Rattle.overlay.specs.State.{vehicle_entry}
use Rattle.overlay_feeds.specs.declared.Front.{Front}
use Rattle.overlay_feeds.specs.declared.Parts.{Parts}
use Rattle.overlay_feeds.specs.Promises.Parts.{ReadsFront, ReadsBack, ReadsParts}
use Rattle.overlay_feeds.specs.Laws.Head.{begins, ends}

pub front_of : {b : List ℕ} {p c n t : ℕ} {z : Option ℤ}
    → ((lo hi : ℤ) (u : Value (optional (signed lo hi))) (q : ℕ) → Here (optional (signed lo hi)) b p q u
    → given_signed z ≡ u)
    → Passes (optional (number 0 0)) b p c → ReadsNumber b c n t
    → ReadsFront b p record { timestamp = z; counted = c; count = n; trips = t }
front_of Z C N = record {
  to = λ {F} h.
      let h0 = halves h in
      let e0 = sym ((any_optional_signed C).to h0.first) in
      let h1 = halves (begins e0 h0.second) in
      let e1 = sym (N.next (number_here h1.first)) in
      let h2 = halves (begins e1 h1.second) in
      record {
        timestamp_is = Z _ _ F.0 _ h0.first;
        timestamp_here = ends e0 h0.first;
        count_is = N.value (number_here h1.first);
        count_here = ends e1 h1.first;
        till = _;
        trips_here = h2.first;
        rest_here = h2.second;
      };
}

pub back_of : {b : List ℕ} {f : Front} {v a e : ℕ} → Passes (list 1024 vehicle_entry) b v a
    → Passes (list 256 alert) b a e → ReadsBack b f v
    record {
      timestamp = f.timestamp;
      counted = f.counted;
      count = f.count;
      trips = f.trips;
      vehicles = v;
      alerts = a;
      end = e;
    }
back_of U A = record {
  to = λ P T.
      let e0 = sym (T.to P.trips_here) in
      let h1 = halves (begins e0 P.rest_here) in
      let e1 = sym (U.to h1.first) in
      let h2 = begins e1 h1.second in
      let e2 = sym (A.to h2) in
      record {
        timestamp_is = P.timestamp_is;
        timestamp_here = P.timestamp_here;
        count_is = P.count_is;
        count_here = P.count_here;
        trips_here = ends e0 P.trips_here;
        vehicles_here = ends e1 h1.first;
        alerts_here = ends e2 h2;
        end_is = A.to h2;
      };
}

pub parts_of : {b : List ℕ} {p v : ℕ} {f : Front} {r : Parts} → ReadsFront b p f
    → Passes (list most_trips trip_entry) b f.trips v → ReadsBack b f v r → ReadsParts b p r
parts_of F T B = record { to = λ h. B.to (F.to h) T }
