-- Law. The records of a feed noted, and what stands in front of them passed: its count, its timestamp, its id.
use Rattle.std.specs.Prelude.{◌≡◌, refl, List, ℕ, ◌*◌, ◌<◌, Option, Some, None}
use Rattle.std.proofs.Common.{sym, ◌∙◌, arith}
use Rattle.formats.specs.Class.{token}
use Rattle.formats.specs.Format.{Format, list, optional, ◌&◌, Value}
use Rattle.formats_check.specs.Promises.Checked.{Number, Fine, Test, Tested}
use Rattle.formats_check.specs.Laws.Checked.{tested_in}
use Rattle.formats_check.specs.Laws.Climbing.{Spans, span_is}
use Rattle.formats_read.specs.Promises.Reads.{ReadsNumber}
use Rattle.formats_read.specs.Laws.Here.{halves}
use Rattle.formats_read.specs.Laws.Lists.{listed}
use Rattle.formats_skip.specs.Promises.Passes.{Passes}
use Rattle.decode.specs.Trip.{trip_entry}
use Rattle.overlay.specs.State.{timestamp, feed, vehicle_entry}
use Rattle.overlay_noted.specs.Promises.Noting.{Unless, TripsPut, PartsPut}
use Rattle.overlay_noted.specs.Laws.Places.{trips_kept}
use Rattle.overlay_noted.specs.Laws.Passes.{checked_passes, tested_passes, number_passes, begins, behind, skip_so}
use Rattle.overlay_noted.specs.Laws.Passes.{unless_map, fits_as}
use Rattle.overlay_open.specs.Promises.State.{records, counted}
use Rattle.overlay_open.specs.Promises.Feeds.{RecordsPut, FeedPut}

-- THE RECORDS
module _ {s : List ℕ} {at r : ℕ} {old mid : List ℕ} {x : Option ℕ} {t : Test (list 2048 trip_entry)}
    (T : Tested (list 2048 trip_entry) t s at x) (U : Unless x None (TripsPut s at (2048 * r) old mid)) {p : ℕ}
    (h : x ≡ Some p) {y : Option ℕ} {u : Test (list 1024 vehicle_entry)} (W : Tested (list 1024 vehicle_entry) u s p y)
    {q : ℕ} (i : y ≡ Some q) {n m : ℕ} (N : ReadsNumber s at n m) {entry : ℕ} {new : List ℕ}
    (Q : PartsPut mid new r entry n p q) (l : r < 4) where
  put : RecordsPut records (λ v. v) s at r entry old new
  put =
      let E = skip_so U h in
      record {
        lower = record {
          kept = Q.kept ∙ E.row.kept;
          trips_below = λ j g. Q.below j (omega arith) ∙ E.row.below j g;
          parts_below = λ j f g. Q.below j g ∙ E.row.above j (omega arith);
        };
        entry_is = Q.entry_is;
        each = λ o {v} g few.
            let a = (halves g).first in
            let b = behind (tested_passes T h) g in
            let c = N.value (listed a).1.count in
            let w = o.room in
            let ve = Q.vehicles_is w (omega (arith, o.small, tested_in T h)) in
            let ae = Q.alerts_is w (omega (arith, o.small, tested_in W i)) in
            record {
              count = Q.count_is w (omega arith) ∙ c;
              trips = trips_kept s mid new (2048 * r) v.0 (λ z f g. Q.below z (omega arith))
                  (E.each (fits_as (sym Q.kept) o) a);
              vehicles_end = _;
              vehicles_here = begins (sym ve) (halves b).first;
              alerts_end = _;
              alerts_here = begins (sym ae) (behind (tested_passes W i) b);
            };
      }

  pub records_put : {z : Option ℕ} → Unless z None (RecordsPut records (λ v. v) s at r entry old new)
  records_put = record { so = λ _. put }

-- WHAT STANDS IN FRONT
behind_put : {a b : Format} {of : Value b → Value records} {s : List ℕ} {p m r entry : ℕ} {old new : List ℕ}
    → Passes a s p m → RecordsPut b of s m r entry old new → RecordsPut (a & b) (λ v. of v.1) s p r entry old new
behind_put P R = record {
  lower = R.lower;
  entry_is = R.entry_is;
  each = λ o h few. R.each o (behind P h) few;
}

pub counted_put : {s : List ℕ} {at r entry : ℕ} {old new : List ℕ} {o : Option (ℕ × ℕ)} → Number s at o → {n p : ℕ}
    → o ≡ Some (n, p) → {x : Option ℕ} → Unless x None (RecordsPut records (λ v. v) s p r entry old new)
    → Unless x None (RecordsPut counted (λ v. v.1) s at r entry old new)
counted_put N h U = unless_map (behind_put (number_passes N h)) U

pub feed_put : {s : List ℕ} {at r entry : ℕ} {old new : List ℕ} {y : Option ℕ} → Fine (optional timestamp) s at y
    → {p : ℕ}
    → y ≡ Some p → {x : Option ℕ} → Unless x None (RecordsPut counted (λ v. v.1) s p r entry old new)
    → Unless x None (RecordsPut feed (λ v. v.1.1) s at r entry old new)
feed_put C h U = unless_map (behind_put (checked_passes C h)) U

-- THE FEED
pub entry_put : {s : List ℕ} {at r : ℕ} {old new : List ℕ} → r < 4 → {y : Option (ℕ × ℕ)}
    → Spans 16 token s at y → {a e : ℕ} → y ≡ Some (a, e) → {x : Option ℕ}
    → Unless x None (RecordsPut feed (λ v. v.1.1) s e r at old new) → {q : ℕ} → x ≡ Some q
    → {z : Option (ℕ × ℕ × ℕ)} → Unless z None (FeedPut s at r old new)
entry_put l S h U i =
    let R = skip_so U i in
    let B = behind_put (checked_passes (span_is S h) refl) R in
    record {
      so = λ _. record {
        lower = R.lower;
        noted = λ o {x} g H.
            let A = B.each o g H.trips_few in
            let f = (halves g).first in
            let e = R.entry_is o.room (omega (arith, o.small, f.forward, f.within)) in
            record {
              low = l;
              room = o.room;
              id_end = _;
              id_here = begins (sym e) f;
              count = A.count;
              few = H.trips_few;
              up = H.trips_up;
              trips = A.trips;
              vehicles_end = A.vehicles_end;
              vehicles_here = A.vehicles_here;
              alerts_end = A.alerts_end;
              alerts_here = A.alerts_here;
            };
      };
    }
