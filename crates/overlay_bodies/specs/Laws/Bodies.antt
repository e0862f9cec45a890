-- Law. A feed's body by its parts.
use Rattle.std.specs.Prelude.{◌≡◌, List, ◌++◌, ℕ, ◌≤◌, length, Option}
use Rattle.std.proofs.Common.{sym, ap, ◌∙◌, append_assoc, arith}
use Rattle.std.proofs.Math.Seq.{slice}
use Rattle.formats.specs.Number.{number_w}
use Rattle.formats.specs.Format.{Format, list, optional, ◌&◌, Value, write}
use Rattle.formats_write.specs.Promises.Adds.{Adds}
use Rattle.formats_write.specs.Laws.Adds.{then, same}
use Rattle.formats_write.specs.Laws.Slices.{slice_join}
use Rattle.formats_read.specs.Promises.Here.{Here}
use Rattle.formats_read.specs.Promises.Reads.{ReadsNumber}
use Rattle.formats_read.specs.Laws.Lists.{listed}
use Rattle.formats_read.specs.Laws.Rewriting.{kept}
use Rattle.decode.specs.Sizes.{most_trips}
use Rattle.decode.specs.Trip.{trip_entry}
use Rattle.alerts.specs.Alert.{Alert, alert}
use Rattle.overlay.specs.State.{Feed, Vehicles, timestamp, vehicle_entry, feed}
use Rattle.overlay.specs.State.{timestamp_of, count_of, trips_of, vehicles_of, alerts_of}
use Rattle.overlay_feeds.specs.declared.Parts.{Parts}
use Rattle.overlay_feeds.specs.Promises.Parts.{PartsOf}
use Rattle.overlay_merge.specs.Promises.Merge.{Both, Counts}
use Rattle.overlay_merge.specs.Promises.Writes.{Writes}
use Rattle.overlay_bodies.specs.Promises.Bodies.{AlertsIn, VehiclesIn, Left}
use Rattle.overlay_bodies.specs.Promises.Bodies.{with_alerts, with_vehicles, front_w, Lists}

-- two values, one behind the other
pair_here : {a b : Format} {s : List ℕ} {p m q : ℕ} {x : Value a} {y : Value b} → Here a s p m x → Here b s m q y
    → Here (a & b) s p q (x, y)
pair_here {a} {b} {s} {p} {m} {q} {x} {y} h k = record {
  written = sym (slice_join p m q s h.forward k.forward k.within)
      ∙ ap (λ l. l ++ slice m q s) h.written ∙ ap (λ l. write a x ++ l) k.written;
  fits = (h.fits, k.fits);
  forward = omega (arith, h.forward, k.forward);
  within = k.within;
}

regroup : (a b c d e : List ℕ) → (a ++ (b ++ (c ++ d))) ++ e ≡ a ++ (b ++ (c ++ (d ++ e)))
regroup a b c d e = simp append_assoc

-- AN ALERT SHEET: the feed's parts up to its alerts, and the sheet's
module _ {sheet : List ℕ} {vs : List Alert} (A : AlertsIn sheet vs) {l m o : List ℕ} {r q j : Option ℕ} where
  pub alerts_over : {old : List ℕ} {F : Feed} {p e : ℕ} {P : Parts} → PartsOf old F p e P
      → (p ≤ P.alerts → P.alerts ≤ length old → Adds l r m q (slice p P.alerts old))
      → (1 ≤ length sheet → length sheet ≤ length sheet → Adds m q o j (slice 1 (length sheet) sheet))
      → Adds l r o j (write feed (with_alerts F vs))
  alerts_over {F} S f g =
      let t = pair_here S.count_here (pair_here S.trips_here S.vehicles_here) in
      let h = pair_here S.timestamp_here t in
      same (then (kept h f) (kept A g))
      (regroup (write (optional timestamp) (timestamp_of F)) (number_w (count_of F))
      (write (list most_trips trip_entry) (trips_of F)) (write (list 1024 vehicle_entry) (vehicles_of F))
      (write (list 256 alert) vs))

-- A VEHICLE SHEET
module _ {sheet old : List ℕ} {at : ℕ} {xs ys : Vehicles} (I : VehiclesIn sheet old at xs ys) where
  both_of : {n a m b : ℕ} → ReadsNumber sheet 1 n a → ReadsNumber old at m b → Both sheet a n old b m xs ys
  both_of N M =
      let x = (listed I.sheet_here).1 in
      let y = (listed I.old_here).1 in
      record {
        sheet_end = length sheet;
        sheet_stand = rw (N.next x.count) x.values;
        sheet_count = sym (N.value x.count);
        sheet_ascends = I.sheet_ascends;
        old_end = I.till;
        old_stand = rw (M.next y.count) y.values;
        old_count = sym (M.value y.count);
        old_ascends = I.old_ascends;
      }

module _ {sheet old : List ℕ} {at n a m b limit : ℕ} (N : ReadsNumber sheet 1 n a) (M : ReadsNumber old at m b) where
  pub left_counted : {r : ℕ} → Counts sheet a n old b m limit r → Left sheet old at limit r
  left_counted C = record { of = λ xs ys clock e I. C.of xs ys clock e (both_of I N M) }

  pub left_written : {l o i : List ℕ} {r q j : Option ℕ} {kept : ℕ} → Adds l r o q (number_w kept)
      → Writes o q i j sheet a n old b m limit → Lists l r i j sheet old at limit kept
  left_written {kept} A W = record {
    of = λ xs ys clock e I k. then (same A (ap number_w k)) (W.of xs ys clock e (both_of I N M));
  }

regroup_left : (a b c d e : List ℕ) → ((a ++ (b ++ c)) ++ d) ++ e ≡ a ++ (b ++ (c ++ (d ++ e)))
regroup_left a b c d e = simp append_assoc

module _ {old : List ℕ} {F : Feed} {p e : ℕ} {P : Parts} (S : PartsOf old F p e P) where
  module _ {l m o i : List ℕ} {r q j z : Option ℕ} where
    pub front_written : {n c : ℕ}
        → (p ≤ P.counted → P.counted ≤ length old → Adds l r m q (slice p P.counted old))
        → ReadsNumber old P.trips n c → Adds m q o j (number_w n)
        → (P.trips ≤ P.vehicles → P.vehicles ≤ length old → Adds o j i z (slice P.trips P.vehicles old))
        → Adds l r i z (front_w F)
    front_written {n} f N A g =
        let k : n ≡ length (trips_of F) = N.value (listed S.trips_here).1.count in
        then (kept S.timestamp_here f) (then (same A (ap number_w k)) (kept S.trips_here g))

    pub vehicles_over : (vs : Vehicles) → Adds l r m q (front_w F) → Adds m q o j (write (list 1024 vehicle_entry) vs)
        → (P.alerts ≤ P.end → P.end ≤ length old → Adds o j i z (slice P.alerts P.end old))
        → Adds l r i z (write feed (with_vehicles F vs))
    vehicles_over vs A B f =
        same (then (then A B) (kept S.alerts_here f))
        (regroup_left (write (optional timestamp) (timestamp_of F)) (number_w (length (trips_of F)))
        (write (list most_trips trip_entry) (trips_of F)) (write (list 1024 vehicle_entry) vs)
        (write (list 256 alert) (alerts_of F)))
