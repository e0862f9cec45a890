-- Law. A state by an alert sheet, and by a vehicle sheet: its feed's body is put where it goes.
use Rattle.std.specs.Prelude.{◌≡◌, ℕ, ◌+◌, ◌%◌, ◌^◌, ◌<◌, ◌≤◌, Bool, true, cond, ◌&&◌, List, length, ℤ, pos, ◌-ℤ◌, nat_le, refl, Option, Some, None}
use Rattle.std.proofs.Common.{sym, ◌∙◌, arith, le-leb}
use Rattle.std.proofs.Math.Path.{ap, ap₂}
use Rattle.std.proofs.lemmas.Bool.{lt-leb}
use Rattle.basics.specs.Laws.Booleans.{and_yes}
use Rattle.maps.specs.Map.{ascending, puts}
use Rattle.maps.specs.Order.{texts}
use Rattle.formats.specs.Number.{zag}
use Rattle.formats.specs.Format.{list, write}
use Rattle.formats_judge.specs.Judged.{ok}
use Rattle.formats_write.specs.Promises.Adds.{Adds}
use Rattle.formats_write.specs.Laws.Adds.{same, wrote}
use Rattle.formats_read.specs.Promises.Here.{Here}
use Rattle.alerts.specs.Alert.{Alert, alert}
use Rattle.overlay.specs.State.{Feed, State, Vehicles, vehicle_entry, feed, overlay, version_of, vehicles_of}
use Rattle.overlay.specs.Change.{feed_at, put_feed, after_alerts, without_stale, after_vehicles}
use Rattle.overlay.specs.Valid.{valid}
use Rattle.overlay.proofs.Laws.Buffer.{valid_parts}
use Rattle.overlay.proofs.Laws.Counts.{alerts_seven, vehicles_seven}
use Rattle.overlay.proofs.Laws.Within.{unjudged, all_true}
use Rattle.overlay_feeds.specs.declared.Parts.{Parts}
use Rattle.overlay_feeds.specs.Promises.Head.{ReadsHead}
use Rattle.overlay_feeds.specs.Promises.Parts.{PartsOf, ReadsParts}
use Rattle.overlay_frame.specs.declared.FeedSpot.{FeedSpot}
use Rattle.overlay_frame.specs.Promises.Body.{BodyAt, FindsSpot}
use Rattle.overlay_frame.specs.Promises.Changes.{Changes}
use Rattle.overlay_frame.specs.Promises.Frame.{Spot, opening_w, closing_w}
use Rattle.overlay_frame.specs.Laws.Body.{of_feed, few_feeds, goes}
use Rattle.overlay_frame.specs.Laws.Changes.{within_seven, over_seven}
use Rattle.overlay_frame.specs.Laws.Frame.{framed}
use Rattle.overlay_merge.specs.Promises.Merge.{Counted}
use Rattle.overlay_bodies.specs.Promises.Bodies.{AlertsIn, VehiclesIn, VehiclesAlone, Left, with_alerts, with_vehicles}

-- A FIFTH FEED
module _ {old f : List ℕ} {s : State} {end : ℕ} {r : Option FeedSpot} (P : FindsSpot old f r) (e : r ≡ None)
    (h : Here overlay old 0 end s) (u : valid s ≡ true) {l : List ℕ} where
  pub alerts_full : (vs : List Alert) → Changes l l None (after_alerts f vs s)
  unfolding after_alerts
  alerts_full vs = over_seven (after_alerts f vs s) ((P.to h u).full e _ _)

  pub vehicles_full : (xs : Vehicles) (clock : ℤ) → Changes l l None (after_vehicles f xs clock s)
  unfolding after_vehicles
  vehicles_full xs clock = over_seven (after_vehicles f xs clock s) ((P.to h u).full e _ _)

module _ {old h f : List ℕ} {s : State} {end from count body : ℕ} {known : Bool}
    (B : BodyAt old end s f from known count h body) where
  abbrev was : Feed
  was = feed_at f s

  seven : ok 7 overlay s ≡ true
  seven = (valid_parts s B.valid).seven

  -- the feed F in place of the old one, and version w
  module _ {l o x y : List ℕ} {k j z : Option ℕ} {P : Parts} {to w : ℕ} (t : to ≡ cond known P.end from)
      (a : (q : ℕ) (s : State) (to : ℕ) (S : Spot old q s f from to count)
      → Adds l (Some 0) o k (opening_w w count S.front f))
      (g : (s : State) (f : List ℕ) (from count : ℕ) (S : Spot old end s f from to count)
      → Adds x j y z (closing_w S.back)) where
    put_written : (F : Feed) (n : ℕ) → w ≡ n → PartsOf h was body B.till P → Adds o k x j (write feed F)
        → Adds l (Some 0) y z (write overlay (put_feed f F n s))
    put_written F n e T d =
        let S = goes B t T.end_is in
        same (framed S w F (a end s to S) d (g s f from count S)) (ap (λ n. write overlay (put_feed f F n s)) e)

    -- AN ALERT SHEET
    pub alerts_changed : {sheet : List ℕ} {c n first : ℕ} {vs : List Alert} → ReadsHead old w c n first
        → ReadsParts h body P → AlertsIn sheet vs → ok 7 (list 256 alert) vs ≡ true
        → ((vs : List Alert) (F : Feed) (e : ℕ) → AlertsIn sheet vs → PartsOf h F body e P
        → Adds o k x j (write feed (with_alerts F vs)))
        → Changes l y z (after_alerts f vs s)
    unfolding after_alerts
    alerts_changed {vs} H R I u d =
        let T = R.to B.here in
        let F = with_alerts was vs in
        within_seven (after_alerts f vs s)
        (alerts_seven f s seven vs ∙ ap₂ ◌&&◌ (few_feeds B.spot F (version_of s) B.few) u)
        (wrote (put_written F (version_of s) (H.to B.spot.whole).version_is T (d vs was B.till I T)))

    -- A VEHICLE SHEET
    pub vehicles_written : {v c n first : ℕ} (xs : Vehicles) (clock : ℤ) → ReadsHead old v c n first
        → w ≡ (v + 1) % 2 ^ 64 → ReadsParts h body P
        → (PartsOf h was body B.till P
        → Adds o k x j (write feed (with_vehicles was (without_stale clock (puts texts xs (vehicles_of was))))))
        → Adds l (Some 0) y z (write overlay (after_vehicles f xs clock s))
    unfolding after_vehicles
    vehicles_written xs clock H e R d =
        let T = R.to B.here in
        let F = with_vehicles was (without_stale clock (puts texts xs (vehicles_of was))) in
        put_written F ((version_of s + 1) % 2 ^ 64)
        (e ∙ ap (λ v. (v + 1) % 2 ^ 64) (H.to B.spot.whole).version_is) T (d T)

  -- its vehicles, counted
  module _ {sheet : List ℕ} {P : Parts} {limit kept : ℕ} (xs : Vehicles) (clock : ℤ) (e : zag limit ≡ clock -ℤ pos 900)
      (I : VehiclesAlone sheet xs) (R : ReadsParts h body P) (C : Left sheet h P.vehicles limit kept) where
    abbrev left : Vehicles
    left = without_stale clock (puts texts xs (vehicles_of was))

    vehicles_in : VehiclesIn sheet h P.vehicles xs (vehicles_of was)
    vehicles_in = record {
      sheet_here = I.here;
      sheet_ascends = I.ascends;
      till = P.alerts;
      old_here = (R.to B.here).vehicles_here;
      old_ascends = of_feed (λ F. ascending texts (vehicles_of F) ≡ true) f s B.valid (λ F H. H.vehicles_up) refl;
    }

    counted : Counted kept (length left)
    counted = C.of xs (vehicles_of was) clock e vehicles_in

    seven_is : ok 7 overlay (after_vehicles f xs clock s) ≡ nat_le (length left) 1024
    unfolding after_vehicles
    seven_is =
        vehicles_seven f s seven xs clock
        ∙ ap₂ ◌&&◌ (few_feeds B.spot (with_vehicles was left) ((version_of s + 1) % 2 ^ 64) B.few)
        (ap (λ b. nat_le (length left) 1024 && b) (all_true (ok 7 vehicle_entry) (unjudged 7 vehicle_entry refl) left)
        ∙ and_yes (nat_le (length left) 1024))

    pub vehicles_many : {l : List ℕ} → 1024 < kept → Changes l l None (after_vehicles f xs clock s)
    vehicles_many k =
        over_seven (after_vehicles f xs clock s) (seven_is ∙ lt-leb (length left) 1024 (counted.many k))

    pub vehicles_few : {l y : List ℕ} {q : Option ℕ} → kept ≤ 1024
        → (VehiclesIn sheet h P.vehicles xs (vehicles_of was) → kept ≡ length left
        → Adds l (Some 0) y q (write overlay (after_vehicles f xs clock s)))
        → Changes l y q (after_vehicles f xs clock s)
    vehicles_few k a =
        let n = counted.few k in
        within_seven (after_vehicles f xs clock s) (seven_is ∙ le-leb (length left) 1024 (omega arith))
        (wrote (a vehicles_in (sym n)))
