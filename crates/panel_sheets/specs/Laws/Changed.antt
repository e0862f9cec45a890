-- Law. Question 7 of a changed state whose new feed fails it.
use Rattle.std.specs.Prelude.{◌≡◌, refl, Bool, true, false, ◌&&◌, List, [], ◌∷◌, ℕ, leb, length}
use Rattle.std.proofs.Common.{sym, ap, ◌∙◌}
use Rattle.basics.specs.Lists.{all}
use Rattle.basics.specs.Laws.Booleans.{both_true, false_true}
use Rattle.std.specs.declared.cmp.Ordering.{Ordering}
use Rattle.std.specs.declared.cmp.Ordering.TheVariants.{Less, Equal, Greater}
use Rattle.maps.specs.Map.{Ordered, by_order, put}
use Rattle.maps.specs.Order.{texts}
use Rattle.formats.specs.Format.{list, optional, write}
use Rattle.formats_judge.specs.Judged.{ok}
use Rattle.decode.specs.Sizes.{most_trips}
use Rattle.decode.specs.Trip.{trip_entry}
use Rattle.alerts.specs.Alert.{Alert, alert}
use Rattle.overlay.specs.State.{Feed, State, timestamp, vehicle_entry, feed, feed_entry, overlay, version_of, feeds_of}
use Rattle.overlay.specs.State.{timestamp_of, trips_of, vehicles_of}
use Rattle.overlay.specs.Image.{room}
use Rattle.overlay.specs.Change.{feed_at, put_feed, after_alerts}
use Rattle.overlay_bodies.specs.Promises.Bodies.{with_alerts}
use Rattle.panel.specs.Outcome.{refused, accepted, need}
use Rattle.panel.specs.Questions.{Lengths}
use Rattle.panel.specs.Promises.Ends.{changed_state}

-- what holds of every entry after a put holds of the one that was put
module _ {K : Type 0} (O : Ordered K) {A : Type 0} (p : K × A → Bool) (k : K) (v : A) where
  put_one : (m : List (K × A)) → all p (put O k v m) ≡ true → p (k, v) ≡ true
  put_one [] h = (both_true (p (k, v)) true h).0
  put_one (e ∷ m) h = go (O.compare k e.0) (put_one m) h
    where
      go : (o : Ordering) → (all p (put O k v m) ≡ true → p (k, v) ≡ true)
          → all p (by_order o ((k, v) ∷ e ∷ m) ((k, v) ∷ m) (e ∷ put O k v m)) ≡ true → p (k, v) ≡ true
      go Less i h = (both_true (p (k, v)) (all p (e ∷ m)) h).0
      go Equal i h = (both_true (p (k, v)) (all p m) h).0
      go Greater i h = i (both_true (p e) (all p (put O k v m)) h).1

feed_seven : (f : List ℕ) (G : Feed) (n : ℕ) (s : State) → ok 7 overlay (put_feed f G n s) ≡ true → ok 7 feed G ≡ true
unfolding put_feed
feed_seven f G n s h =
    let fs = put texts f G (feeds_of s) in
    put_one texts (ok 7 feed_entry) f G (feeds_of s) (both_true (leb (length fs) 4) (all (ok 7 feed_entry) fs) h).1

alerts_of : (F : Feed) (vs : List Alert) → ok 7 feed (with_alerts F vs) ≡ true → ok 7 (list 256 alert) vs ≡ true
alerts_of F vs h =
    let a = ok 7 (list 256 alert) vs in
    let v = ok 7 (list 1024 vehicle_entry) (vehicles_of F) in
    let t = ok 7 (list most_trips trip_entry) (trips_of F) in
    (both_true v a (both_true t (v && a)
    (both_true (ok 7 (optional timestamp) (timestamp_of F)) (t && (v && a)) h).1).1).1

-- a sheet with too many alerts, or ids, is too much for every state
pub alerts_over : (L : Lengths) (old f : List ℕ) (vs : List Alert) (s : State) → ok 7 (list 256 alert) vs ≡ false
    → changed_state L old (after_alerts f vs s) ≡ refused 7
unfolding after_alerts
alerts_over L old f vs s h = go (ok 7 overlay s') refl
  where
    s' : State
    s' = after_alerts f vs s

    go : (b : Bool) → ok 7 overlay s' ≡ b
        → need (b && room L.overlay s') 7 (accepted (write overlay s')) ≡ refused 7
    go true e =
        false_true (sym h ∙ alerts_of (feed_at f s) vs (feed_seven f (with_alerts (feed_at f s) vs) (version_of s) s e))
    go false e = refl
