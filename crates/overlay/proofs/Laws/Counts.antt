-- Law. Question 7 of what a message or a sheet leaves, over a state within it: the number of feeds, and the one list
-- that was changed. The other lists were counted before.
use Rattle.std.specs.Prelude.{ℕ, ◌+◌, ◌^◌, ◌%◌, ◌≡◌, refl, Bool, true, false, ◌&&◌, List, [], ◌∷◌, ℤ, length}
use Rattle.std.proofs.Common.{sym, ◌∙◌}
use Rattle.std.proofs.Math.Path.{ap}
use Rattle.std.proofs.Math.Option.{Option, none, some, get_or}
use Rattle.std.proofs.Math.Dec.{leb}
use Rattle.std.specs.declared.cmp.Ordering.{Ordering}
use Rattle.std.specs.declared.cmp.Ordering.TheVariants.{Less, Equal, Greater}
use Rattle.basics.specs.Lists.{all}
use Rattle.formats.specs.Format.{list, optional, ◌&◌}
use Rattle.formats_judge.specs.Judged.{ok}
use Rattle.realtime.specs.Tree.{Tree}
use Rattle.decode.specs.Trip.{trip_entry}
use Rattle.basics.specs.Options.{or_other}
use Rattle.maps.specs.Map.{Ordered, by_order, get, put, puts}
use Rattle.maps.specs.Order.{texts}
use Rattle.maps.proofs.Laws.Order.{texts_order}
use Rattle.basics.specs.Laws.Booleans.{both_true}
use Rattle.decode.specs.Leaves.{Trips, leaves, timestamp_in, count_without_at as leaves_count}
use Rattle.alerts.specs.Alert.{Alert, alert}
use Rattle.overlay.specs.State.{Feed, State, Vehicles, timestamp, vehicle_entry, feed_entry, overlay, count_of}
use Rattle.overlay.specs.State.{trips_of, vehicles_of, alerts_of, timestamp_of, version_of, feeds_of, feed_with, no_feed}
use Rattle.overlay.specs.Change.{feed_at, put_feed, after_message, after_alerts, without_stale, after_vehicles}
use Rattle.overlay.proofs.Laws.Within.{unjudged, both, counted}
use Rattle.overlay.proofs.Laws.EveryEntry.{each_of, get_each}

and_yes : (a b : Bool) → b ≡ true → (a && b) ≡ a
and_yes true b e = e
and_yes false b e = refl

-- a test that every entry passes, after one was put: that of the new one
put_all : {K A : Type 0} (O : Ordered K) (p : K × A → Bool) (k : K) (v : A) (m : List (K × A)) → all p m ≡ true
    → all p (put O k v m) ≡ p (k, v)
put_all O p k v [] h = and_yes (p (k, v)) true refl
put_all {K} {A} O p k v (e ∷ m) h = go (O.compare k e.0) (put_all O p k v m q.1)
  where
    q : (p e ≡ true) × (all p m ≡ true)
    q = both_true (p e) (all p m) h

    go : (o : Ordering) → all p (put O k v m) ≡ p (k, v)
        → all p (by_order o ((k, v) ∷ e ∷ m) ((k, v) ∷ m) (e ∷ put O k v m)) ≡ p (k, v)
    go Less ih = and_yes (p (k, v)) (p e && all p m) h
    go Equal ih = and_yes (p (k, v)) (all p m) q.1
    go Greater ih = rw q.0 ih

-- the lists of one feed
seven_feed : (f : List ℕ) (F : Feed)
    → ok 7 feed_entry (f, F)
    ≡ (ok 7 (list 2048 trip_entry) (trips_of F)
    && (ok 7 (list 1024 vehicle_entry) (vehicles_of F) && ok 7 (list 256 alert) (alerts_of F)))
seven_feed f F = rw (unjudged 7 (optional timestamp) refl F.0) refl

-- the feed of an id, made where it isn't there yet, is within question 7
at_seven : (f : List ℕ) (s : State) → ok 7 overlay s ≡ true → ok 7 feed_entry (f, feed_at f s) ≡ true
unfolding feed_at
at_seven f s h = go (get texts f (feeds_of s)) refl
  where
    go : (o : Option Feed) → get texts f (feeds_of s) ≡ o → ok 7 feed_entry (f, get_or o no_feed) ≡ true
    go none e = refl
    go (some F) e =
        get_each texts_order (λ x. ok 7 feed_entry x ≡ true) f F (feeds_of s)
        (each_of (ok 7 feed_entry) (feeds_of s) (counted 4 feed_entry (feeds_of s) h)) e

-- the three lists of a feed
abbrev few : Trips → Vehicles → List Alert → Bool
few trips vehicles alerts =
    ok 7 (list 2048 trip_entry) trips && (ok 7 (list 1024 vehicle_entry) vehicles && ok 7 (list 256 alert) alerts)

put_seven : (f : List ℕ) (F : Feed) (n : ℕ) (s : State) → ok 7 overlay s ≡ true
    → ok 7 overlay (put_feed f F n s) ≡
    (leb (length (feeds_of (put_feed f F n s))) 4 && few (trips_of F) (vehicles_of F) (alerts_of F))
unfolding put_feed
put_seven f F n s h =
    ap (λ b. leb (length (put texts f F (feeds_of s))) 4 && b)
    (put_all texts (ok 7 feed_entry) f F (feeds_of s) (counted 4 feed_entry (feeds_of s) h) ∙ seven_feed f F)

-- of three tests, two that are passed leave the other
first_left : (a b c : Bool) → b ≡ true → c ≡ true → (a && (b && c)) ≡ a
first_left a b c p q = and_yes a (b && c) (both p q)

second_left : (a b c : Bool) → a ≡ true → c ≡ true → (a && (b && c)) ≡ b
second_left a b c p q = rw p (and_yes b c q)

third_left : (a b c : Bool) → a ≡ true → b ≡ true → (a && (b && c)) ≡ c
third_left a b c p q = rw (p, q) refl

module _ (f : List ℕ) (s : State) (h : ok 7 overlay s ≡ true) where
  abbrev F : Feed
  F = feed_at f s

  abbrev trips_few : Bool
  trips_few = ok 7 (list 2048 trip_entry) (trips_of F)

  abbrev vehicles_few : Bool
  vehicles_few = ok 7 (list 1024 vehicle_entry) (vehicles_of F)

  abbrev alerts_few : Bool
  alerts_few = ok 7 (list 256 alert) (alerts_of F)

  parts : (trips_few ≡ true) × ((vehicles_few ≡ true) × (alerts_few ≡ true))
  parts =
      let a = both_true trips_few (vehicles_few && alerts_few) (sym (seven_feed f F) ∙ at_seven f s h) in
      (a.0, both_true vehicles_few alerts_few a.1)

  -- A MESSAGE: the trips that it leaves
  module _ (t : Tree) where
    abbrev trips : Trips
    trips = leaves f t (trips_of F)

    pub message_seven : ok 7 overlay (after_message f t s)
        ≡ (leb (length (feeds_of (after_message f t s))) 4 && ok 7 (list 2048 trip_entry) trips)
    unfolding after_message
    message_seven =
        let G = feed_with (or_other (timestamp_in t) (timestamp_of F)) (leaves_count f trips) trips (vehicles_of F)
        (alerts_of F) in
        put_seven f G (version_of s) s h
        ∙ ap (λ b. leb (length (feeds_of (after_message f t s))) 4 && b)
        (first_left (ok 7 (list 2048 trip_entry) trips) vehicles_few alerts_few parts.1.0 parts.1.1)

  -- AN ALERT SHEET: its alerts
  pub alerts_seven : (alerts : List Alert) → ok 7 overlay (after_alerts f alerts s)
      ≡ (leb (length (feeds_of (after_alerts f alerts s))) 4 && ok 7 (list 256 alert) alerts)
  unfolding after_alerts
  alerts_seven alerts =
      put_seven f (feed_with (timestamp_of F) (count_of F) (trips_of F) (vehicles_of F) alerts) (version_of s) s h
      ∙ ap (λ b. leb (length (feeds_of (after_alerts f alerts s))) 4 && b)
      (third_left trips_few vehicles_few (ok 7 (list 256 alert) alerts) parts.0 parts.1.0)

  -- A VEHICLE SHEET: the vehicles that are left
  module _ (entries : Vehicles) (clock : ℤ) where
    abbrev vehicles : Vehicles
    vehicles = without_stale clock (puts texts entries (vehicles_of F))

    pub vehicles_seven : ok 7 overlay (after_vehicles f entries clock s)
        ≡ (leb (length (feeds_of (after_vehicles f entries clock s))) 4 && ok 7 (list 1024 vehicle_entry) vehicles)
    unfolding after_vehicles
    vehicles_seven =
        let G = feed_with (timestamp_of F) (length (trips_of F)) (trips_of F) vehicles (alerts_of F) in
        put_seven f G ((version_of s + 1) % 2 ^ 64) s h
        ∙ ap (λ b. leb (length (feeds_of (after_vehicles f entries clock s))) 4 && b)
        (second_left trips_few (ok 7 (list 1024 vehicle_entry) vehicles) alerts_few parts.0 parts.1.1)
