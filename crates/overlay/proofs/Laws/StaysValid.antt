-- Law. A message and the two sheets leave a state that a buffer holds, unless question 7 says no.
use Rattle.std.specs.Prelude.{◌≡◌, refl, Bool, true, false, cond, ◌&&◌, List, [], ◌∷◌, ◌++◌, ℕ, suc, ◌+◌, ◌%◌, ◌^◌, ◌≤◌, ℤ, eqb, length}
use Rattle.std.proofs.Common.{inl, inr, ⊎_elim, arith, le-leb, eqb-true, eq-eqb}
use Rattle.std.proofs.Math.Option.{Option, none, some, get_or}
use Rattle.std.proofs.Math.Dec.{leb-zero}
use Rattle.basics.specs.Lists.{All, all}
use Rattle.formats.specs.Class.{token}
use Rattle.formats.specs.Format.{text, number, list, optional, ◌&◌, write}
use Rattle.formats_judge.specs.Judged.{ok}
use Rattle.overlay.proofs.Laws.Within.{Judged56, left, right, joined, elements, listed, absent, few, counted, both}
use Rattle.overlay.proofs.Laws.Within.{fits_of}
use Rattle.realtime.specs.Tree.{Tree, rep}
use Rattle.maps.specs.Map.{get, puts, ascending}
use Rattle.maps.specs.Order.{texts}
use Rattle.maps.proofs.Laws.Order.{texts_order}
use Rattle.maps.proofs.Laws.Map.{put_ascending, puts_ascending}
use Rattle.basics.specs.Laws.Booleans.{both_true}
use Rattle.decode.specs.Trip.{trip_entry, Trip}
use Rattle.basics.specs.Options.{Maybe, or_other}
use Rattle.decode.specs.Leaves as leaves
use Rattle.alerts.specs.Alert.{Alert, alert}
use Rattle.overlay.specs.State.{Feed, State, Vehicles, timestamp, vehicle_entry, feed_entry, overlay, timestamp_of}
use Rattle.overlay.specs.State.{count_of, trips_of, vehicles_of, alerts_of, version_of, feeds_of, no_feed}
use Rattle.overlay.specs.Image.{room}
use Rattle.overlay.specs.Valid.{trip_valid, count_valid, feed_valid, Held}
use Rattle.overlay.specs.Change.{feed_at, put_feed, after_message, after_alerts, after_vehicles}
use Rattle.overlay.specs.Buffer.{published}
use Rattle.overlay.proofs.Laws.Buffer.{valid_parts, parts_valid, held_rules, held_room}
use Rattle.overlay.proofs.Laws.Keys.{either, or_right}
use Rattle.overlay.proofs.Laws.EveryEntry.{each_of, all_of, each_map, each_both, each_put, each_puts, get_each}
use Rattle.overlay.proofs.Laws.EveryEntry.{each_stale, stale_ascending}

-- ---- what is kept of each part

pub record TripKept (f : List ℕ) (e : List ℕ × Trip) : Type 0 where
  pub judged : Judged56 trip_entry e
  pub valid : trip_valid f e ≡ true

pub record FeedKept (e : List ℕ × Feed) : Type 0 where
  pub name : ok 5 (text 16 token) e.0 ≡ true
  pub stamp : Judged56 (optional timestamp) (timestamp_of e.1)
  pub trips : All (TripKept e.0) (trips_of e.1)
  pub trips_up : ascending texts (trips_of e.1) ≡ true
  pub vehicles : All (Judged56 vehicle_entry) (vehicles_of e.1)
  pub vehicles_up : ascending texts (vehicles_of e.1) ≡ true
  pub alerts : All (Judged56 alert) (alerts_of e.1)
  pub count : count_valid e.0 e.1 ≡ true

pub record StateKept (s : State) : Type 0 where
  pub version : ok 6 (number 0 18446744073709551615) (version_of s) ≡ true
  pub up : ascending texts (feeds_of s) ≡ true
  pub feeds : All FeedKept (feeds_of s)

-- ---- a held state is kept, and one that is kept and within question 7 is held

feed_kept : (e : List ℕ × Feed) → Judged56 feed_entry e → feed_valid e ≡ true → FeedKept e
unfolding feed_valid
feed_kept (f, F) j v =
    let r = right (right (right j)) in
    let a = both_true (ascending texts (trips_of F))
    (all (trip_valid f) (trips_of F) && (ascending texts (vehicles_of F) && count_valid f F)) v in
    let b = both_true (all (trip_valid f) (trips_of F)) (ascending texts (vehicles_of F) && count_valid f F) a.1 in
    let c = both_true (ascending texts (vehicles_of F)) (count_valid f F) b.1 in
    record {
      name = (left j).five;
      stamp = left (right j);
      trips = each_both (λ e x y. record { judged = x; valid = y }) (trips_of F)
          (elements 2048 trip_entry (trips_of F) (left r)) (each_of (trip_valid f) (trips_of F) b.0);
      trips_up = a.0;
      vehicles = elements 1024 vehicle_entry (vehicles_of F) (left (right r));
      vehicles_up = c.0;
      alerts = elements 256 alert (alerts_of F) (right (right r));
      count = c.1;
    }

-- the count is at most that of all keys
count_below : (f : List ℕ) (trips : leaves.Trips) → leaves.count_without_at f trips ≤ length trips
unfolding leaves.count_without_at
count_below f [] = omega arith
count_below f (e ∷ m) = go (leaves.has_byte 64 (f ++ 58 ∷ e.0)) (count_below f m)
  where
    go : (b : Bool) → leaves.count_without_at f m ≤ length m
        → cond b (leaves.count_without_at f m) (suc (leaves.count_without_at f m)) ≤ suc (length m)
    go true h = omega arith
    go false h = omega arith

count_few : (f : List ℕ) (F : Feed) → count_valid f F ≡ true → length (trips_of F) ≤ 2048 → count_of F ≤ 2048
count_few f F c h =
    ⊎_elim (λ e. omega
    (arith, eqb-true (count_of F) (leaves.count_without_at f (trips_of F)) e, count_below f (trips_of F)))
    (λ e. omega (arith, eqb-true (count_of F) (length (trips_of F)) e))
    (either (eqb (count_of F) (leaves.count_without_at f (trips_of F))) (eqb (count_of F) (length (trips_of F))) c)

-- a feed's trips are few enough
trips_few : (e : List ℕ × Feed) → ok 7 feed_entry e ≡ true → length (trips_of e.1) ≤ 2048
trips_few e h =
    let F = e.1 in
    let a = both_true (ok 7 (optional timestamp) (timestamp_of F))
    (ok 7 (list 2048 trip_entry & list 1024 vehicle_entry & list 256 alert) F.1.1) h in
    few 2048 trip_entry (trips_of F)
    (both_true (ok 7 (list 2048 trip_entry) (trips_of F))
    (ok 7 (list 1024 vehicle_entry & list 256 alert) F.1.1.1) a.1).0

feed_judged : (e : List ℕ × Feed) → FeedKept e → ok 7 feed_entry e ≡ true → Judged56 feed_entry e
feed_judged (f, F) k h =
    let c = count_few f F k.count (trips_few (f, F) h) in
    joined (f, F) (record { formed = tt; five = k.name; six = refl })
    (joined F k.stamp
    (joined F.1 (record { formed = tt; five = refl; six = both (leb-zero (count_of F)) (le-leb (count_of F) 2048 c) })
    (joined F.1.1 (listed 2048 trip_entry (trips_of F) (each_map (λ e x. x.judged) (trips_of F) k.trips))
    (joined F.1.1.1 (listed 1024 vehicle_entry (vehicles_of F) k.vehicles)
    (listed 256 alert (alerts_of F) k.alerts)))))

-- and valid
feed_valid_holds : (e : List ℕ × Feed) → FeedKept e → feed_valid e ≡ true
unfolding feed_valid
feed_valid_holds (f, F) k =
    both k.trips_up
    (both (all_of (trip_valid f) (trips_of F) (each_map (λ e x. x.valid) (trips_of F) k.trips))
    (both k.vehicles_up k.count))

pub kept_of : (s : State) → Held s → StateKept s
kept_of s h =
    let j = (held_rules s h).0 in
    let p = valid_parts s h.valid in
    record {
      version = (left (right j)).six;
      up = p.up;
      feeds = each_both feed_kept (feeds_of s) (elements 4 feed_entry (feeds_of s) (right (right j)))
          (each_of feed_valid (feeds_of s) p.feeds);
    }

pub held_of : (s : State) → StateKept s → ok 7 overlay s ≡ true → Held s
held_of s k h =
    let few7 = each_of (ok 7 feed_entry) (feeds_of s) (counted 4 feed_entry (feeds_of s) h) in
    let feeds = listed 4 feed_entry (feeds_of s) (each_both feed_judged (feeds_of s) k.feeds few7) in
    let j : Judged56 overlay s =
    joined s (record { formed = tt; five = refl; six = refl })
    (joined s.1 (record { formed = tt; five = refl; six = k.version }) feeds) in
    record {
      fits = fits_of overlay refl s j h;
      valid = parts_valid s (record {
        five = j.five;
        six = j.six;
        seven = h;
        up = k.up;
        feeds = all_of feed_valid (feeds_of s) (each_map feed_valid_holds (feeds_of s) k.feeds);
      });
    }

-- at the published length such a state has room: question 7 counts there, and no more
pub kept_room : (s : State) → StateKept s → ok 7 overlay s ≡ true → room published s ≡ true
unfolding room
kept_room s k h = le-leb (length (write overlay s)) published (held_room s (held_of s k h))

-- ---- each change keeps

no_feed_holds : (f : List ℕ) → ok 5 (text 16 token) f ≡ true → FeedKept (f, no_feed)
unfolding leaves.count_without_at
no_feed_holds f h =
    record {
      name = h;
      stamp = absent timestamp;
      trips = tt;
      trips_up = refl;
      vehicles = tt;
      vehicles_up = refl;
      alerts = tt;
      count = refl;
    }

at_kept : (f : List ℕ) (s : State) → ok 5 (text 16 token) f ≡ true → StateKept s → FeedKept (f, feed_at f s)
unfolding feed_at
at_kept f s h k = go (get texts f (feeds_of s)) refl
  where
    go : (o : Option Feed) → get texts f (feeds_of s) ≡ o → FeedKept (f, get_or o no_feed)
    go none e = no_feed_holds f h
    go (some F) e = get_each texts_order FeedKept f F (feeds_of s) k.feeds e

put_kept : (f : List ℕ) (F : Feed) (n : ℕ) (s : State) → StateKept s → ok 6 (number 0 18446744073709551615) n ≡ true
    → FeedKept (f, F) → StateKept (put_feed f F n s)
unfolding put_feed
put_kept f F n s k v h =
    record {
      version = v;
      up = put_ascending texts_order f F (feeds_of s) k.up;
      feeds = each_put texts FeedKept f F (feeds_of s) h k.feeds;
    }

-- AN ALERT SHEET
pub alerts_kept : (f : List ℕ) (alerts : List Alert) (s : State) → ok 5 (text 16 token) f ≡ true
    → All (Judged56 alert) alerts → StateKept s → StateKept (after_alerts f alerts s)
unfolding after_alerts
alerts_kept f alerts s h j k =
    let a = at_kept f s h k in
    put_kept f _ (version_of s) s k k.version (record {
      name = h;
      stamp = a.stamp;
      trips = a.trips;
      trips_up = a.trips_up;
      vehicles = a.vehicles;
      vehicles_up = a.vehicles_up;
      alerts = j;
      count = a.count;
    })

-- A VEHICLE SHEET
version_kept : (n : ℕ) → ok 6 (number 0 18446744073709551615) ((n + 1) % 2 ^ 64) ≡ true
version_kept n = both (leb-zero ((n + 1) % 2 ^ 64)) (le-leb ((n + 1) % 2 ^ 64) 18446744073709551615 (omega arith))

pub vehicles_kept : (f : List ℕ) (entries : Vehicles) (clock : ℤ) (s : State) → ok 5 (text 16 token) f ≡ true
    → All (Judged56 vehicle_entry) entries
    → StateKept s → StateKept (after_vehicles f entries clock s)
unfolding after_vehicles
vehicles_kept f entries clock s h j k =
    let a = at_kept f s h k in
    let F = feed_at f s in
    let all_in = puts texts entries (vehicles_of F) in
    put_kept f _ _ s k (version_kept (version_of s)) (record {
      name = h;
      stamp = a.stamp;
      trips = a.trips;
      trips_up = a.trips_up;
      vehicles =
          each_stale (Judged56 vehicle_entry) clock all_in
          (each_puts texts (Judged56 vehicle_entry) entries (vehicles_of F) j a.vehicles);
      vehicles_up = stale_ascending clock all_in (puts_ascending texts_order entries (vehicles_of F) a.vehicles_up);
      alerts = a.alerts;
      count = or_right (eqb (length (trips_of F)) (leaves.count_without_at f (trips_of F)))
          (eqb (length (trips_of F)) (length (trips_of F))) (eq-eqb (length (trips_of F)) (length (trips_of F)) refl);
    })

-- A MESSAGE, whose entries and timestamp are within the rules
latest_kept : (a b : Maybe ℤ) → Judged56 (optional timestamp) a → Judged56 (optional timestamp) b
    → Judged56 (optional timestamp) (or_other a b)
latest_kept (inl x) b p q = q
latest_kept (inr z) b p q = p

module _ (f : List ℕ) (m : Tree) (old : leaves.Trips) where
  start_kept : All (TripKept f) old → (d : Bool) → All (TripKept f) (cond d old [])
  start_kept h true = h
  start_kept h false = tt

  start_up : ascending texts old ≡ true → (d : Bool) → ascending texts (cond d old []) ≡ true
  start_up h true = h
  start_up h false = refl

  leaves_kept : All (TripKept f) (leaves.entries f (rep 2 m)) → All (TripKept f) old
      → All (TripKept f) (leaves.leaves f m old)
  unfolding leaves.leaves
  leaves_kept e h = each_puts texts (TripKept f) (leaves.entries f (rep 2 m)) _ e (start_kept h (leaves.differential m))

  leaves_up : ascending texts old ≡ true → ascending texts (leaves.leaves f m old) ≡ true
  unfolding leaves.leaves
  leaves_up h = puts_ascending texts_order (leaves.entries f (rep 2 m)) _ (start_up h (leaves.differential m))

pub message_kept : (f : List ℕ) (m : Tree) (s : State) → ok 5 (text 16 token) f ≡ true
    → All (TripKept f) (leaves.entries f (rep 2 m))
    → Judged56 (optional timestamp) (leaves.timestamp_in m) → StateKept s → StateKept (after_message f m s)
unfolding after_message
message_kept f m s h e t k =
    let a = at_kept f s h k in
    let F = feed_at f s in
    let n = leaves.count_without_at f (leaves.leaves f m (trips_of F)) in
    put_kept f _ (version_of s) s k k.version (record {
      name = h;
      stamp = latest_kept (leaves.timestamp_in m) (timestamp_of F) t a.stamp;
      trips = leaves_kept f m (trips_of F) e a.trips;
      trips_up = leaves_up f m (trips_of F) a.trips_up;
      vehicles = a.vehicles;
      vehicles_up = a.vehicles_up;
      alerts = a.alerts;
      count = rw (eq-eqb n n refl) refl;
    })
