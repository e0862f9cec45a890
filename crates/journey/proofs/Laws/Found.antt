-- Law. What look-up finds in feeds within questions 5 and 6 is within them.
use Rattle.std.specs.Prelude.{◌≡◌, refl, Bool, true, false, cond}
use mathlib.Core.List.{List, [], ◌∷◌}
use Rattle.std.proofs.Common.{inl, inr}
use Rattle.std.proofs.Math.Option.{Option, none, some, map}
use Prim.Native.Nat.{ℕ}
use Rattle.basics.specs.Lists.{All, is_empty}
use Rattle.formats.specs.Format.{◌&◌}
use Rattle.maps.proofs.Laws.Map.{Lawful}
use Rattle.maps.specs.Map.{Ordered, get}
use Rattle.maps.specs.Order.{texts}
use Rattle.maps.proofs.Laws.Order.{texts_order, numbers_order}
use Rattle.decode.specs.Trip.{trip_entry, Trip, number32, stop_update, trip, updates_of}
use Rattle.basics.specs.Options.{Maybe, or_else, bind_o}
use Rattle.decode.specs.Leaves.{Trips}
use Rattle.alerts.specs.Alert.{alert}
use Rattle.alerts.specs.Text.{rsplit_once}
use Rattle.overlay.specs.State.{Feed, State, vehicle, vehicle_entry, trips_of, feeds_of}
use Rattle.overlay.specs.Records.{Records, Feeds, records_of, shown}
use Rattle.overlay.proofs.Laws.Within.{Judged56, right, elements}
use Rattle.overlay.proofs.Laws.EveryEntry.{each_map, get_each}
use Rattle.decode.specs.Laws.Fine.{Given}
use Rattle.overlay.proofs.Laws.StaysValid.{TripKept, FeedKept, StateKept}
use Rattle.overlay.specs.Lookup.{first_that, value_of, FeedTrip, in_feed, feed_of, trip_at, get_trip}
use Rattle.overlay.specs.Lookup.{find_trip_by_descriptor, resolve_trip_rt, stop_update_by_stop_id, find_stop_update}
use Rattle.overlay.specs.Lookup.{vehicle_for_trip, get_vehicle_for_trip}

-- feeds within questions 5 and 6
pub record RecordsJudged (R : Records) : Type 0 where
  pub trips : All (Judged56 trip_entry) R.trips
  pub vehicles : All (Judged56 vehicle_entry) R.vehicles
  pub alerts : All (Judged56 alert) R.alerts

abbrev pub FeedsJudged : Feeds → Type 0
FeedsJudged B = (f : List ℕ) → Given RecordsJudged (B f)

-- those that a valid state shows are
pub shown_judged : (s : State) → StateKept s → FeedsJudged (shown s)
unfolding shown
shown_judged s k f = go (get texts f (feeds_of s)) refl
  where
    go : (o : Option Feed) → get texts f (feeds_of s) ≡ o → Given RecordsJudged (map records_of o)
    go none e = tt
    go (some F) e =
        let h = get_each texts_order FeedKept f F (feeds_of s) k.feeds e in
        record {
          trips = each_map {P = TripKept f} (λ e x. x.judged) (trips_of F) h.trips;
          vehicles = h.vehicles;
          alerts = h.alerts;
        }

-- ---- facts on what is found

pub record Gives {A : Type 0} (P : A → Type 0) (o : Option A) : Type 0 where
  pub is : Given P o

or_gives : {A : Type 0} {P : A → Type 0} (a b : Option A) → Gives P a → Gives P b → Gives P (or_else a b)
or_gives none b x y = y
or_gives (some a) b x y = record { is = x.is }

then_gives : {A B : Type 0} {Q : A → Type 0} {P : B → Type 0} (a : Option A) (k : A → Option B) → Given Q a
    → ((x : A) → Q x → Gives P (k x)) → Gives P (bind_o a k)
then_gives none k x h = record { is = tt }
then_gives (some a) k x h = record { is = (h a x).is }

-- the value of the first entry that passes a test
first_gives : {K A : Type 0} {P : K × A → Type 0} {Q : A → Type 0} → ((e : K × A) → P e → Q e.1)
    → (p : K × A → Bool) (l : List (K × A)) → All P l → Gives Q (value_of (first_that p l))
unfolding first_that
first_gives g p [] h = record { is = tt }
first_gives {Q = Q} g p (a ∷ l) h = go (p a) (first_gives g p l h.1)
  where
    go : (b : Bool) → Gives Q (value_of (first_that p l)) → Gives Q (value_of (cond b (some a) (first_that p l)))
    go true x = record { is = g a h.0 }
    go false x = x

get_gives : {K A : Type 0} {O : Ordered K} (W : Lawful O) {P : K × A → Type 0} {Q : A → Type 0}
    → ((e : K × A) → P e → Q e.1) → (k : K) (m : List (K × A)) → All P m → Gives Q (get O k m)
get_gives {K} {A} {O} W {P} {Q} g k m h = go (get O k m) refl
  where
    go : (o : Option A) → get O k m ≡ o → Gives Q o
    go none e = record { is = tt }
    go (some v) e = record { is = g (k, v) (get_each W P k v m h e) }

-- ---- trips, updates, vehicles

abbrev pub FoundJudged : FeedTrip → Type 0
FoundJudged r = Judged56 trip r.1

found_gives : (f : List ℕ) (o : Option Trip) → Gives (Judged56 trip) o → Gives FoundJudged (in_feed f o)
found_gives f none x = record { is = tt }
found_gives f (some t) x = record { is = x.is }

module _ (f : List ℕ) (ts : Trips) (h : All (Judged56 trip_entry) ts) where
  at_gives : (key : List ℕ) → Gives (Judged56 trip) (trip_at f key ts)
  unfolding trip_at
  at_gives key = first_gives {P = Judged56 trip_entry} (λ e x. right x) _ ts h

  get_trip_gives : (key : List ℕ) → Gives (Judged56 trip) (get_trip f key ts)
  unfolding get_trip
  get_trip_gives key = or_gives _ _ (at_gives key) (go (rsplit_once 64 key))
    where
      go : (o : Option (List ℕ × List ℕ)) → Gives (Judged56 trip) (bind_o o (λ p. trip_at f p.0 ts))
      go none = record { is = tt }
      go (some p) = record { is = (at_gives p.0).is }

  descriptor_gives : (route : List ℕ) (direction : Maybe ℕ) (date : List ℕ)
      → Gives (Judged56 trip) (find_trip_by_descriptor f route direction date ts)
  unfolding find_trip_by_descriptor
  descriptor_gives route direction date = first_gives {P = Judged56 trip_entry} (λ e x. right x) _ ts h

pub resolve_gives : (B : Feeds) → FeedsJudged B → (t route : List ℕ) (direction : Maybe ℕ) (date : List ℕ)
    → Gives FoundJudged (resolve_trip_rt B t route direction date)
unfolding resolve_trip_rt
resolve_gives B h t route direction date =
    or_gives _ _
    (then_gives {Q = RecordsJudged} (B (feed_of t)) _ (h (feed_of t))
    (λ R x. found_gives (feed_of t) _ (get_trip_gives (feed_of t) R.trips x.trips t)))
    (go (is_empty route))
  where
    g : List ℕ
    g = feed_of route

    go : (b : Bool) → Gives FoundJudged
        (cond b none (bind_o (B g) (λ R. in_feed g (find_trip_by_descriptor g route direction date R.trips))))
    go true = record { is = tt }
    go false =
        then_gives {Q = RecordsJudged} (B g) _ (h g)
        (λ R x. found_gives g _ (descriptor_gives g R.trips x.trips route direction date))

module _ (f stop : List ℕ) (t : Trip) (j : Judged56 trip t) where
  updates : All (Judged56 (number32 & stop_update)) (updates_of t)
  updates = elements 128 (number32 & stop_update) (updates_of t) (right (right (right (right (right (right j))))))

  by_stop : Gives (Judged56 stop_update) (stop_update_by_stop_id f stop t)
  unfolding stop_update_by_stop_id
  by_stop = first_gives {P = Judged56 (number32 & stop_update)} (λ e x. right x) _ (updates_of t) updates

  pub update_gives : (sequence : Maybe ℕ) → Gives (Judged56 stop_update) (find_stop_update f sequence stop t)
  unfolding find_stop_update
  update_gives (inl x) = by_stop
  update_gives (inr n) =
      or_gives _ _
      (get_gives numbers_order {P = Judged56 (number32 & stop_update)} (λ e x. right x) n (updates_of t) updates)
      by_stop

pub vehicle_gives : (B : Feeds) → FeedsJudged B → (t : List ℕ) → Gives (Judged56 vehicle) (get_vehicle_for_trip B t)
unfolding get_vehicle_for_trip vehicle_for_trip
vehicle_gives B h t =
    then_gives {Q = RecordsJudged} (B (feed_of t)) _ (h (feed_of t)) (λ R x.
    or_gives _ _ (first_gives {P = Judged56 vehicle_entry} (λ e y. right y) _ R.vehicles x.vehicles)
    (get_gives texts_order {P = Judged56 vehicle_entry} (λ e y. right y) t R.vehicles x.vehicles))
