-- Law. What the walk asks of a state is what `valid` asks.
use Rattle.std.specs.Prelude.{◌≡◌, refl, Bool, true, false, cond, ◌&&◌, ◌||◌, List, [], ◌∷◌, ◌++◌, ℕ, suc, ◌+◌, eqb, length}
use Rattle.std.proofs.Common.{sym, ap, ◌∙◌, arith}
use Rattle.basics.specs.Lists.{all}
use Rattle.basics.specs.Laws.Booleans.{and_yes}
use Rattle.maps.specs.Map.{ascending}
use Rattle.maps.specs.Order.{texts, numbers}
use Rattle.formats.specs.Format.{list}
use Rattle.formats_check.specs.Promises.Checked.{holds}
use Rattle.formats_check.specs.Laws.Climbing.{weight, by_key, weightless, whatever}
use Rattle.decode.specs.Trip.{updates_of}
use Rattle.decode.specs.Key.{key_ok}
use Rattle.decode.specs.Leaves.{Trips, has_byte, count_without_at}
use Rattle.alerts.specs.Alert.{alert}
use Rattle.overlay.specs.State.{State, vehicle, overlay, feeds_of, trips_of, vehicles_of}
use Rattle.overlay.specs.Valid.{trip_valid, count_valid, feed_valid, within, valid}
use Rattle.overlay.proofs.Laws.Within.{all_true}
use Rattle.overlay_trip.specs.Laws.Trip.{trip_good, trip_good_holds}
use Rattle.overlay_keyed.specs.Promises.Trips.{plain, is_count, trips_good}
use Rattle.overlay_keyed.specs.Promises.Trips as trips
use Rattle.overlay_records.specs.Promises.Vehicles.{vehicles_good}
use Rattle.overlay_open.specs.Promises.State.{records_good, entry_good, state_good}
use Rattle.overlay_open.specs.Laws.Fine.{within_fine}
use Rattle.overlay_open.specs.Laws.Splits.{Splits, always, split_own, split_behind, split_under, split_both}
use Rattle.overlay_open.specs.Laws.Splits.{split_also, split_as, split_climb}

-- THE TRIPS OF A FEED
trip_splits : Splits trip_good (λ t. ascending numbers (updates_of t))
trip_splits = record { on = trip_good_holds }

and_comm : (a b : Bool) → (a && b) ≡ (b && a)
and_comm true true = refl
and_comm true false = refl
and_comm false true = refl
and_comm false false = refl

entry_splits : (f : List ℕ) → Splits (trips.entry_good f) (trip_valid f)
entry_splits f =
    split_as (trip_valid f) (split_also (λ e. key_ok f e.0 e.1) (split_behind trip_splits))
    (λ e. and_comm (key_ok f e.0 e.1) (ascending numbers (updates_of e.1)))

weight_is : (f : List ℕ) (v : Trips) → weight (by_key (plain f)) v ≡ count_without_at f v
unfolding count_without_at plain
weight_is f [] = refl
weight_is f (e ∷ v) = rw (weight_is f v) (go (has_byte 64 (f ++ 58 ∷ e.0)) (count_without_at f v))
  where
    go : (b : Bool) (n : ℕ) → cond b 0 1 + n ≡ cond b n (suc n)
    go true n = omega arith
    go false n = omega arith

abbrev trips_rule : List ℕ → ℕ → Trips → Bool
trips_rule f c v =
    (all (trip_valid f) v && ascending texts v) && (eqb c (count_without_at f v) || eqb c (length v))

trips_splits : (f : List ℕ) (c : ℕ) → Splits (trips_good f c) (trips_rule f c)
unfolding is_count
trips_splits f c =
    split_as (trips_rule f c) (split_climb (entry_splits f) (by_key (plain f)) (is_count c) 2048)
    (λ v. ap (λ n. (all (trip_valid f) v && ascending texts v) && (eqb c n || eqb c (length v))) (sym (weight_is f v)))

-- ITS VEHICLES
vehicles_splits : Splits vehicles_good (λ v. ascending texts v)
vehicles_splits =
    split_as (λ v. ascending texts v)
    (split_climb (split_behind (split_own vehicle)) weightless whatever 1024)
    (λ v. rw (all_true always (λ e. refl) v) (sym (and_yes (ascending texts v))))

-- THE FEED, the feeds and the state
four : (p q r k : Bool) → (p && (q && (r && k))) ≡ (((q && p) && k) && (r && true))
four true true true true = refl
four true true true false = refl
four true true false true = refl
four true true false false = refl
four true false r k = refl
four false true r k = refl
four false false r k = refl

records_splits : (f : List ℕ) (c : ℕ)
    → Splits (records_good f c) (λ v. trips_rule f c v.0 && (ascending texts v.1.0 && true))
records_splits f c = split_both (trips_splits f c) (split_both vehicles_splits (split_own (list 256 alert)))

feed_splits : Splits entry_good feed_valid
unfolding feed_valid
feed_splits =
    split_as feed_valid (split_under (λ f. split_behind (split_under (records_splits f))))
    (λ e.
    four (ascending texts (trips_of e.1)) (all (trip_valid e.0) (trips_of e.1))
    (ascending texts (vehicles_of e.1)) (count_valid e.0 e.1))

abbrev state_rule : State → Bool
state_rule s = ascending texts (feeds_of s) && all feed_valid (feeds_of s)

state_splits : Splits state_good state_rule
state_splits =
    split_behind
    (split_behind
    (split_as (λ v. ascending texts v && all feed_valid v) (split_climb feed_splits weightless whatever 4)
    (λ v. and_comm (ascending texts v) (all feed_valid v) ∙ sym (and_yes (all feed_valid v && ascending texts v)))))

-- THE WALK ASKS WHAT `valid` ASKS
pub state_valid : (s : State) → holds state_good s ≡ valid s
unfolding valid within
state_valid s =
    sym (ap (λ x. x && state_rule s) (within_fine overlay s) ∙ state_splits.on s)
