-- Believe: 01, Overlay, and Times and status. A leg's candidate alerts: by the index that `rebuild_alert_index`
-- builds, as `alert_candidates_for_leg` looks it up, and by a search of the alerts' ids that needs no index.
use Rattle.std.specs.Prelude.{List, [], ◌∷◌, ◌++◌, Bool, cond, ◌||◌, ℕ, zero, suc}
use Rattle.std.proofs.Math.Option.{Option, none, some}
use Rattle.basics.specs.Lists.{any, member, is_empty, concat_map}
use Rattle.alerts.specs.Text.{rsplit_once}
use Rattle.basics.specs.Texts.{same}
use Rattle.alerts.specs.Alert.{Alert, informed_trip_ids, informed_route_ids, informed_stop_ids}

-- a trip id up to its last '@', whole where it has none
abbrev pub part_before : List ℕ → Option (List ℕ × List ℕ) → List ℕ
part_before whole none = whole
part_before whole (some p) = p.0

abbrev pub undated : List ℕ → List ℕ
undated t = part_before t (rsplit_once 0x40 t)

-- an id's tail, past its last ':', as a list of none or one
abbrev pub part_after : Option (List ℕ × List ℕ) → List (List ℕ)
part_after none = []
part_after (some p) = p.1 ∷ []

abbrev pub tail : List ℕ → List (List ℕ)
tail x = part_after (rsplit_once 0x3a x)

abbrev pub nonempty : List (List ℕ) → List (List ℕ)
nonempty [] = []
nonempty (x ∷ l) = cond (is_empty x) [] (x ∷ l)

-- A map from keys to alert numbers: `entry(k).or_default().push(i)`, and `numbers_at`, where a missing key has no
-- numbers
abbrev pub Map : Type 0
Map = List (List ℕ × List ℕ)

abbrev pub push : List ℕ → ℕ → Map → Map
push k i [] = (k, i ∷ []) ∷ []
push k i (e ∷ m) = cond (same k e.0) ((e.0, e.1 ++ (i ∷ [])) ∷ m) (e ∷ push k i m)

abbrev pub numbers_at : List ℕ → Map → List ℕ
numbers_at k [] = []
numbers_at k (e ∷ m) = cond (same k e.0) e.1 (numbers_at k m)

-- alert number i is pushed at each of its keys, the alerts in order
abbrev pub push_all : List (List ℕ) → ℕ → Map → Map
push_all [] i m = m
push_all (k ∷ ks) i m = push_all ks i (push k i m)

abbrev pub indexed : (Alert → List (List ℕ)) → ℕ → List Alert → Map → Map
indexed keys i [] m = m
indexed keys i (a ∷ l) m = indexed keys (suc i) l (push_all (keys a) i m)

-- the keys of a trip id, and of a route or stop id
abbrev pub trip_keys : List ℕ → List (List ℕ)
trip_keys t = undated t ∷ cond (same (undated t) t) [] (t ∷ [])

abbrev pub id_keys : List ℕ → List (List ℕ)
id_keys x = x ∷ nonempty (tail x)

pub record AlertIndex : Type 0 where
  pub by_trip : Map
  pub by_route : Map
  pub by_stop : Map

abbrev pub rebuild_alert_index : List Alert → AlertIndex
rebuild_alert_index l = record {
  by_trip = indexed (λ a. concat_map trip_keys (informed_trip_ids a)) 0 l [];
  by_route = indexed (λ a. concat_map id_keys (informed_route_ids a)) 0 l [];
  by_stop = indexed (λ a. concat_map id_keys (informed_stop_ids a)) 0 l [];
}

-- the keys that a leg is looked up by
abbrev pub leg_trips : List ℕ → List (List ℕ)
leg_trips trip = undated trip ∷ trip ∷ []

abbrev pub leg_routes : List ℕ → List (List ℕ)
leg_routes route = route ∷ tail route

abbrev pub leg_stops : List ℕ → List ℕ → List (List ℕ)
leg_stops from to = (from ∷ tail from) ++ (to ∷ tail to)

-- each number at its first place only
abbrev pub distinct : List ℕ → List ℕ → List ℕ
distinct seen [] = []
distinct seen (i ∷ l) = cond (member i seen) (distinct seen l) (i ∷ distinct (i ∷ seen) l)

abbrev pub lookups : AlertIndex → List ℕ → List ℕ → List ℕ → List ℕ → List ℕ
lookups x trip route from to =
    concat_map (λ k. numbers_at k x.by_trip) (leg_trips trip)
    ++ concat_map (λ k. numbers_at k x.by_route) (leg_routes route)
    ++ concat_map (λ k. numbers_at k x.by_stop) (leg_stops from to)

abbrev pub alert_candidates_for_leg : List Alert → List ℕ → List ℕ → List ℕ → List ℕ → List ℕ
alert_candidates_for_leg l trip route from to = distinct [] (lookups (rebuild_alert_index l) trip route from to)

-- the alert with a number, as a list of none or one
abbrev pub numbered : List Alert → ℕ → List Alert
numbered [] i = []
numbered (a ∷ l) zero = a ∷ []
numbered (a ∷ l) (suc i) = numbered l i

-- the candidates' alerts, in the order that the index gives
abbrev pub candidate_alerts : List Alert → List ℕ → List ℕ → List ℕ → List ℕ → List Alert
candidate_alerts l trip route from to = concat_map (numbered l) (alert_candidates_for_leg l trip route from to)

-- The search: an alert is a candidate where one of its ids, or what the index makes of it, is one of the leg's keys
abbrev pub meets : List (List ℕ) → List (List ℕ) → Bool
meets ks l = any (λ k. any (same k) l) ks

abbrev pub candidate : List ℕ → List ℕ → List ℕ → List ℕ → Alert → Bool
candidate trip route from to a =
    any (λ t. meets (leg_trips trip) (t ∷ undated t ∷ [])) (informed_trip_ids a)
    || any (λ r. meets (leg_routes route) (id_keys r)) (informed_route_ids a)
    || any (λ s. meets (leg_stops from to) (id_keys s)) (informed_stop_ids a)

-- the numbers, from i on, of the alerts that a test takes
abbrev pub numbers_where : (Alert → Bool) → ℕ → List Alert → List ℕ
numbers_where p i [] = []
numbers_where p i (a ∷ l) = let r = numbers_where p (suc i) l in cond (p a) (i ∷ r) r

abbrev pub search : List Alert → List ℕ → List ℕ → List ℕ → List ℕ → List ℕ
search l trip route from to = numbers_where (candidate trip route from to) 0 l
