-- Promise. By which ids an alert is a candidate; a number pushed behind the candidates; the candidates of a feed.
use Rattle.std.specs.Prelude.{◌≡◌, List, [], ◌∷◌, ◌++◌, Bool, true, false, not, ◌&&◌, ◌||◌, ℕ, ◌+◌, ◌≤◌, ◌<◌, eqb, length, take}
use Rattle.basics.specs.Lists.{any}
use Rattle.formats.specs.Format.{list}
use Rattle.formats_read.specs.Promises.Here.{Here}
use Rattle.alerts.specs.Alert.{alert, Alert, informed_trip_ids, informed_route_ids, informed_stop_ids}
use Rattle.alerts.specs.Index.{undated, search}
use Rattle.alerts_search.specs.declared.candidates.Meet.{Meet}
use Rattle.alerts_search.specs.Promises.Ids.{meets_trip, meets_id, meets_stop}
use Rattle.alerts_search.specs.Promises.Marks.{marked}

pub record Met (trip route from to s : List ℕ) (p : ℕ) (m : Meet) : Type 0 where
  pub by_trip : {a : Alert} {q : ℕ} → Here alert s p q a
      → m.trip ≡ any (meets_trip trip (undated trip)) (informed_trip_ids a)
  pub by_route : {a : Alert} {q : ℕ} → Here alert s p q a → m.route ≡ any (meets_id route) (informed_route_ids a)
  pub by_stop : {a : Alert} {q : ℕ} → Here alert s p q a → m.stop ≡ any (meets_stop from to) (informed_stop_ids a)
  pub next : {a : Alert} {q : ℕ} → Here alert s p q a → m.next ≡ q

-- `push_idx`: the candidates went from c with n to d with r, the marks from m to o. A number that hits and isn't
-- marked goes behind the others, where there is room
pub record Pushed (hit : Bool) (i n r : ℕ) (c d m o : List ℕ) : Type 0 where
  pub kept : length d ≡ length c
  pub kept_marks : length o ≡ length m
  pub still : hit && not (marked m i) ≡ false → (r ≡ n) × (d ≡ c)
  pub added : hit && not (marked m i) ≡ true → n < length c → (r ≡ n + 1) × (take r d ≡ take n c ++ (i ∷ []))
  pub marks : (j : ℕ) → marked o j ≡ marked m j || hit && eqb j i

pub record Pushes (hit : Bool) (i n r : ℕ) (c d m o : List ℕ) : Type 0 where
  pub kept : length d ≡ length c
  pub kept_marks : length o ≡ length m
  pub pushed : i < 256 → Pushed hit i n r c d m o

-- what was found for the alerts at p: the search's numbers
pub record Candidates (trip route from to s : List ℕ) (p r : ℕ) (c : List ℕ) : Type 0 where
  pub kept : length c ≡ 256
  pub is : {l : List Alert} {q : ℕ} → Here (list 256 alert) s p q l → length l ≤ 256
      → take r c ≡ search l trip route from to
  pub count : {l : List Alert} {q : ℕ} → Here (list 256 alert) s p q l → length l ≤ 256
      → r ≡ length (search l trip route from to)
