-- Promise. What is asked of an alert's ids: of one, beside two texts of the leg, and of a list at a place.
use Rattle.std.specs.Prelude.{◌≡◌, List, [], ◌∷◌, ◌++◌, Bool, not, ◌&&◌, ◌||◌, ℕ}
use Rattle.basics.specs.Lists.{any, is_empty}
use Rattle.basics.specs.Texts.{same}
use Rattle.formats_read.specs.Promises.Here.{Here}
use Rattle.alerts.specs.Alert.{ids}
use Rattle.alerts.specs.Text.{text, ends, same_ignoring_case}
use Rattle.alerts.specs.Index.{undated, id_keys, leg_routes, leg_stops, meets}
use Rattle.alerts.specs.Applies.{stop_tail, route_refs_match, by_name}
use Rattle.alerts_search.specs.declared.ids.Ask.{Ask}
use Rattle.alerts_search.specs.declared.ids.Ask.TheVariants.{MeetsTrip, MeetsRoute, MeetsStops}
use Rattle.alerts_search.specs.declared.ids.Ask.TheVariants.{HitsTrip, HitsRoute, HitsStops}

-- an id that makes its alert a candidate; base is the leg's trip without its date
abbrev pub meets_trip : List ℕ → List ℕ → List ℕ → Bool
meets_trip trip base t = meets (base ∷ trip ∷ []) (t ∷ undated t ∷ [])

abbrev pub meets_id : List ℕ → List ℕ → Bool
meets_id k x = meets (leg_routes k) (id_keys x)

abbrev pub meets_stop : List ℕ → List ℕ → List ℕ → Bool
meets_stop from to s = meets (leg_stops from to) (id_keys s)

-- an id that hits the leg; short is trimmed
abbrev pub hits_trip_id : List ℕ → List ℕ → List ℕ → Bool
hits_trip_id trip base t = same t trip || same t base || ends (text ":" ++ base) t

abbrev pub hits_stop_id : List ℕ → List ℕ → Bool
hits_stop_id stop s = not (is_empty stop) && (same s stop || same_ignoring_case (stop_tail s) (stop_tail stop))

abbrev pub hits_route_id : List ℕ → List ℕ → List ℕ → Bool
hits_route_id route short r = route_refs_match route r || not (is_empty short) && by_name short r

abbrev pub answer_of : Ask → List ℕ → List ℕ → List ℕ → Bool
answer_of MeetsTrip x y i = meets_trip x y i
answer_of MeetsRoute x y i = meets_id x i
answer_of MeetsStops x y i = meets_stop x y i
answer_of HitsTrip x y i = hits_trip_id x y i
answer_of HitsRoute x y i = hits_route_id x y i
answer_of HitsStops x y i = hits_stop_id x i || hits_stop_id y i

-- the ids that stand at p, each asked: whether one says yes, and where they end
pub record Asked (ask : Ask) (x y s : List ℕ) (p : ℕ) (hit : Bool) (r : ℕ) : Type 0 where
  pub is : {l : List (List ℕ)} {q : ℕ} → Here ids s p q l → hit ≡ any (answer_of ask x y) l
  pub next : {l : List (List ℕ)} {q : ℕ} → Here ids s p q l → r ≡ q
