-- Promise. A stop update of the trip whose record stands at p: by its sequence, by the card's stop id, and by either.
use Rattle.std.specs.Prelude.{◌≡◌, Bool, List, ℕ, eqb, Option}
use Rattle.basics.specs.Options.{Maybe}
use Rattle.formats_read.specs.Promises.Here.{Here}
use Rattle.maps.specs.Map.{get}
use Rattle.maps.specs.Order.{numbers}
use Rattle.decode.specs.Trip.{StopUpdate, Trip, trip, stop_update, updates_of}
use Rattle.overlay.specs.Lookup.{stop_matches, stop_update_by_stop_id, find_stop_update}
use Rattle.overlay_seek.specs.Promises.Answers.{Answers}

-- whether feed f's stop of the update at p is the card's stop y
pub record StopTold (s : List ℕ) (p : ℕ) (f y : List ℕ) (r : Bool) : Type 0 where
  pub to : {u : StopUpdate} {q : ℕ} → Here stop_update s p q u → r ≡ stop_matches f y u

-- the tests of a trip's updates
abbrev pub numbered : ℕ → ℕ × StopUpdate → Bool
numbered n e = eqb e.0 n

abbrev pub stopping : List ℕ → List ℕ → ℕ × StopUpdate → Bool
stopping f y e = stop_matches f y e.1

pub record BySequence (s : List ℕ) (p n : ℕ) (r : Option ℕ) : Type 0 where
  pub to : {t : Trip} {q : ℕ} → Here trip s p q t → Answers stop_update s (get numbers n (updates_of t)) r

pub record ByStop (s : List ℕ) (p : ℕ) (f y : List ℕ) (r : Option ℕ) : Type 0 where
  pub to : {t : Trip} {q : ℕ} → Here trip s p q t → Answers stop_update s (stop_update_by_stop_id f y t) r

pub record FindsUpdate (s : List ℕ) (p : ℕ) (f : List ℕ) (n : Maybe ℕ) (y : List ℕ) (r : Option ℕ) : Type 0 where
  pub to : {t : Trip} {q : ℕ} → Here trip s p q t → Answers stop_update s (find_stop_update f n y t) r
