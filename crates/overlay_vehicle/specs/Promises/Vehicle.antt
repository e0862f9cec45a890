-- Promise. The vehicle of a trip among a feed's, and its place by value.
use Rattle.std.specs.Prelude.{◌≡◌, Bool, cond, List, ℕ, ◌^◌, ◌<◌, Option, Some, None}
use Rattle.std.proofs.Math.Option.{Option as LogicOption, none, some}
use Rattle.basics.specs.Options.{given_and}
use Rattle.basics.specs.Texts.{same}
use Rattle.formats.specs.Format.{list}
use Rattle.formats_read.specs.Promises.Here.{Here}
use Rattle.overlay.specs.Lookup.{vehicle_for_trip}
use Rattle.overlay.specs.State.{Vehicle, Vehicles, vehicle, vehicle_entry, trip_of, latitude_of, longitude_of, updated_of}
use Rattle.overlay_seek.specs.Promises.Answers.{Answers, IsText}
use Rattle.vehicle_place.specs.declared.VehiclePlace.{VehiclePlace}
use Rattle.vehicle_place.specs.Promises.Place.{place_of}

-- whether a vehicle makes trip x
abbrev pub makes : List ℕ → Vehicle → Bool
makes x v = given_and (λ y. same y x) (trip_of v)

pub record MakesTrip (s : List ℕ) (p : ℕ) (x : List ℕ) (r : Bool) : Type 0 where
  pub to : {v : Vehicle} {q : ℕ} → Here vehicle s p q v → r ≡ makes x v

-- the tests of a feed's vehicles
abbrev pub riding : List ℕ → List ℕ × Vehicle → Bool
riding x e = makes x e.1

abbrev pub keyed : List ℕ → List ℕ × Vehicle → Bool
keyed x e = same e.0 x

-- what was seen of x as a key stays; else r is m, if x is the key at p
pub record Seen (seen : Option ℕ) (s : List ℕ) (p m : ℕ) (x : List ℕ) (r : Option ℕ) : Type 0 where
  pub stays : {q : ℕ} → seen ≡ Some q → r ≡ Some q
  pub asks : seen ≡ None → (t : Bool) × IsText s p x t × (r ≡ cond t (Some m) None)

-- of the vehicles at p the one of trip x
pub record FindsVehicle (s : List ℕ) (p : ℕ) (x : List ℕ) (r : Option ℕ) : Type 0 where
  pub to : {vs : Vehicles} {q : ℕ} → Here (list 1024 vehicle_entry) s p q vs
      → Answers vehicle s (vehicle_for_trip x vs) r

-- a vehicle's place
pub record PlaceIs (v : Vehicle) (r : VehiclePlace) : Type 0 where
  pub is : r ≡ place_of (latitude_of v) (longitude_of v) (updated_of v)
  pub latitude : latitude_of v < 2 ^ 64
  pub longitude : longitude_of v < 2 ^ 64

pub record ReadsVehicle (s : List ℕ) (p : ℕ) (r : VehiclePlace) : Type 0 where
  pub to : {v : Vehicle} {q : ℕ} → Here vehicle s p q v → PlaceIs v r

-- a place that the code holds, of a vehicle that is found or not
abbrev pub Sees : Option VehiclePlace → LogicOption Vehicle → Type 0
Sees None o = o ≡ none
Sees (Some p) o =
    (v : Vehicle) × (o ≡ some v) × (p ≡ place_of (latitude_of v) (longitude_of v) (updated_of v))
    × (latitude_of v < 2 ^ 64) × (longitude_of v < 2 ^ 64)

pub record SeesVehicle (s : List ℕ) (p : ℕ) (x : List ℕ) (r : Option VehiclePlace) : Type 0 where
  pub to : {vs : Vehicles} {q : ℕ} → Here (list 1024 vehicle_entry) s p q vs → Sees r (vehicle_for_trip x vs)
