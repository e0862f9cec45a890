-- Promise. Tests on what stands in a record: its date, route and direction.
use Rattle.std.specs.Prelude.{◌≡◌, Bool, ◌&&◌, List, ℕ, Option}
use Rattle.basics.specs.Texts.{same}
use Rattle.formats.specs.Class.{Class}
use Rattle.formats.specs.Format.{text, optional, Value}
use Rattle.formats_write.specs.Promises.Given.{given_number}
use Rattle.formats_read.specs.Promises.Fields.{part}
use Rattle.formats_read.specs.Promises.Here.{Here}
use Rattle.decode.specs.Key.{prefixed}
use Rattle.decode.specs.Trip.{Trip, trip, number32, date_of, route_of, direction_of}
use Rattle.overlay.specs.Lookup.{route_matches, direction_matches}

-- whether feed f's route at p is the leg's; whether the direction at p is met
pub record RouteIs (s : List ℕ) (p : ℕ) (f leg : List ℕ) (b : Bool) : Type 0 where
  pub is : {l : ℕ} {c : Class} {v : List ℕ} {q : ℕ} → Here (text l c) s p q v
      → b ≡ route_matches (prefixed f v) leg

pub record DirectionIs (s : List ℕ) (p : ℕ) (d : Option ℕ) (b : Bool) : Type 0 where
  pub is : {v : Value (optional number32)} {q : ℕ} → Here (optional number32) s p q v
      → b ≡ direction_matches (given_number d) v

-- whether the leg's descriptor is that of a record from its date on
pub record Described (s : List ℕ) (p : ℕ) (f leg : List ℕ) (d : Option ℕ) (date : List ℕ) (b : Bool) :
    Type 0 where
  pub is : {v : Value (part 2 trip)} {q : ℕ} → Here (part 2 trip) s p q v
      → b ≡ route_matches (prefixed f v.1.0) leg
      && (direction_matches (given_number d) v.1.1.0 && same v.0 date)

-- of a trip's entry: the leg's descriptor
abbrev pub descriptor_test : List ℕ → List ℕ → Option ℕ → List ℕ → List ℕ × Trip → Bool
descriptor_test f leg d date e =
    route_matches (prefixed f (route_of e.1)) leg
    && (direction_matches (given_number d) (direction_of e.1) && same (date_of e.1) date)
