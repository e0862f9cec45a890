-- Promise. A vehicle's place: what stands in a sheet is what goes into a leg, bit for bit.
use Rattle.std.specs.Prelude.{◌≡◌, List, ◌++◌, ℕ, ℤ}
use Rattle.std.proofs.Common.{inr}
use Rattle.formats.specs.Number.{zig, number_w, little_w}
use Rattle.formats.specs.Format.{float, signed}
use Rattle.formats_write.specs.Promises.Given.{optional_w}
use Rattle.formats_read.specs.Promises.Here.{Here}
use Rattle.vehicle_place.specs.declared.VehiclePlace.{VehiclePlace}
use Rattle.vehicle_place.specs.Promises.Coordinates.{coordinate_of, bits_of}

-- the place of two floats' bits and a time
abbrev pub place_of : ℕ → ℕ → ℤ → VehiclePlace
place_of x y z = record { latitude = coordinate_of x; longitude = coordinate_of y; updated = z }

pub record ReadsPlace (s : List ℕ) (a b c : ℕ) (r : VehiclePlace) : Type 0 where
  pub is : {x y p q t : ℕ} {lo hi z : ℤ} → Here float s a p x → Here float s b q y → Here (signed lo hi) s c t z
      → r ≡ place_of x y z

abbrev pub place_w : VehiclePlace → List ℕ
place_w v = optional_w (little_w 8) (inr (bits_of v.latitude))
    ++ (optional_w (little_w 8) (inr (bits_of v.longitude)) ++ optional_w (λ z. number_w (zig z)) (inr v.updated))
