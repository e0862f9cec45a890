-- A coordinate's bits, and places that are read and written.
use Rattle.std.specs.Prelude.{Option}
use mathlib.Core.Path.{◌≡◌, refl, ap}
use Prim.Native.Nat.{ℕ}
use lib.Ieee.{binary64, is_nan, nan_bits, of_bits}
use lib.Ieee.Bits.{nan_bits_is}
use mathlib.Core.List.{List}
use mathlib.Core.Logic.{inr}
use lib.IntN.{ℤ}
use mir.Facts.{to_z-of_z}
use mir.Syntax.{w64}
use mir.Val.{SFits, to_z, of_z}
use Rattle.formats.specs.Number.{zig, number_w, little_w}
use Rattle.formats_write.specs.Laws.Adds.{then, same}
use Rattle.formats_write.specs.Promises.Adds.{Adds}
use Rattle.formats_write.specs.Promises.Given.{optional_w}
use Rattle.vehicle_place.specs.declared.VehiclePlace.{VehiclePlace}
use Rattle.vehicle_place.specs.Promises.Place.{place_of, place_w}
use Rattle.vehicle_place.specs.Promises.Coordinates.{coordinate_of, bits_of}
use Rattle.vehicle_place.specs.declared.Coordinate.{Coordinate}

-- a pattern is a NaN's where its float is a NaN
pub is_pattern : (n : ℕ) → nan_bits binary64 n ≡ is_nan (of_bits binary64 n)
is_pattern n = nan_bits_is binary64 n

-- a place that is read, and one that is written
pub place_is : {a b : Coordinate} {m n x y : ℕ} {u z : ℤ} → a ≡ coordinate_of m → b ≡ coordinate_of n → m ≡ x → n ≡ y
    → u ≡ z → SFits w64 u
    → ◌≡◌ {A = VehiclePlace} (record { latitude = a; longitude = b; updated = to_z w64 (of_z w64 u) }) (place_of x y z)
place_is e f g h i s = rw (e, f, g, h, to_z-of_z s, i) refl

pub place_out : (v : VehiclePlace) {m n : ℕ} → m ≡ bits_of v.latitude → n ≡ bits_of v.longitude
    → SFits w64 v.updated
    → {l o p q : List ℕ} {r i j k : Option ℕ} → Adds l r o i (optional_w (little_w 8) (inr m))
    → Adds o i p j (optional_w (little_w 8) (inr n))
    → Adds p j q k (optional_w (λ z. number_w (zig z)) (inr (to_z w64 (of_z w64 v.updated)))) → Adds l r q k (place_w v)
place_out v e f s a b c =
    then (same a (ap (λ n. optional_w (little_w 8) (inr n)) e))
    (then (same b (ap (λ n. optional_w (little_w 8) (inr n)) f))
    (same c (ap (λ z. optional_w (λ z. number_w (zig z)) (inr z)) (to_z-of_z s))))
