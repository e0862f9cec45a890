-- Law. What stands in a sheet goes into a leg bit for bit.
use Rattle.std.specs.Prelude.{◌≡◌, refl, ℕ, ◌^◌, ◌<◌, ℤ}
use Rattle.std.proofs.Common.{inr}
use Rattle.formats.specs.Format.{float, signed, optional, ◌&◌, write}
use Rattle.vehicle_place.specs.Laws.Coordinates.{handed_on}
use Rattle.vehicle_place.specs.Promises.Place.{place_of, place_w}

-- every pattern of the two floats is handed on
pub handed : (x y : ℕ) (lo hi z : ℤ) → x < 2 ^ 64 → y < 2 ^ 64
    → place_w (place_of x y z)
    ≡ write (optional float & optional float & optional (signed lo hi)) (inr x, (inr y, inr z))
handed x y lo hi z h k = rw (handed_on x h, handed_on y k) refl
