-- Promise. A coordinate as the code holds it, and its 64 bits: every pattern is handed on.
use Rattle.std.specs.Prelude.{cond, ℕ}
use Rattle.std.specs.Float.{binary64}
use Rattle.std.specs.Float.Ieee.{nan_bits, of_bits, to_bits}
use Rattle.vehicle_place.specs.declared.Coordinate.{Coordinate}
use Rattle.vehicle_place.specs.declared.Coordinate.TheVariants.{Number, NaN}

abbrev pub coordinate_of : ℕ → Coordinate
coordinate_of n = cond (nan_bits binary64 n) (NaN n) (Number (of_bits binary64 n))

abbrev pub bits_of : Coordinate → ℕ
bits_of (Number x) = to_bits binary64 x
bits_of (NaN n) = n
