-- Law. No pattern of a coordinate's bits is lost.
use Rattle.std.specs.Prelude.{◌≡◌, refl, Bool, true, false, not, ℕ, ◌^◌, ◌<◌, T}
use Rattle.std.proofs.Common.{arith}
use Rattle.std.specs.Float.{binary64}
use Rattle.std.specs.Float.Ieee.{is_nan, nan_bits, of_bits}
use Rattle.std.specs.Float.Ieee.Bits.{to_bits-of_bits, nan_bits_is}
use Rattle.vehicle_place.specs.Promises.Coordinates.{coordinate_of, bits_of}

-- a pattern that is no NaN's
pub no_nan : (n : ℕ) → nan_bits binary64 n ≡ false → T (not (is_nan (of_bits binary64 n)))
no_nan n e = rw (← nan_bits_is binary64 n, e) tt

-- each of the 2^64 patterns comes back as it was
pub handed_on : (n : ℕ) → n < 2 ^ 64 → bits_of (coordinate_of n) ≡ n
handed_on n h = go (nan_bits binary64 n) refl
  where
    go : (t : Bool) → nan_bits binary64 n ≡ t → bits_of (coordinate_of n) ≡ n
    go true e = rw e refl
    go false e = rw e (to_bits-of_bits binary64 n (omega arith) (no_nan n e))
