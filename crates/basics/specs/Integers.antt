-- Believe: 01, Times and status. A number wrapped to 32 bits: its low 32 bits, read as a signed number in two's
-- complement.
use Rattle.std.specs.Prelude.{cond, ℕ, ◌-◌, ◌%◌, ℤ, pos, negsuc, ltb}

abbrev pub low32 : ℤ → ℕ
low32 (pos n) = n % 4294967296
low32 (negsuc n) = 4294967295 - n % 4294967296

abbrev pub signed32 : ℕ → ℤ
signed32 n = cond (ltb n 2147483648) (pos n) (negsuc (4294967295 - n))

abbrev pub wrap32 : ℤ → ℤ
wrap32 z = signed32 (low32 z)
