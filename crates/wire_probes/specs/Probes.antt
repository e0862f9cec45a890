-- Believe: the probes' answers. What the probes answer, by the definitions of `slices` and `wire`.
use Rattle.std.specs.Prelude.{cond, ℕ, ◌-◌, List, [], ◌∷◌, length, drop, leb}
use Rattle.std.proofs.Math.Option.{Option, none, some}
use Rattle.std.specs.Int.Bits.{bit_xor}
use Rattle.slices.specs.Lists.{pasted}
use Rattle.std.specs.declared.cmp.Ordering.{Ordering}
use Rattle.std.specs.declared.cmp.Ordering.TheVariants.{Less, Equal, Greater}
use Rattle.wire.specs.Wire.{Read, broken, read, varint, Field, field, many}

abbrev pub end_of : List ℕ → Read Field → ℕ
end_of s broken = 0
end_of s (read f r) = length s - length r

-- where the field at `at` ends; a field takes a byte at least, so 0 says that it is broken
abbrev pub field_end : List ℕ → ℕ → ℕ
field_end s at = end_of s (field 16 (drop at s))

abbrev pub xor_all : ℕ → List ℕ → ℕ
xor_all acc [] = acc
xor_all acc (n ∷ l) = xor_all (bit_xor acc n) l

abbrev pub xor_of : ℕ → Option (List ℕ) → ℕ
xor_of acc none = 0
xor_of acc (some l) = xor_all acc l

-- the exclusive or of the numbers, one behind the other up to the end
abbrev pub xor_numbers : List ℕ → ℕ
xor_numbers s = xor_of 0 (many varint (length s) s)

-- d with s in front, where it fits
abbrev pub copied : List ℕ → List ℕ → List ℕ
copied d s = cond (leb (length s) (length d)) (pasted d 0 s) d

abbrev pub order_number : Ordering → ℕ
order_number Less = 0
order_number Equal = 1
order_number Greater = 2
