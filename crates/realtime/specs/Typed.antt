-- Believe: 01, Wire reader. A 64-bit number by its type in Protocol Buffers, and a text: what the last scalar of a
-- field says.
use Rattle.std.specs.Prelude.{ℕ, ◌%◌, List, [], Bool, not, eqb, ℤ}
use Rattle.std.proofs.Math.Option.{Option, none, some}
use Rattle.std.specs.Int.{w32, w64}
use Rattle.std.proofs.Common.{to_z}
use Rattle.realtime.specs.Tree.{Leaf, count, words}

-- the narrower ones keep the low bits
abbrev pub uint32 : ℕ → ℕ
uint32 n = n % 4294967296

abbrev pub int32 : ℕ → ℤ
int32 n = to_z w32 (uint32 n)

abbrev pub int64 : ℕ → ℤ
int64 n = to_z w64 n

-- nonzero, over all 64 bits
abbrev pub bool : ℕ → Bool
bool n = not (eqb n 0)

-- the number of an enum's value, by the low 32 bits. An unknown one is a value like any other
abbrev pub enum : ℕ → ℕ
enum n = uint32 n

-- the number of a scalar, or none; the bytes of a text, none where it is absent
abbrev pub number_in : Option Leaf → Option ℕ
number_in none = none
number_in (some (count n)) = some n
number_in (some (words x)) = none

abbrev pub text_in : Option Leaf → List ℕ
text_in none = []
text_in (some (count n)) = []
text_in (some (words x)) = x

abbrev pub or_zero : Option ℕ → ℕ
or_zero none = 0
or_zero (some n) = n
