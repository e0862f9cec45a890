-- Promise. What is due in the middle of a text of UTF-8, as the code holds it.
use Rattle.std.specs.Prelude.{List, [], ◌∷◌, ℕ, zero, suc, Some, None}
use Rattle.std.specs.Prelude
use Rattle.std.proofs.Math.Option.{Option, none, some}
use Rattle.formats.specs.Class.{Range}
use Rattle.formats_text.specs.declared.Due.{Due}

-- so many bytes, the first of them from low to high, and the others from 0x80 to 0xBF
abbrev pub ranges : ℕ → ℕ → ℕ → List Range
ranges zero low high = []
ranges (suc k) low high = (low, high) ∷ ranges k 0x80 0xBF

abbrev pub ranges_of : Due → List Range
ranges_of d = ranges d.more d.low d.high

abbrev pub due_of : Prelude.Option Due → Option (List Range)
due_of None = none
due_of (Some d) = some (ranges_of d)
