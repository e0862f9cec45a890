-- Promise. What the schema lists, as the code answers it.
use Rattle.std.specs.Prelude.{ℕ, zero, suc, ◌+◌, ◌*◌, ◌^◌}
use Rattle.std.proofs.Math.Option.{Option, none, some}
use Rattle.realtime.specs.Tree.{Kind, a_number, a_text, a_message}
use Rattle.realtime.specs.Schema.{feed}
use Rattle.realtime_read.specs.declared.Holds.{Holds}

-- a kind as the code has it
abbrev pub holds : Option Kind → Holds
holds none = Holds.Unlisted
holds (some a_number) = Holds.Number
holds (some a_text) = Holds.Text
holds (some (a_message u)) = Holds.Message u

-- the same in five bits
abbrev pub code : Option Kind → ℕ
code none = 0
code (some a_number) = 1
code (some a_text) = 2
code (some (a_message u)) = 3 + u

-- the codes of a type's first n fields, five bits each, that of field 0 lowest
abbrev pub codes : ℕ → ℕ → ℕ
codes t zero = 0
codes t (suc n) = codes t n + code (feed t n) * 32 ^ n

-- those of all its fields: every listed field has a number below 12
unfoldable pub row : ℕ → ℕ
row t = codes t 12
