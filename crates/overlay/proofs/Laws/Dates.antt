-- Law. The longest start date and start time of the largest state.
use Rattle.std.specs.Prelude.{List, ℕ, replicate}

-- a start date, and a start time
abbrev pub day : List ℕ
day = replicate 16 97
