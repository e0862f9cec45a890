-- Believe: the probes' answers. Where the state of a buffer ends, and at which length the calls are asked.
use Rattle.std.specs.Prelude.{ℕ, cond, leb, length}
use Rattle.std.proofs.Math.Option.{Option, none, some}
use Rattle.formats.specs.Format.{write}
use Rattle.overlay.specs.Buffer.{published}
use Rattle.overlay.specs.State.{State, overlay}

-- 0 where there is no state
abbrev pub end_of : Option State → ℕ
end_of none = 0
end_of (some s) = length (write overlay s)

-- over a buffer of n bytes: its own length, where that is not more than the published one
abbrev pub length_of : ℕ → ℕ
length_of n = cond (leb n published) n published
