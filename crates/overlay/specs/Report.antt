-- Believe: 01, Overlay. What a report call gives: the version and, for a feed id, `trip_update_count` and the header
-- timestamp. 25 bytes, numbers low byte first: version 8, count 8, whether there is a timestamp 1, the timestamp 8
-- (its 64 bits).
use Rattle.std.specs.Prelude.{ℕ, suc, ◌-◌, ◌^◌, List, ◌∷◌, ◌++◌, ℤ, pos, negsuc}
use Rattle.std.proofs.Common.{inl, inr}
use Rattle.formats.specs.Number.{little_w}
use Rattle.basics.specs.Options.{Maybe}
use Rattle.overlay.specs.State.{State, version_of, timestamp_of, count_of}
use Rattle.overlay.specs.Change.{feed_at}

-- the 64 bits of a signed number
abbrev pub bits64 : ℤ → ℕ
bits64 (pos n) = n
bits64 (negsuc n) = 2 ^ 64 - suc n

abbrev pub stamped : Maybe ℤ → List ℕ
stamped (inl x) = 0 ∷ little_w 8 0
stamped (inr z) = 1 ∷ little_w 8 (bits64 z)

-- an unknown feed gives 0 and absent
unfoldable pub report : List ℕ → State → List ℕ
report f s = little_w 8 (version_of s) ++ (little_w 8 (count_of (feed_at f s)) ++ stamped (timestamp_of (feed_at f s)))
