-- The cycle {group, skip}. The measure is the depth left, twice, and one more in `group`; the loop of `group` goes
-- by the bytes left.
-- The answers stand in the call of each member's `spec`, with no signature of their own. Assumes nothing.
use Prim.Native.Nat.{◌+◌, ◌-◌}
use mathlib.Core.Path.{◌≡◌}
use lib.ListN.{length, drop}
use Rattle.wire.specs.Wire.{in_group, value}
use Rattle.wire.proofs.Cursor.+group_skip.Given as goal

abbrev pub decreases-group : goal.decreases-group
decreases-group l = l.depth + l.depth + 1

abbrev pub invariant-group-loop-n : goal.invariant-group-loop-n
invariant-group-loop-n l =
    in_group (value l.depth) l.number (drop l.initial.here.at l.s)
    ≡ in_group (value l.depth) l.number (drop l.here.at l.s)

abbrev pub decreases-group-loop-n : goal.decreases-group-loop-n
decreases-group-loop-n l = length l.s - l.here.at

abbrev pub decreases-skip : goal.decreases-skip
decreases-skip l = l.depth + l.depth
