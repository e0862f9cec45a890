-- What was passed over leaves no trace in the tree.
use Prim.Native.Nat.{◌-◌, ◌≤◌}
use mathlib.Core.Path.{◌≡◌}
use lib.ListN.{length, drop}
use Rattle.realtime.specs.Tree.{tree}
use Rattle.realtime.specs.Schema.{feed}
use Rattle.realtime_read.proofs.next.Given as goal

abbrev pub invariant-loop-at : goal.invariant-loop-at
invariant-loop-at l =
    (tree feed l.message (drop l.from l.s) ≡ tree feed l.message (drop l.at l.s)) × (l.from ≤ l.at)

abbrev pub decreases-loop-at : goal.decreases-loop-at
decreases-loop-at l = length l.s - l.at
