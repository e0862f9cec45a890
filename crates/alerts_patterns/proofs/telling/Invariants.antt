-- `alerts_patterns::telling` meets its contract. The invariant: d lies in p.
use Prim.Native.Nat.{◌<◌}
use lib.ListN.{length}
use Rattle.alerts_patterns.proofs.telling.Given as goal

abbrev pub invariant-loop-d : goal.invariant-loop-d
invariant-loop-d l = l.d < length l.p

abbrev pub decreases-loop-d : goal.decreases-loop-d
decreases-loop-d l = l.d
