-- `alerts_patterns::pair_from` meets its contract. The invariant: nothing stands before k.
use Prim.Native.Nat.{◌-◌}
use Rattle.alerts_patterns.specs.Promises.Occurrence.{SeeksTo}
use Rattle.alerts_patterns.proofs.pair_from.Given as goal

abbrev pub invariant-loop-k : goal.invariant-loop-k
invariant-loop-k l = SeeksTo l.a l.d l.lo l.hi l.s l.i l.e l.k

abbrev pub decreases-loop-k : goal.decreases-loop-k
decreases-loop-k l = l.e - l.k
