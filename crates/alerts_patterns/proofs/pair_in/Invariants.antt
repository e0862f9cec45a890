-- `alerts_patterns::pair_in` meets its contract. The invariant: the places from k on are still to be looked at.
use Prim.Native.Nat.{◌-◌}
use lib.ListN.{length}
use Rattle.alerts_patterns.specs.Laws.Skipping.{Pairing}
use Rattle.alerts_patterns.proofs.pair_in.Given as goal

abbrev pub invariant-loop-k : goal.invariant-loop-k
invariant-loop-k l = Pairing l.a l.lo l.hi l.x l.y l.least l.k

abbrev pub decreases-loop-k : goal.decreases-loop-k
decreases-loop-k l = length l.x - l.k
