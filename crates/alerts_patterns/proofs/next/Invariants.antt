-- `alerts_patterns::next` meets its contract. The invariant: the first b from i on is the first from k on.
use Prim.Native.Nat.{◌-◌}
use lib.ListN.{length}
use Rattle.alerts_patterns.specs.Laws.Patterns.{First}
use Rattle.alerts_patterns.proofs.next.Given as goal

abbrev pub invariant-loop-k : goal.invariant-loop-k
invariant-loop-k l = First l.b l.s l.i l.k

abbrev pub decreases-loop-k : goal.decreases-loop-k
decreases-loop-k l = length l.s - l.k
