-- `alerts_ids::run_end` meets its contract. The invariant: from a up to e there are letters and digits.
use Prim.Native.Nat.{◌-◌}
use lib.ListN.{length}
use Rattle.alerts_ids.specs.Laws.Pieces.{Lettered}
use Rattle.alerts_ids.proofs.run_end.Given as goal

abbrev pub invariant-loop-e : goal.invariant-loop-e
invariant-loop-e l = Lettered l.x l.a l.e

abbrev pub decreases-loop-e : goal.decreases-loop-e
decreases-loop-e l = length l.x - l.e
