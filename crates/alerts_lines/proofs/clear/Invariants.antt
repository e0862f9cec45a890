-- `alerts_lines::clear` meets its contract. The invariant: the lines up to k are unmarked.
use Prim.Native.Nat.{◌-◌}
use Rattle.alerts_lines.specs.Laws.Marking.{Clearing}
use Rattle.alerts_lines.proofs.clear.Given as goal

abbrev pub invariant-loop-k : goal.invariant-loop-k
invariant-loop-k l = Clearing l.from l.past l.initial.l l.l l.k

abbrev pub decreases-loop-k : goal.decreases-loop-k
decreases-loop-k l = l.past - l.k
