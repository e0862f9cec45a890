-- `alerts_lines::add` meets its contract. The invariant: the lines up to k are added.
use Prim.Native.Nat.{◌-◌}
use Rattle.alerts_lines.specs.Promises.Marks.{on}
use Rattle.alerts_lines.specs.Laws.Marking.{Marking}
use Rattle.alerts_lines.proofs.add.Given as goal

abbrev pub invariant-loop-k : goal.invariant-loop-k
invariant-loop-k l = Marking (on l.l) l.from l.past l.initial.marks l.marks l.k

abbrev pub decreases-loop-k : goal.decreases-loop-k
decreases-loop-k l = l.past - l.k
