-- `alerts_lines::mark_last` meets its contract. The invariant: the numbers up to k are marked.
use Prim.Native.Nat.{◌-◌}
use Rattle.alerts_lines.specs.Promises.Lines.{last_of}
use Rattle.alerts_lines.specs.Laws.Marking.{Marking}
use Rattle.alerts_lines.proofs.mark_last.Given as goal

abbrev pub invariant-loop-k : goal.invariant-loop-k
invariant-loop-k l = Marking (last_of l.s) 5 19 l.initial.marks l.marks l.k

abbrev pub decreases-loop-k : goal.decreases-loop-k
decreases-loop-k l = 19 - l.k
