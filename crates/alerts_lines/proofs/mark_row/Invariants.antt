-- `alerts_lines::mark_row` meets its contract. The invariant: what stands before i is marked.
use Prim.Native.Nat.{◌-◌}
use lib.ListN.{length}
use Rattle.alerts_lines.specs.Laws.Marking.{Scanned}
use Rattle.alerts_lines.proofs.mark_row.Given as goal

abbrev pub invariant-loop-i : goal.invariant-loop-i
invariant-loop-i l = Scanned l.s l.before l.first l.afters l.initial.marks l.marks l.i

abbrev pub decreases-loop-i : goal.decreases-loop-i
decreases-loop-i l = length l.s - l.i
