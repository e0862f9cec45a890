-- `alerts_lines::mark_table` meets its contract. The invariant: the families up to `at` are marked.
use Prim.Native.Nat.{◌-◌}
use lib.ListN.{length}
use Rattle.alerts_lines.specs.Laws.Marking.{Tabled}
use Rattle.alerts_lines.proofs.mark_table.Given as goal

abbrev pub invariant-loop-e : goal.invariant-loop-e
invariant-loop-e l = Tabled l.table l.first l.s l.initial.marks l.marks l.at l.e

abbrev pub decreases-loop-e : goal.decreases-loop-e
decreases-loop-e l = length l.table - l.e
