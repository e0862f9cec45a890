-- `alerts_text::lines::any_near` meets its contract. The invariant: the patterns from `at` on are still to be tried.
use Rattle.alerts_text.specs.Promises.Tables.{near_filled}
use Prim.Native.Nat.{◌-◌}
use lib.ListN.{length}
use Rattle.alerts_patterns.specs.Laws.Patterns.{Untried}
use Rattle.alerts_text.proofs.lines.any_near.Given as goal

abbrev pub invariant-loop-e : goal.invariant-loop-e
invariant-loop-e l = Untried 0x7c (near_filled l.s l.name) l.table l.at l.e

abbrev pub decreases-loop-e : goal.decreases-loop-e
decreases-loop-e l = length l.table - l.e
