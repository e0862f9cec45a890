-- `alerts_patterns::any_at` meets its contract. The invariant: the patterns from `at` on are still to be tried.
use Prim.Native.Nat.{◌-◌}
use lib.ListN.{length, drop}
use Rattle.alerts.specs.Text.{begins}
use Rattle.alerts_patterns.specs.Laws.Patterns.{Untried}
use Rattle.alerts_patterns.proofs.any_at.Given as goal

abbrev pub invariant-loop-e : goal.invariant-loop-e
invariant-loop-e l = Untried 0x7c (λ p. begins p (drop l.i l.s)) l.table l.at l.e

abbrev pub decreases-loop-e : goal.decreases-loop-e
decreases-loop-e l = length l.table - l.e
